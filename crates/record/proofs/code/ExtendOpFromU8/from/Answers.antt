use lib.ListN.{get_or-eq_default}
use mathlib.Core.List.{[], ◌∷◌}
use mathlib.Core.Path.{sym}
use native.Mathlib.Omega.{arith}
use Rattle.record.specs.declared.op.ExtendOp.TheVariants.{Sxtb, Sxth, Uxtb, Uxth}
use Rattle.record.proofs.code.ExtendOpFromU8.from.Goals as goal

pub returns-in_default : goal.returns-in_default
returns-in_default c = sym (get_or-eq_default (Sxtb ∷ Sxth ∷ Uxtb ∷ []) Uxth (omega arith))
