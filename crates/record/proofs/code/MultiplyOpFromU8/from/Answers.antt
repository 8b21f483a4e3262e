use lib.ListN.{get_or-eq_default}
use mathlib.Core.List.{[], ◌∷◌}
use mathlib.Core.Path.{sym}
use native.Mathlib.Omega.{arith}
use Rattle.record.specs.declared.op.MultiplyOp.TheVariants.{Mul, Mla, Mls}
use Rattle.record.proofs.code.MultiplyOpFromU8.from.Goals as goal

pub returns-in_default : goal.returns-in_default
returns-in_default c = sym (get_or-eq_default (Mul ∷ Mla ∷ []) Mls (omega arith))
