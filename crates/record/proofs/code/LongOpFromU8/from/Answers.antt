use lib.ListN.{get_or-eq_default}
use mathlib.Core.List.{[], ◌∷◌}
use mathlib.Core.Path.{sym}
use native.Mathlib.Omega.{arith}
use Rattle.record.specs.declared.op.LongOp.TheVariants.{Umull, Umlal, Smull, Smlal}
use Rattle.record.proofs.code.LongOpFromU8.from.Goals as goal

pub returns-in_default : goal.returns-in_default
returns-in_default c = sym (get_or-eq_default (Umull ∷ Umlal ∷ Smull ∷ []) Smlal (omega arith))
