use lib.ListN.{get_or-eq_default}
use mathlib.Core.List.{[], ◌∷◌}
use mathlib.Core.Path.{sym}
use native.Mathlib.Omega.{arith}
use Rattle.record.specs.declared.op.DataOp.TheVariants.{Add, Adc, Sub, Sbc, Rsb, And, Orr, Eor, Bic, Orn, Mov, Mvn, Cmp, Cmn, Tst, Teq}
use Rattle.record.proofs.code.DataOpFromU8.from.Goals as goal

pub returns-in_default : goal.returns-in_default
returns-in_default c = sym (get_or-eq_default (Add ∷ Adc ∷ Sub ∷ Sbc ∷ Rsb ∷ And ∷ Orr ∷ Eor ∷ Bic ∷ Orn ∷ Mov ∷ Mvn ∷ Cmp ∷ Cmn ∷ Tst ∷ []) Teq (omega arith))
