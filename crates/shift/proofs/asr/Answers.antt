use Prim.Native.Nat.{◌-◌, min}
use mathlib.Core.Path.{◌≡◌}
use native.Mathlib.Omega.{arith}
use borrow.Author.Tests.{ne_eqb}
use Rattle.word.proofs.Integers.{wrapped_signed}
use Rattle.word.specs.Word.{signed}
use Rattle.shift.specs.Shift.{ASR}
use Rattle.shift.proofs.Laws.{all_sign, shift_none, shifted_signed}
use Rattle.shift.proofs.asr.Goals as goal

pub returns-then-amount-eq0 : goal.returns-then-amount-eq0
unfolding ASR
returns-then-amount-eq0 c =
    let a = c.args in
    rw (c.if-amount-eq0.true, shift_none, wrapped_signed a.x (omega arith))

pub returns-then-amount-ge32 : goal.returns-then-amount-ge32
unfolding ASR
returns-then-amount-ge32 c =
    let a = c.args in
    let s = c.signed_of in
    let v = shifted_signed a.x c.unsigned_of.result 31 s.result (record { sfits = s.type_inv }) s.ensures c.unsigned_of.ensures in
    let m : min (a.amount - 1) 31 ≡ 31 = omega arith in
    simp (
      v,
      c.bit_of.ensures,
      m,
      ne_eqb a.amount 0 (omega arith),
      all_sign (signed a.x) a.amount (rw s.ensures at s.type_inv) (omega arith),
    )

pub returns : goal.returns
unfolding ASR
returns c =
    let a = c.args in
    let s = c.signed_of-2 in
    let v = shifted_signed a.x c.unsigned_of-2.result a.amount s.result (record { sfits = s.type_inv }) s.ensures c.unsigned_of-2.ensures in
    let m : min (a.amount - 1) 31 ≡ a.amount - 1 = omega arith in
    simp (v, c.bit_of-2.ensures, m, ne_eqb a.amount 0 (omega arith))
