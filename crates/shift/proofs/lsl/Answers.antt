use Prim.Native.Nat.{◌*◌, ◌/◌, ◌%◌, ◌^◌}
use mathlib.Core.Path.{◌≡◌}
use native.Mathlib.Omega.{arith}
use lib.Bits.{and_mask}
use borrow.Author.Tests.{ne_eqb}
use Rattle.word.proofs.Numbers.{none_below, bit_clear}
use Rattle.shift.specs.Shift.{LSL}
use Rattle.shift.proofs.lsl.Goals as goal

pub returns-then-amount-eq0 : goal.returns-then-amount-eq0
unfolding LSL
returns-then-amount-eq0 c =
    let a = c.args in
    let v : a.x * 2 ^ 0 % 2 ^ 32 ≡ a.x = omega arith in
    rw (c.if-amount-eq0.true, v)

pub returns-then-amount-gt32 : goal.returns-then-amount-gt32
unfolding LSL
returns-then-amount-gt32 c =
    let a = c.args in
    simp (none_below a.x a.amount 32 (omega arith), bit_clear a.x a.amount 32 (omega arith), ne_eqb a.amount 0 (omega arith))

pub overflow_cast-result : goal.overflow_cast-result
overflow_cast-result c = let a = c.args in omega (arith, and_mask (a.x * 2 ^ a.amount % 2 ^ 64) 32)

pub returns : goal.returns
unfolding LSL
returns c =
    let a = c.args in
    let p = a.x * 2 ^ a.amount in
    let v : p % 2 ^ 64 % 2 ^ 32 ≡ p % 2 ^ 32 = omega arith in
    let w : p % 2 ^ 64 / 2 ^ 32 % 2 ≡ p / 2 ^ 32 % 2 = omega arith in
    simp (and_mask (p % 2 ^ 64) 32, and_mask (p % 2 ^ 64 / 2 ^ 32) 1, v, w, ne_eqb a.amount 0 (omega arith))
