use Prim.Native.Nat.{◌-◌, ◌/◌, ◌^◌}
use mathlib.Core.Path.{◌≡◌}
use native.Mathlib.Omega.{arith}
use lib.Pow.{shr_le}
use borrow.Author.Tests.{ne_eqb}
use Rattle.word.proofs.Numbers.{none_above}
use Rattle.shift.specs.Shift.{LSR}
use Rattle.shift.proofs.lsr.Goals as goal

pub returns-then-amount-eq0 : goal.returns-then-amount-eq0
unfolding LSR
returns-then-amount-eq0 c =
    let a = c.args in
    let v : a.x / 2 ^ 0 ≡ a.x = omega arith in
    rw (c.if-amount-eq0.true, v)

pub returns-then-amount-ge33 : goal.returns-then-amount-ge33
unfolding LSR
returns-then-amount-ge33 c =
    let a = c.args in
    let value = none_above {x = a.x} a.amount 32 (omega arith) (omega arith) in
    let last = none_above {x = a.x} (a.amount - 1) 32 (omega arith) (omega arith) in
    simp (value, last, ne_eqb a.amount 0 (omega arith))

pub overflow_cast-result-3 : goal.overflow_cast-result-3
overflow_cast-result-3 c = let a = c.args in omega (arith, shr_le a.x a.amount)

pub returns : goal.returns
unfolding LSR
returns c = simp (c.bit_of-last.ensures, ne_eqb c.args.amount 0 (omega arith))
