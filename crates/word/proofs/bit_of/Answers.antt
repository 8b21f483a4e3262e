use Prim.Native.Nat.{◌/◌, ◌^◌}
use native.Mathlib.Omega.{arith}
use borrow.Author.Tests.{le-ltb}
use lib.Bits.{and_mask}
use Rattle.word.proofs.Numbers.{none_above}
use Rattle.word.proofs.bit_of.Goals as goal

pub returns-then-place-lt32 : goal.returns-then-place-lt32
returns-then-place-lt32 c = let a = c.args in rw (and_mask (a.x / 2 ^ a.place) 1)

pub returns-else-place-lt32 : goal.returns-else-place-lt32
returns-else-place-lt32 c =
    let a = c.args in
    rw (le-ltb a.place 32 c.if-place-lt32.false, none_above {x = a.x} a.place 32 (omega arith) (omega arith))
