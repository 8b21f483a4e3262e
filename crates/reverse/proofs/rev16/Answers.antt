use Prim.Native.Nat.{ℕ, ◌+◌, ◌*◌, ◌/◌, ◌%◌, ◌^◌}
use mathlib.Core.Path.{◌≡◌}
use native.Mathlib.Omega.{arith}
use lib.Bits.{bit_and}
use Rattle.reverse.specs.Reverse.{REV16, byte_of}
use Rattle.reverse.proofs.Laws.{alternate, joined}
use Rattle.reverse.proofs.rev16.Goals as goal

even : (x : ℕ) → bit_and x 0x00ff_00ff * 2 ^ 8 % 2 ^ 32 ≡ byte_of 2 x * 2 ^ 8 * 2 ^ 16 + byte_of 0 x * 2 ^ 8
even x = rw (alternate x) (omega arith)

odd : (x : ℕ) → bit_and (x / 2 ^ 8) 0x00ff_00ff ≡ byte_of 3 x * 2 ^ 16 + byte_of 1 x
odd x = rw (alternate (x / 2 ^ 8)) (omega arith)

pub returns : goal.returns
unfolding REV16
returns c =
    let x = c.args.x in
    rw (even x, odd x, joined (byte_of 2 x) (byte_of 3 x) (byte_of 0 x) (byte_of 1 x) (omega arith) (omega arith) (omega arith)) (omega arith)
