use Prim.Native.Nat.{◌^◌, ◌≤◌, ◌<◌}
use native.Mathlib.Omega.{arith}
use lib.Pow.{pow_mono, pow_pos}
use Rattle.word.proofs.Numbers.{none_below}
use Rattle.word.proofs.ones.Goals as goal

bounds : (c : goal.Then-count-lt32) → (0 < 2 ^ c.args.count) × (2 ^ c.args.count ≤ 2 ^ 31)
bounds c = let count = c.args.count in (pow_pos count, pow_mono {i = count} {j = 31} (omega arith))

pub overflow_sub-result : goal.overflow_sub-result
overflow_sub-result c = omega (arith, bounds c)

pub returns-then-count-lt32 : goal.returns-then-count-lt32
returns-then-count-lt32 c = omega (arith, bounds c)

pub returns-else-count-lt32 : goal.returns-else-count-lt32
returns-else-count-lt32 c =
    let count = c.args.count in
    omega (arith, none_below 1 count 32 (omega arith), pow_pos count)
