use Prim.Native.Nat.{◌^◌, ◌-◌, min}
use mathlib.Core.Path.{◌≡◌, refl, ◌∙◌}
use native.Mathlib.Omega.{arith}
use lib.IntN.{pos, negsuc, ◌-ℤ◌}
use mir.Syntax.{w32}
use mir.Val.{SFits, to_z, of_z}
use mir.Facts.{to_z-of_z}
use Rattle.word.proofs.Integers.{minus_one_less}
use Rattle.saturate.specs.Saturate.{SSAT}
use Rattle.saturate.proofs.Laws.{most_held, least_held}
use Rattle.saturate.proofs.ssat.Goals as goal

most : (c : goal.After-most_of-most) → to_z w32 (of_z w32 c.most_of-most.result) ≡ pos (min (2 ^ (c.args.bits - 1)) (2 ^ 31) - 1)
most c =
    to_z-of_z {w = w32} (record { sfits = c.most_of-most.type_inv }) ∙ rw c.saturating_sub.ensures at c.most_of-most.ensures

-- the least, and that it is an i32
least : (c : goal.After-most_of-most)
    → let n = 2 ^ (c.args.bits - 1) in
    let z = negsuc 0 -ℤ to_z w32 (of_z w32 c.most_of-most.result) in
    (z ≡ negsuc (min n (2 ^ 31) - 1)) × SFits w32 z
least c =
    let k = min (2 ^ (c.args.bits - 1)) (2 ^ 31) - 1 in
    rw (most c, minus_one_less k) (refl, record { sfits = omega arith })

pub overflow_sub-most : goal.overflow_sub-most
overflow_sub-most c = (least c).1

pub returns : goal.returns
unfolding SSAT
returns c =
    let n = c.args.bits - 1 in
    let z = c.args.number in
    let l = least c.before in
    rw (c.saturate.ensures, to_z-of_z c.ranges.number, to_z-of_z l.1, l.0, most c.before)
    (most_held n (negsuc (min (2 ^ n) (2 ^ 31) - 1)) z c.ranges.number ∙ least_held n (pos (2 ^ n - 1)) z c.ranges.number)
