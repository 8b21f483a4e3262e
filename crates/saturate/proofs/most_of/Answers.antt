use Prim.Native.Nat.{◌^◌, ◌≤◌, ◌<◌, ◌-◌, min}
use mathlib.Core.Path.{◌≡◌, ap}
use native.Mathlib.Omega.{arith}
use lib.Pow.{pow_mono, pow_pos}
use lib.IntN.{pos}
use mir.Syntax.{w32}
use mir.Facts.{to_z-of_z}
use Rattle.saturate.proofs.most_of.Goals as goal

pub returns-then-bits-ge31 : goal.returns-then-bits-ge31
returns-then-bits-ge31 c = ap pos (omega (arith, pow_mono {i = 31} {j = c.args.bits} (omega arith)))

most : (c : goal.After-ones) → let n = 2 ^ c.args.bits in (c.ones.result ≡ n - 1) × (n ≤ 2 ^ 30) × (0 < n)
most c =
    let bits = c.args.bits in
    let top = pow_mono {i = bits} {j = 30} (omega arith) in
    let low = pow_pos bits in
    (omega (arith, c.ones.ensures), top, low)

pub overflow_cast-result : goal.overflow_cast-result
overflow_cast-result c = record { sfits = omega (arith, most c) }

pub returns : goal.returns
returns c =
    let e : c.ones.result ≡ min (2 ^ c.args.bits) (2 ^ 31) - 1 = omega (arith, most c) in
    rw (to_z-of_z {w = w32} {z = pos c.ones.result} (record { sfits = omega (arith, most c) }), e)
