-- Words and their products in 64 bits.
use Rattle.std.proofs.Common.{◌≡◌, ℕ, zero, suc, ◌+◌, ◌-◌, ◌*◌, ◌%◌, ◌^◌, ◌<◌, ◌≤◌, ℤ, pos, negsuc, ◌*ℤ◌, neg_ℤ, nat_abs, mul-le-mul, arith, shl_exact, to_z-of_z, w32, w64, SFits, to_z, of_z}
use lib.Bits.{bit_or, or_shifted}
use lib.Signed.{mag, nat_abs-le}
use mir.Facts.{sfits_widen}

pub words_joined : (high low : ℕ) → high < 2 ^ 32 → low < 2 ^ 32 → bit_or (high * 2 ^ 32 % 2 ^ 64) low ≡ high * 2 ^ 32 + low
words_joined high low f g = rw (shl_exact 32 32 64 f (omega arith)) (or_shifted high 32 low g)

pub product_below : (x y : ℕ) → x < 2 ^ 32 → y < 2 ^ 32 → x * y < 2 ^ 64
product_below x y f g = omega (arith, mul-le-mul {n₁ = x} {m₁ = y} {n₂ = 2 ^ 32 - 1} {m₂ = 2 ^ 32 - 1} (omega arith) (omega arith))

mag_negated : (n : ℕ) → mag (neg_ℤ (pos n)) ≤ n
mag_negated zero = omega arith
mag_negated (suc n) = omega arith

mag_product : (a b : ℤ) → mag (a *ℤ b) ≤ nat_abs a * nat_abs b
mag_product (pos a) (pos b) = omega arith
mag_product (pos a) (negsuc b) = mag_negated (a * suc b)
mag_product (negsuc a) (pos b) = mag_negated (suc a * b)
mag_product (negsuc a) (negsuc b) = omega arith

pub product_fits : (a b : ℤ) → SFits w32 a → SFits w32 b → SFits w64 (a *ℤ b)
product_fits a b f g =
    record { sfits = omega (arith, mag_product a b, mul-le-mul (nat_abs-le a f.sfits) (nat_abs-le b g.sfits)) }

-- an i32 taken for an i64
pub widened : {z : ℤ} → SFits w32 z → to_z w64 (of_z w64 (to_z w32 (of_z w32 z))) ≡ z
widened f = rw (to_z-of_z f) (to_z-of_z (sfits_widen {w = w32} {w' = w64} tt f))
