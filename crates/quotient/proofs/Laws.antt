-- Quotients, of signed numbers rounded toward zero.
use Prim.Native.Nat.{ℕ, zero, suc, ◌-◌, ◌/◌, ◌^◌, ◌≤◌, ◌<◌}
use mathlib.Core.Path.{◌≡◌, refl, sym, ap, ◌∙◌}
use native.Mathlib.Omega.{arith}
use native.Mathlib.Nat.{div-one, div-le_self, div-lt_self, mod-eq_of_lt}
use lib.IntN.{ℤ, pos, negsuc, neg_ℤ, nat_abs}
use lib.Signed.{mag, quot_z}
use mir.Syntax.{Width, w32}
use mir.Val.{SFits, hbits, to_z, of_z}
use borrow.Author.Tests.{eq-eqb, ne_eqb}
use Rattle.std.proofs.Common.{Option, None, Some, SomeIff}
use Rattle.std.specs.Option.{unwrap_or}
use Rattle.word.specs.Word.{wrapped}
use Rattle.word.proofs.Cases.{cases, le_or_gt}
use Rattle.quotient.specs.Quotient.{UDIV}
use Rattle.word.proofs.Integers.{signed_bits, wrapped_signed}

mag_negated : (n k : ℕ) → n ≤ suc k → mag (neg_ℤ (pos n)) ≤ k
mag_negated zero k h = omega arith
mag_negated (suc n) k h = omega arith

-- a quotient has the width of the dividend, but for the minimum by minus one
pub quotient_fits : {w : Width} (x y : ℤ) → SFits w x → (x ≡ negsuc (2 ^ hbits w - 1) → y ≡ negsuc 0 → ⊥) → SFits w (quot_z x y)
quotient_fits (pos a) (pos b) f apart = record { sfits = omega (arith, f.sfits, div-le_self a b) }
quotient_fits (pos a) (negsuc b) f apart =
    let h : a / suc b ≤ suc a = omega (arith, div-le_self a (suc b)) in
    record { sfits = omega (arith, f.sfits, mag_negated (a / suc b) a h) }
quotient_fits (negsuc a) (pos b) f apart =
    record { sfits = omega (arith, f.sfits, mag_negated (suc a / b) a (div-le_self (suc a) b)) }
quotient_fits {w} (negsuc a) (negsuc zero) f apart =
    let h : a ≡ 2 ^ hbits w - 1 → ⊥ = λ e. apart (ap negsuc e) refl in
    record { sfits = omega (arith, f.sfits, div-one (suc a)) }
quotient_fits (negsuc a) (negsuc (suc b)) f apart =
    record { sfits = omega (arith, f.sfits, div-lt_self {n = suc a} {k = suc (suc b)} (omega arith) (omega arith)) }

abs_negated : (n : ℕ) → nat_abs (neg_ℤ (pos n)) ≡ n
abs_negated zero = refl
abs_negated (suc n) = refl

-- no quotient is larger than the dividend
quotient_le : (x y : ℤ) → nat_abs (quot_z x y) ≤ nat_abs x
quotient_le (pos a) (pos b) = div-le_self a b
quotient_le (pos a) (negsuc b) = rw (abs_negated (a / suc b)) (div-le_self a (suc b))
quotient_le (negsuc a) (pos b) = rw (abs_negated (suc a / b)) (div-le_self (suc a) b)
quotient_le (negsuc a) (negsuc b) = div-le_self (suc a) (suc b)

-- the 32 bits of an integer that a word holds as a number of either kind
bits_held : (z : ℤ) → nat_abs z ≤ 2 ^ 31 → (of_z w32 z < 2 ^ 32) × (of_z w32 z ≡ wrapped 32 z)
unfolding wrapped
bits_held (pos n) h = (omega arith, sym (mod-eq_of_lt (omega arith)))
bits_held (negsuc n) h = (omega arith, rw (mod-eq_of_lt {n = n} {m = 2 ^ 32} (omega arith)) (omega arith))

-- the bits of a quotient, though one of them, 2 ^ 31, is no i32
pub quotient_bits : (x y : ℤ) → nat_abs x ≤ 2 ^ 31 → wrapped 32 (to_z w32 (of_z w32 (quot_z x y))) ≡ wrapped 32 (quot_z x y)
quotient_bits x y h =
    let q = quot_z x y in
    let k = bits_held q (omega (arith, quotient_le x y)) in
    ap (wrapped 32) (signed_bits w32 (of_z w32 q) k.0) ∙ wrapped_signed (of_z w32 q) k.0 ∙ k.1

pub quotient_or_zero : (q : Option ℕ) (x y : ℕ) → SomeIff q (0 < y) (x / y) → unwrap_or q 0 ≡ UDIV x y
unfolding UDIV
quotient_or_zero None x y h = let e : y ≡ 0 = cases (le_or_gt 1 y) (λ l. absurd (h l)) (λ l. omega arith) in rw (eq-eqb y 0 e)
quotient_or_zero (Some q) x y h = rw (ne_eqb y 0 (omega (arith, h.0))) h.1
