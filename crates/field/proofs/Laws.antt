-- A field taken out by a mask, one put in by a mask, and one made signed.
use Prim.Native.Nat.{ℕ, suc, ◌+◌, ◌-◌, ◌*◌, ◌%◌, ◌^◌, ◌≤◌, ◌<◌, min}
use mathlib.Core.Path.{◌≡◌, refl, sym}
use mathlib.Core.Bool.{Bool, true, false, not, ◌&&◌, ◌||◌}
use native.Mathlib.Omega.{arith}
use native.Mathlib.Nat.{mod-eq_of_lt}
use borrow.Author.Tests.{le-leb, lt-leb, lt-ltb, le-ltb}
use lib.Bits.{bit_and, bit_or, and_mask, or_lt, and_le_l, or_shifted_r}
use lib.Dec.{leb, ltb}
use lib.Pow.{pow_pos, pow_mono, high_ones}
use Rattle.std.specs.Bool.{if◌then◌else◌}
use Rattle.word.specs.Word.{bit, signed_in, wrapped}
use Rattle.word.proofs.Cases.{cases, le_or_gt}
use Rattle.word.proofs.Integers.{minus_more}
use Rattle.word.proofs.Numbers.{ones_mod, mod_min}
use Rattle.word.proofs.Bits.{bit-bit_and, bit-bit_or, bit_mod, bit_shl, bit_ones, bit_inverted, by_bits}
use Rattle.field.specs.Field.{BFI}

pub taken : (y width : ℕ) → y < 2 ^ 32 → bit_and y ((2 ^ width - 1) % 2 ^ 32) ≡ y % 2 ^ width
taken y width h = rw (ones_mod width 32, and_mask y (min width 32)) (mod_min y width 32 h)

-- ---- put in, bit by bit
within : (lsb width i : ℕ) → (leb lsb i && ltb (i - lsb) width) ≡ (leb lsb i && ltb i (lsb + width))
within lsb width i =
    cases (le_or_gt lsb i)
    (λ l.
    cases (le_or_gt (lsb + width) i)
    (λ m. rw (le-ltb (i - lsb) width (omega arith), le-ltb i (lsb + width) m))
    (λ m. rw (lt-ltb (i - lsb) width (omega arith), lt-ltb i (lsb + width) m)))
    (λ l. rw (lt-leb lsb i l))

mask_bit : (lsb width i : ℕ) → i < 32 → bit i ((2 ^ width - 1) % 2 ^ 32 * 2 ^ lsb % 2 ^ 32) ≡ (leb lsb i && ltb i (lsb + width))
mask_bit lsb width i h =
    rw (
      bit_mod ((2 ^ width - 1) % 2 ^ 32 * 2 ^ lsb) 32 i h,
      bit_shl ((2 ^ width - 1) % 2 ^ 32) lsb i,
      bit_mod (2 ^ width - 1) 32 (i - lsb) (omega arith),
      bit_ones width (i - lsb),
    )
    (within lsb width i)

-- shifted in under the mask, or kept outside it
chosen : (p q r d : Bool) → (((p && q) && (p && r)) || (d && not (p && r))) ≡ (if p && r then q else d)
chosen true true true d = refl
chosen true false true true = refl
chosen true false true false = refl
chosen true true false true = refl
chosen true true false false = refl
chosen true false false true = refl
chosen true false false false = refl
chosen false q r true = refl
chosen false q r false = refl

module _ (d x lsb width : ℕ) (h : d < 2 ^ 32) where
  abbrev mask : ℕ
  mask = (2 ^ width - 1) % 2 ^ 32 * 2 ^ lsb % 2 ^ 32

  abbrev put : ℕ
  put = bit_or (bit_and (x * 2 ^ lsb % 2 ^ 32) mask) (bit_and d (2 ^ 32 - 1 - mask))

  pub put_in : put ≡ BFI d x lsb width
  unfolding BFI
  put_in =
      let y = x * 2 ^ lsb % 2 ^ 32 in
      let n = 2 ^ 32 - 1 - mask in
      by_bits 32 put (λ i. if leb lsb i && ltb i (lsb + width) then bit (i - lsb) x else bit i d)
      (or_lt 32 (bit_and y mask) (bit_and d n) (omega (arith, and_le_l y mask)) (omega (arith, and_le_l d n)))
      (λ i l.
      rw (
        bit-bit_or (bit_and y mask) (bit_and d n) i,
        bit-bit_and y mask i,
        bit-bit_and d n i,
        bit_inverted 32 mask i (omega arith) l,
        bit_mod (x * 2 ^ lsb) 32 i l,
        bit_shl x lsb i,
        mask_bit lsb width i l,
      )
      (chosen (leb lsb i) (bit (i - lsb) x) (ltb i (lsb + width)) (bit i d)))

pub put_none : (d x lsb width : ℕ) → d < 2 ^ 32 → 32 ≤ lsb → d ≡ BFI d x lsb width
unfolding BFI
put_none d x lsb width h l =
    by_bits 32 d (λ i. if leb lsb i && ltb i (lsb + width) then bit (i - lsb) x else bit i d) h
    (λ i m. rw (lt-leb lsb i (omega arith)))

-- ---- made signed
pub filled : (f width : ℕ) → f < 2 ^ width → 2 ^ (width - 1) ≤ f → 1 ≤ width → width ≤ 32
    → bit_or f (2 ^ 32 - 1 - (2 ^ width - 1)) ≡ wrapped 32 (signed_in width f)
unfolding wrapped signed_in
filled f width h l p q =
    let e : (32 - width) + width ≡ 32 = omega arith in
    let top = rw e at (high_ones (32 - width) width) in
    let mask : 2 ^ 32 - 1 - (2 ^ width - 1) ≡ (2 ^ (32 - width) - 1) * 2 ^ width = omega (arith, top, pow_pos width) in
    let most = pow_mono {i = width} {j = 32} q in
    rw (
      mask,
      or_shifted_r (2 ^ (32 - width) - 1) width f h,
      le-leb (2 ^ (width - 1)) f l,
      minus_more f (2 ^ width) h,
      mod-eq_of_lt {n = 2 ^ width - suc f} {m = 2 ^ 32} (omega arith),
    )
    (omega arith)

pub kept : (f width : ℕ) → f < 2 ^ 32 → f < 2 ^ (width - 1) → f ≡ wrapped 32 (signed_in width f)
unfolding wrapped signed_in
kept f width h l = rw (lt-leb (2 ^ (width - 1)) f l) (sym (mod-eq_of_lt h))
