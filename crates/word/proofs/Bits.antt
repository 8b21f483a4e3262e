-- Single bits: of masks, sums of masks and shifts, and a number known by its bits.
use Prim.Native.Nat.{ℕ, zero, suc, ◌+◌, ◌-◌, ◌*◌, ◌/◌, ◌%◌, ◌^◌, ◌<◌, min, max}
use mathlib.Core.Path.{◌≡◌, refl, sym, ◌∙◌}
use mathlib.Core.Bool.{Bool, not, ◌&&◌, ◌||◌}
use native.Mathlib.Omega.{arith}
use native.Mathlib.Numerals.{one-add}
use native.Mathlib.Nat.{mod-lt, mod-eq_of_lt, pow-suc, div-eq_of_lt, lt_of_lt_of_le, mul-div_cancel}
use borrow.Author.Tests.{eqb-true, le-leb, lt-leb, lt-ltb, le-ltb}
use lib.Bits.{bit_and, bit_or, bit_xor, and_shr, or_shr, xor_shr, and_step, or_step, xor_step, xor_add_and, and_mask, and_high, differ}
use lib.Arith.{lt-one}
use lib.Dec.{leb, ltb, eqb}
use lib.Pow.{pow_pos, pow_mono, field, mod-mod-pow, shr-shr, ones_split, ones_lt, high, high_ones, mod-pow-add}
use Rattle.word.specs.Word.{bit, one_if, from_bits}
use Rattle.word.proofs.Cases.{cases, le_or_gt}
use Rattle.word.proofs.Numbers.{bit_clear}

-- ---- digits as truths
low_two : (d : ℕ) → d < 2 → (P : ℕ → Type 0) → P 0 → P 1 → P d
low_two zero h P p q = p
low_two (suc zero) h P p q = q
low_two (suc (suc d)) h P p q = absurd (omega arith)

digit : (x i : ℕ) → x / 2 ^ i % 2 < 2
digit x i = mod-lt (x / 2 ^ i) (omega arith)

min_both : (p q : ℕ) → p < 2 → q < 2 → eqb (min p q) 1 ≡ (eqb p 1 && eqb q 1)
min_both p q h l =
    low_two p h (λ (p : ℕ). eqb (min p q) 1 ≡ (eqb p 1 && eqb q 1))
    (low_two q l (λ (q : ℕ). eqb (min 0 q) 1 ≡ (eqb 0 1 && eqb q 1)) refl refl)
    (low_two q l (λ (q : ℕ). eqb (min 1 q) 1 ≡ (eqb 1 1 && eqb q 1)) refl refl)

max_either : (p q : ℕ) → p < 2 → q < 2 → eqb (max p q) 1 ≡ (eqb p 1 || eqb q 1)
max_either p q h l =
    low_two p h (λ (p : ℕ). eqb (max p q) 1 ≡ (eqb p 1 || eqb q 1))
    (low_two q l (λ (q : ℕ). eqb (max 0 q) 1 ≡ (eqb 0 1 || eqb q 1)) refl refl)
    (low_two q l (λ (q : ℕ). eqb (max 1 q) 1 ≡ (eqb 1 1 || eqb q 1)) refl refl)

differ_one : (p : ℕ) → p < 2 → eqb (differ p 1) 1 ≡ not (eqb p 1)
differ_one p h = low_two p h (λ (p : ℕ). eqb (differ p 1) 1 ≡ not (eqb p 1)) refl refl

differ_lt : (p : ℕ) → p < 2 → differ p 1 < 2
differ_lt p h = low_two p h (λ (p : ℕ). differ p 1 < 2) (omega arith) (omega arith)

-- a bit as a number
pub one_if_bit : (i x : ℕ) → one_if (bit i x) ≡ x / 2 ^ i % 2
one_if_bit i x = low_two (x / 2 ^ i % 2) (digit x i) (λ (p : ℕ). one_if (eqb p 1) ≡ p) refl refl

-- ---- the bits of each operation
pub bit-bit_and : (a b i : ℕ) → bit i (bit_and a b) ≡ (bit i a && bit i b)
bit-bit_and a b i =
    let e : bit_and (a / 2 ^ i) (b / 2 ^ i) % 2 ≡ min (a / 2 ^ i % 2) (b / 2 ^ i % 2) = omega (arith, and_step (a / 2 ^ i) (b / 2 ^ i)) in
    rw (and_shr a b i, e) (min_both (a / 2 ^ i % 2) (b / 2 ^ i % 2) (digit a i) (digit b i))

pub bit-bit_or : (a b i : ℕ) → bit i (bit_or a b) ≡ (bit i a || bit i b)
bit-bit_or a b i =
    let e : bit_or (a / 2 ^ i) (b / 2 ^ i) % 2 ≡ max (a / 2 ^ i % 2) (b / 2 ^ i % 2) = omega (arith, or_step (a / 2 ^ i) (b / 2 ^ i)) in
    rw (or_shr a b i, e) (max_either (a / 2 ^ i % 2) (b / 2 ^ i % 2) (digit a i) (digit b i))

pub bit_shr : (x k i : ℕ) → bit i (x / 2 ^ k) ≡ bit (k + i) x
bit_shr x k i = rw (shr-shr x k i)

-- the low k bits
pub bit_mod : (x k i : ℕ) → i < k → bit i (x % 2 ^ k) ≡ bit i x
bit_mod x k i h =
    let e : (k - i) + i ≡ k = omega arith in
    let f : (k - i - 1) + 1 ≡ k - i = omega arith in
    let q = rw e at (field x (k - i) i) in
    let r = rw f at (mod-mod-pow (x / 2 ^ i) (k - i - 1) 1) in
    rw (q, r)

-- i places up: nothing comes in below
pub bit_shl : (x s i : ℕ) → bit i (x * 2 ^ s) ≡ (leb s i && bit (i - s) x)
bit_shl x s i =
    cases (le_or_gt s i)
    (λ l.
    let e : s + (i - s) ≡ i = omega arith in
    let d : x * 2 ^ s / 2 ^ s / 2 ^ (i - s) ≡ x * 2 ^ s / 2 ^ i = rw e at (shr-shr (x * 2 ^ s) s (i - s)) in
    rw (← d, mul-div_cancel x (pow_pos s), le-leb s i l))
    (λ l. rw (bit_clear x s i l, lt-leb s i l))

pub bit_ones : (k i : ℕ) → bit i (2 ^ k - 1) ≡ ltb i k
bit_ones k i =
    cases (le_or_gt k i)
    (λ l. rw (div-eq_of_lt (lt_of_lt_of_le (ones_lt k) (pow_mono l)), le-ltb i k l))
    (λ l.
    let e : (k - i) + i ≡ k = omega arith in
    let s = rw e at (ones_split (k - i) i) in
    let f : suc (k - i - 1) ≡ k - i = omega arith in
    let p : 2 ^ (k - i) ≡ 2 ^ (k - i - 1) * 2 = rw f at (pow-suc 2 (k - i - 1)) in
    let o : (2 ^ (k - i) - 1) % 2 ≡ 1 = omega (arith, pow_pos (k - i - 1)) in
    rw (s, high (2 ^ (k - i) - 1) i (ones_lt i), o, lt-ltb i k l))

pub bit_inverted : (k x i : ℕ) → x < 2 ^ k → i < k → bit i (2 ^ k - 1 - x) ≡ not (bit i x)
bit_inverted k x i h l =
    let m = 2 ^ k - 1 in
    let u = x / 2 ^ i in
    let as_xor : bit_xor x m ≡ m - x = omega (arith, xor_add_and x m, and_mask x k, mod-eq_of_lt h) in
    let one : m / 2 ^ i % 2 ≡ 1 = eqb-true (m / 2 ^ i % 2) 1 (bit_ones k i ∙ lt-ltb i k l) in
    let low : bit_xor u (m / 2 ^ i) % 2 ≡ differ (u % 2) 1 = omega (arith, rw one at (xor_step u (m / 2 ^ i)), differ_lt (u % 2) (digit x i)) in
    rw (← as_xor, xor_shr x m i, low) (differ_one (u % 2) (digit x i))

-- ---- a number known by its bits
pub from_bits_same : (n : ℕ) (f g : ℕ → Bool) → ((i : ℕ) → i < n → f i ≡ g i) → from_bits n f ≡ from_bits n g
from_bits_same zero f g h = refl
from_bits_same (suc n) f g h = rw (from_bits_same n f g (λ i l. h i (omega arith)), h n (omega arith))

pub from_bits_own : (n x : ℕ) → from_bits n (λ i. bit i x) ≡ x % 2 ^ n
from_bits_own zero x = omega arith
from_bits_own (suc n) x =
    rw (from_bits_own n x, one_if_bit n x, ← one-add n, mod-pow-add x 1 n) (omega arith)

-- a number of n bits whose bits are `at`
pub by_bits : (n x : ℕ) (at : ℕ → Bool) → x < 2 ^ n → ((i : ℕ) → i < n → bit i x ≡ at i) → x ≡ from_bits n at
by_bits n x at h e = sym (mod-eq_of_lt h) ∙ sym (from_bits_own n x) ∙ from_bits_same n (λ i. bit i x) at e

-- ---- masks
-- the mask of one bit
pub and_bit : (x i : ℕ) → bit_and x (2 ^ i) ≡ x / 2 ^ i % 2 * 2 ^ i
and_bit x i =
    let e : 2 ^ (1 + i) - 2 ^ i ≡ 2 ^ i = omega (arith, high_ones 1 i) in
    rw e at (and_high x 1 i)

both_lowest : (a b : ℕ) → a < 2 → b < 2 → min a (1 - b) + min a b ≡ a
both_lowest a b h l = omega arith

both_halves : (u v w z d : ℕ) → u + v ≡ d / 2 → w + z ≡ d % 2 → u * 2 + w + (v * 2 + z) ≡ d
both_halves u v w z d e f = omega arith

-- what a mask keeps and what its complement keeps are the whole
pub and_complement : (k x m : ℕ) → x < 2 ^ k → m < 2 ^ k → bit_and x (2 ^ k - 1 - m) + bit_and x m ≡ x
and_complement zero x m h l = rw (lt-one h)
and_complement (suc k) x m h l =
    let twice = pow-suc 2 k in
    let e : (2 ^ suc k - 1 - m) / 2 ≡ 2 ^ k - 1 - m / 2 = omega arith in
    let f : (2 ^ suc k - 1 - m) % 2 ≡ 1 - m % 2 = omega arith in
    rw (and_step x (2 ^ suc k - 1 - m), and_step x m, e, f)
    (both_halves _ _ _ _ x (and_complement k (x / 2) (m / 2) (omega arith) (omega arith))
    (both_lowest (x % 2) (m % 2) (omega arith) (omega arith)))
