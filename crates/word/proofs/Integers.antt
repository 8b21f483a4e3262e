-- Signed words. A local of type i32 is its bits, `of_z w32 z`, and an operation reads them back by `to_z w32`.
use Prim.Native.Nat.{ℕ, zero, suc, ◌+◌, ◌-◌, ◌*◌, ◌/◌, ◌%◌, ◌^◌, ◌≤◌, ◌<◌}
use mathlib.Core.Path.{◌≡◌, refl, sym, ap, ◌∙◌, subst}
use mathlib.Core.Bool.{Bool, true, false}
use native.Mathlib.Omega.{arith}
use native.Mathlib.Nat.{mod-eq_of_lt, mod-lt, add-mod-mod, div-add-mod', zero-mod, pow-suc}
use lib.Pow.{pow_pos, mod-mod-pow, ones_split}
use borrow.Author.Tests.{ltb-true, lt-ltb, le-ltb, lt-leb, le-leb}
use lib.Dec.{T}
use lib.IntN.{ℤ, pos, negsuc, nat_abs, ◌-ℤ◌, ◌+ℤ◌}
use lib.Signed.{lt_z, non_neg}
use mir.Syntax.{Width, w8, w16, w32, w64, w128}
use mir.Val.{Fits, SFits, to_z, of_z, bits, hbits}
use mir.ValLaws.{half_full}
use mir.Facts.{to_z-of_z, of_z-to_z, sfits_to_z}
use Rattle.word.specs.Word.{signed, signed_in, wrapped, inverted}
use Rattle.word.proofs.Cases.{cases, le_or_gt}
use Rattle.word.proofs.Numbers.{same_rest}

-- a difference below zero
pub minus_more : (a b : ℕ) → a < b → pos a -ℤ pos b ≡ negsuc (b - suc a)
minus_more a zero h = absurd (omega arith)
minus_more a (suc b) h = rw (lt-ltb a (suc b) h)

-- ---- a number of k bits below half of 2 ^ k, and from there on
below_half : (k x : ℕ) → x < 2 ^ (k - 1) → signed_in k x ≡ pos x
unfolding signed_in
below_half k x h = rw (lt-leb (2 ^ (k - 1)) x h)

pub from_half : (k x : ℕ) → 2 ^ (k - 1) ≤ x → x < 2 ^ k → signed_in k x ≡ negsuc (2 ^ k - suc x)
unfolding signed_in
from_half k x l h = rw (le-leb (2 ^ (k - 1)) x l) (minus_more x (2 ^ k) h)

pub signed_small : (x : ℕ) → x < 2 ^ 31 → signed x ≡ pos x
signed_small x h = below_half 32 x h

pub signed_large : (x : ℕ) → 2 ^ 31 ≤ x → x < 2 ^ 32 → signed x ≡ negsuc (2 ^ 32 - suc x)
signed_large x l h = from_half 32 x l h

one_more : (w : Width) → bits w ≡ suc (hbits w)
one_more w8 = refl
one_more w16 = refl
one_more w32 = refl
one_more w64 = refl
one_more w128 = refl

-- the bits of a number of any width read as signed are its signed number
pub signed_bits : (w : Width) (x : ℕ) → x < 2 ^ bits w → to_z w x ≡ signed_in (bits w) x
signed_bits w x h =
    let e : bits w - 1 ≡ hbits w = omega (arith, one_more w) in
    cases (le_or_gt (2 ^ hbits w) x)
    (λ l. rw (from_half (bits w) x (rw e l) h, le-ltb x (2 ^ hbits w) l))
    (λ l. rw (below_half (bits w) x (rw e l), lt-ltb x (2 ^ hbits w) l))

-- the bits of a signed number of any width are the integer modulo 2 ^ that width
pub wrapped_bits : {w : Width} (z : ℤ) → SFits w z → of_z w z ≡ wrapped (bits w) z
unfolding wrapped
wrapped_bits {w} (pos n) f = sym (mod-eq_of_lt (half_full w f.sfits))
wrapped_bits {w} (negsuc n) f = rw (mod-eq_of_lt (half_full w f.sfits)) (omega arith)

-- the bits of a word's signed number are the word
pub bits_of_signed : (x : ℕ) → x < 2 ^ 32 → of_z w32 (signed x) ≡ x
bits_of_signed x h = ap (of_z w32) (sym (signed_bits w32 x h)) ∙ of_z-to_z {w = w32} {n = x} (record { fits = h })

pub wrapped_signed : (x : ℕ) → x < 2 ^ 32 → wrapped 32 (signed x) ≡ x
wrapped_signed x h =
    let f = rw (signed_bits w32 x h) at (sfits_to_z {w = w32} {n = x} (record { fits = h })) in
    sym (wrapped_bits (signed x) f) ∙ bits_of_signed x h

-- a signed number whose bits are known
pub of_bits : {w : Width} (z : ℤ) (n : ℕ) → SFits w z → of_z w z ≡ n → z ≡ to_z w n
of_bits {w} z n f e = sym (to_z-of_z f) ∙ ap (to_z w) e

-- -1 - z turns every bit of z over
pub minus_one_minus : (n : ℕ) → negsuc 0 -ℤ negsuc n ≡ pos n
minus_one_minus n = rw (le-ltb (suc n) 1 (omega arith)) (ap pos (omega arith))

pub minus_one_less : (n : ℕ) → negsuc 0 -ℤ pos n ≡ negsuc n
minus_one_less zero = refl
minus_one_less (suc n) = ap negsuc (omega arith)

-- a number from half on is read by turning its bits over and taking that from -1
pub turned_over : (w : Width) (x : ℕ) → 2 ^ hbits w ≤ x → x < 2 ^ bits w
    → let z = negsuc 0 -ℤ to_z w (2 ^ bits w - 1 - x) in SFits w z × (to_z w (of_z w z) ≡ signed_in (bits w) x)
turned_over w x l h =
    let y = 2 ^ bits w - 1 - x in
    let twice : 2 ^ bits w ≡ 2 ^ hbits w * 2 = rw (one_more w) (pow-suc 2 (hbits w)) in
    let small : y < 2 ^ hbits w = omega arith in
    let e : bits w - 1 ≡ hbits w = omega (arith, one_more w) in
    let f : SFits w (negsuc y) = record { sfits = small } in
    let g : 2 ^ bits w - suc x ≡ y = omega arith in
    rw (lt-ltb y (2 ^ hbits w) small, minus_one_less y) (f, to_z-of_z f ∙ sym (rw g at (from_half (bits w) x (rw e l) h)))

pub signed_inverted : (x : ℕ) → x < 2 ^ 32 → signed (inverted x) ≡ negsuc 0 -ℤ signed x
signed_inverted x h =
    cases (le_or_gt (2 ^ 31) x)
    (λ l. rw (
      signed_large x l h,
      signed_small (inverted x) (omega arith),
      minus_one_minus (2 ^ 32 - suc x),
    ) (ap pos (omega arith)))
    (λ l.
    rw (signed_small x l, signed_large (inverted x) (omega arith) (omega arith), minus_one_less x)
    (ap negsuc (omega arith)))

-- a sum modulo 2 ^ k is the sum of the bits
pub wrapped_add : (k x : ℕ) (z : ℤ) → wrapped k (pos x +ℤ z) ≡ (x + wrapped k z) % 2 ^ k
unfolding wrapped
wrapped_add k x (pos n) = sym (add-mod-mod x n (2 ^ k))
wrapped_add k x (negsuc n) =
    let m = 2 ^ k in
    let n_parts = div-add-mod' n m in
    let n_rest = mod-lt n (pow_pos k) in
    cases (le_or_gt (suc n) x)
    (λ l.
    let e : x - suc n + (n / m + 1) * m ≡ x + (m - 1 - n % m) + 0 * m = omega arith in
    rw (le-ltb x (suc n) l) (same_rest m (x - suc n) (x + (m - 1 - n % m)) (n / m + 1) 0 e))
    (λ l.
    let d = suc n - suc x in
    let d_parts = div-add-mod' d m in
    let d_rest = mod-lt d (pow_pos k) in
    let e : m - 1 - d % m + n / m * m ≡ x + (m - 1 - n % m) + d / m * m = omega arith in
    rw (lt-ltb x (suc n) l) (sym (mod-eq_of_lt {n = m - 1 - d % m} {m = m} (omega arith)) ∙ same_rest m (m - 1 - d % m) (x + (m - 1 - n % m)) (n / m) (d / m) e))

-- a difference modulo 2 ^ k
pub wrapped_subtract : (k x n : ℕ) → wrapped k (pos x -ℤ pos n) ≡ (x + (2 ^ k - n % 2 ^ k)) % 2 ^ k
unfolding wrapped
wrapped_subtract k x zero =
    let m = 2 ^ k in
    rw (wrapped_add k x (pos 0), zero-mod m) (same_rest m (x + 0) (x + (m - 0)) 1 0 (omega arith))
wrapped_subtract k x (suc n) =
    let m = 2 ^ k in
    let n_parts = div-add-mod' n m in
    let n_rest = mod-lt n (pow_pos k) in
    let suc_parts = div-add-mod' (suc n) m in
    let suc_rest = mod-lt (suc n) (pow_pos k) in
    let e : x + (m - 1 - n % m) + suc n / m * m ≡ x + (m - suc n % m) + n / m * m = omega arith in
    rw (wrapped_add k x (negsuc n)) (same_rest m (x + (m - 1 - n % m)) (x + (m - suc n % m)) (suc n / m) (n / m) e)

-- every bit of a signed number turned over
pub turned_fits : {w : Width} (z : ℤ) → SFits w z → SFits w (negsuc 0 -ℤ z)
turned_fits (pos n) f = rw (minus_one_less n) (record { sfits = f.sfits })
turned_fits (negsuc n) f = rw (minus_one_minus n) (record { sfits = f.sfits })

-- the bits of a number below 0 are those of -1 - z turned over, and from 0 on they are the number
pub bits_below : {w : Width} (z : ℤ) → SFits w z → lt_z z (pos 0) ≡ true
    → T (non_neg (negsuc 0 -ℤ z)) × Fits w (nat_abs (negsuc 0 -ℤ z)) × (2 ^ bits w - 1 - nat_abs (negsuc 0 -ℤ z) ≡ wrapped (bits w) z)
unfolding wrapped
bits_below (pos n) f e = absurd (omega (arith, ltb-true n 0 e))
bits_below {w} (negsuc n) f e =
    let h = half_full w f.sfits in
    rw (minus_one_minus n) (tt, record { fits = h }, rw (mod-eq_of_lt h))

pub bits_from : {w : Width} (z : ℤ) → SFits w z → lt_z z (pos 0) ≡ false
    → T (non_neg z) × Fits w (nat_abs z) × (nat_abs z ≡ wrapped (bits w) z)
unfolding wrapped
bits_from {w} (pos n) f e = let h = half_full w f.sfits in (tt, record { fits = h }, sym (mod-eq_of_lt h))
bits_from (negsuc n) f e = let z : ◌≡◌ {A = Bool} true false = e in absurd (subst (λ (b : Bool). T b) z tt)

-- the low k bits of more
pub wrapped_low : (j k : ℕ) (z : ℤ) → wrapped (j + k) z % 2 ^ k ≡ wrapped k z
unfolding wrapped
wrapped_low j k (pos n) = mod-mod-pow n j k
wrapped_low j k (negsuc n) =
    let m = 2 ^ k in
    let whole = 2 ^ (j + k) in
    let r = n % whole in
    let s : r % m ≡ n % m = mod-mod-pow n j k in
    let parts = div-add-mod' r m in
    let r_rest = mod-lt n (pow_pos (j + k)) in
    let s_rest = mod-lt r (pow_pos k) in
    let e : whole - 1 - r + r / m * m ≡ m - 1 - r % m + (2 ^ j - 1) * m = omega (arith, ones_split j k) in
    rw (← s) (same_rest m (whole - 1 - r) (m - 1 - r % m) (r / m) (2 ^ j - 1) e ∙ mod-eq_of_lt (omega arith))
