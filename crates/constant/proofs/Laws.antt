-- A search below a bound, and the one for the amount by which a byte is shifted.
use Prim.Native.Nat.{ℕ, zero, suc, ◌+◌, ◌-◌, ◌*◌, ◌/◌, ◌%◌, ◌^◌, ◌≤◌, ◌<◌}
use mathlib.Core.Path.{◌≡◌, ap, ◌∙◌}
use mathlib.Core.Bool.{Bool, true, false≢true, ◌&&◌, or-true}
use native.Mathlib.Omega.{arith}
use native.Mathlib.Nat.{lt_of_lt_of_le, pow-suc, div-lt_iff_lt-mul}
use borrow.Author.Tests.{eq-eqb, eqb-true, lt-ltb, ltb-true}
use lib.Dec.{eqb, ltb}
use lib.Pow.{pow_pos, pow-add, pow_mono, shr_lt, split}
use lib.Count.{count_leading_zeros, leading_length}
use Rattle.word.proofs.Cases.{cases, yes_or_no, le_or_gt, same_truth, both_true}
use Rattle.word.proofs.Numbers.{none_below}
use Rattle.constant.specs.Constant.{some_below, shifted_byte}

some_holds : (n k : ℕ) (test : ℕ → Bool) → k < n → test k ≡ true → some_below n test ≡ true
some_holds zero k test l h = absurd (omega arith)
some_holds (suc n) k test l h =
    cases (le_or_gt n k)
    (λ g. let e : n ≡ k = omega arith in rw (e, h))
    (λ g. rw (some_holds n k test g h) (or-true (test n)))

some_found : (n : ℕ) (test : ℕ → Bool) → some_below n test ≡ true → (k : ℕ) × (k < n) × (test k ≡ true)
some_found zero test h = absurd (false≢true h)
some_found (suc n) test h =
    cases (yes_or_no (test n)) (λ e. (n, omega arith, e))
    (λ e. let s = some_found n test (rw e at h) in (s.0, omega (arith, s.1), s.2))

-- a number that is 0 in its low j bits is so in fewer
fewer_clear : (x k j : ℕ) → k ≤ j → x % 2 ^ j ≡ 0 → x % 2 ^ k ≡ 0
fewer_clear x k j l h =
    let e : x ≡ x / 2 ^ j * 2 ^ j = omega (arith, split x j) in
    ap (λ (n : ℕ). n % 2 ^ k) e ∙ none_below (x / 2 ^ j) j k l

-- a number of k bits above its low j bits has k + j bits
shr_bound : (x k j : ℕ) → x / 2 ^ j < 2 ^ k → x < 2 ^ (k + j)
shr_bound x k j h = rw (pow-add 2 k j) ((div-lt_iff_lt-mul (pow_pos j)).0 h)

-- no length of a number is above the least one
length_least : (x m n : ℕ) → 2 ^ m ≤ 2 * x + 1 → x < 2 ^ n → m ≤ n
length_least x m n l h =
    cases (le_or_gt m n) (λ g. g) (λ g. absurd (omega (arith, pow-suc 2 n, pow_mono {i = suc n} {j = m} g)))

-- is x a byte shifted left by this amount?
abbrev byte_at : ℕ → ℕ → Bool
byte_at x amount = eqb (x % 2 ^ amount) 0 && ltb (x / 2 ^ amount) (2 ^ 8)

-- of a number of m bits, all but the eight highest have to be 0
shifted_byte_by_length : (x m : ℕ) → m ≤ 32 → x < 2 ^ m → 2 ^ m ≤ 2 * x + 1 → shifted_byte x ≡ eqb (x % 2 ^ (m - 8)) 0
unfolding shifted_byte
shifted_byte_by_length x m most above least =
    let k = m - 8 in
    same_truth (some_below 25 (byte_at x)) (eqb (x % 2 ^ k) 0)
    (λ h.
    let s = some_found 25 (byte_at x) h in
    let j = s.0 in
    let t = both_true (eqb (x % 2 ^ j) 0) (ltb (x / 2 ^ j) (2 ^ 8)) s.2 in
    let longer = length_least x m (8 + j) least (shr_bound x 8 j (ltb-true (x / 2 ^ j) (2 ^ 8) t.1)) in
    eq-eqb (x % 2 ^ k) 0 (fewer_clear x k j (omega arith) (eqb-true (x % 2 ^ j) 0 t.0)))
    (λ h.
    let short : x < 2 ^ (8 + k) = lt_of_lt_of_le above (pow_mono {i = m} {j = 8 + k} (omega arith)) in
    some_holds 25 k (byte_at x) (omega arith) (rw (h, lt-ltb (x / 2 ^ k) (2 ^ 8) (shr_lt {n = x} 8 k short))))

pub shifted_byte_of_word : (x : ℕ) → x < 2 ^ 32 → shifted_byte x ≡ eqb (x % 2 ^ (32 - count_leading_zeros 32 x - 8)) 0
shifted_byte_of_word x h =
    let t = leading_length 32 x h in
    let e : 32 - count_leading_zeros 32 x ≡ t.0 = omega (arith, t.1) in
    rw e (shifted_byte_by_length x t.0 (omega (arith, t.1)) t.2 t.3)
