-- Numbers shifted by powers of two.
use Prim.Native.Nat.{ℕ, suc, ◌+◌, ◌-◌, ◌*◌, ◌/◌, ◌%◌, ◌^◌, ◌≤◌, ◌<◌, min}
use mathlib.Core.Path.{◌≡◌, refl, sym, ap, ◌∙◌}
use mathlib.Core.Bool.{Bool, true, false, not}
use native.Mathlib.Omega.{arith}
use native.Mathlib.Nat.{le_of_lt, mul-mod_left, mul-div_cancel, mul_assoc, div-eq_of_lt, lt_of_lt_of_le, sub-add_cancel, add-mul-mod_self_right, mod-eq_of_lt, pow-suc, div-eq_of_lt-le}
use native.Mathlib.Numerals.{one-add}
use lib.Dec.{eqb, leb}
use lib.Pow.{pow-add, pow_pos, pow_mono, mod-pow-add, shl-shr, ones_lt, ones_split, low, shr_lt}
use borrow.Author.Tests.{le-leb, lt-leb}
use Rattle.word.specs.Word.{bit, one_if}
use Rattle.word.proofs.Cases.{cases, le_or_gt}

-- a shift by n is one by n - k and one by k
pub shift_apart : (x n k : ℕ) → k ≤ n → x * 2 ^ n ≡ x * 2 ^ (n - k) * 2 ^ k
shift_apart x n k h =
    ap (λ (m : ℕ). x * 2 ^ m) (sym (sub-add_cancel h)) ∙ ap (λ (p : ℕ). x * p) (pow-add 2 (n - k) k)
    ∙ sym (mul_assoc x (2 ^ (n - k)) (2 ^ k))

-- shifted past the top of k bits, nothing of x is left there
pub none_below : (x n k : ℕ) → k ≤ n → x * 2 ^ n % 2 ^ k ≡ 0
none_below x n k h = rw (shift_apart x n k h) (mul-mod_left (x * 2 ^ (n - k)) (2 ^ k))

-- and bit k is clear where the shift went further
pub bit_clear : (x n k : ℕ) → k < n → x * 2 ^ n / 2 ^ k % 2 ≡ 0
bit_clear x n k h =
    rw (shift_apart x n k (le_of_lt h), mul-div_cancel (x * 2 ^ (n - k)) (pow_pos k), shift_apart x (n - k) 1 (omega arith))
    (mul-mod_left (x * 2 ^ (n - k - 1)) 2)

-- a number of k bits shifted down by k or more
pub none_above : {x : ℕ} (n k : ℕ) → x < 2 ^ k → k ≤ n → x / 2 ^ n ≡ 0
none_above n k h l = div-eq_of_lt (lt_of_lt_of_le h (pow_mono l))

-- two numbers that differ by multiples of m leave the same rest
pub same_rest : (m a b i j : ℕ) → a + i * m ≡ b + j * m → a % m ≡ b % m
same_rest m a b i j e = sym (add-mul-mod_self_right a i m) ∙ ap (λ (n : ℕ). n % m) e ∙ add-mul-mod_self_right b j m

-- of x shifted up by k, the low j + k bits are the low j bits of x
pub shift_mod : (x j k : ℕ) → x * 2 ^ k % 2 ^ (j + k) ≡ x % 2 ^ j * 2 ^ k
shift_mod x j k = rw (mod-pow-add (x * 2 ^ k) j k, shl-shr x k, mul-mod_left x (2 ^ k)) (omega arith)

pub one_if_le : (b : Bool) → one_if b ≤ 1
one_if_le true = omega arith
one_if_le false = omega arith

-- of w low bits set, k at the most are left
pub ones_mod : (w k : ℕ) → (2 ^ w - 1) % 2 ^ k ≡ 2 ^ min w k - 1
ones_mod w k =
    cases (le_or_gt w k)
    (λ l.
    let e : min w k ≡ w = omega arith in
    rw e (mod-eq_of_lt (lt_of_lt_of_le (ones_lt w) (pow_mono l))))
    (λ l.
    let e : min w k ≡ k = omega arith in
    let f : (w - k) + k ≡ w = omega arith in
    rw (e, rw f at (ones_split (w - k) k)) (low (2 ^ (w - k) - 1) k (ones_lt k)))

-- a number of k bits has no more to lose
pub mod_min : (x w k : ℕ) → x < 2 ^ k → x % 2 ^ min w k ≡ x % 2 ^ w
mod_min x w k h =
    cases (le_or_gt w k)
    (λ l. let e : min w k ≡ w = omega arith in rw e)
    (λ l.
    let e : min w k ≡ k = omega arith in
    rw (e, mod-eq_of_lt h, mod-eq_of_lt (lt_of_lt_of_le h (pow_mono (le_of_lt l)))))

-- a number below m + m holds m once or not at all
pub holds_once : (m x : ℕ) → x < m + m → eqb (x / m) 1 ≡ leb m x
holds_once m x h =
    cases (le_or_gt m x)
    (λ l. let e : x / m ≡ 1 = div-eq_of_lt-le m (omega arith) (omega arith) in rw (e, le-leb m x l))
    (λ l. let e : x / m ≡ 0 = div-eq_of_lt l in rw (e, lt-leb m x l))

-- the highest of n + 1 bits by comparison
pub highest : (n x : ℕ) → x < 2 ^ suc n → bit n x ≡ leb (2 ^ n) x
highest n x h =
    let e = mod-eq_of_lt {n = x / 2 ^ n} {m = 2} (shr_lt 1 n (rw (one-add n) h)) in
    rw e (holds_once (2 ^ n) x (omega (arith, pow-suc 2 n)))

pub one_if_either : (b : Bool) → one_if b + one_if (not b) ≡ 1
one_if_either true = refl
one_if_either false = refl
