-- Numbers in bytes, over their width.
use Prim.Native.Nat.{ℕ, zero, suc, ◌+◌, ◌*◌, ◌^◌, ◌≤◌, ◌<◌}
use mathlib.Core.Path.{◌≡◌, refl, ap}
use mathlib.Core.List.{List}
use native.Mathlib.Omega.{arith}
use native.Mathlib.Nat.{add-zero, mul-zero, mul-add, add_comm, mul_comm, mul_left_comm}
use lib.Bits.{bit_or, or_shifted}
use lib.ListN.{length, get_or-eq_default}
use lib.Pow.{pow-add}
use Rattle.little.specs.Little.{little, byte, number_at}

-- of the same bytes the same number
pub little_same : (k : ℕ) (f g : ℕ → ℕ) → ((i : ℕ) → f i ≡ g i) → little k f ≡ little k g
unfolding little
little_same zero f g h = refl
little_same (suc k) f g h = rw (little_same k f g h, h k)

regroup : (l p x b q : ℕ) → l + p * x + b * (p * q) ≡ l + p * (x + b * q)
regroup l p x b q = rw (mul-add p x (b * q), mul_left_comm p b q) (omega arith)

-- j bytes, and k above them
pub little_join : (j k : ℕ) (f g : ℕ → ℕ) → ((i : ℕ) → f (j + i) ≡ g i) → little (j + k) f ≡ little j f + 2 ^ (8 * j) * little k g
unfolding little
little_join j zero f g h = rw (add-zero j, mul-zero (2 ^ (8 * j))) (omega arith)
little_join j (suc k) f g h =
    let e : j + suc k ≡ suc (j + k) = omega arith in
    let d : 8 * (j + k) ≡ 8 * j + 8 * k = omega arith in
    rw (e, little_join j k f g h, h k, d, pow-add 2 (8 * j) (8 * k)) (regroup (little j f) (2 ^ (8 * j)) (little k g) (g k) (2 ^ (8 * k)))

-- two numbers of k bytes, one above the other
pub joined : (k : ℕ) (f g : ℕ → ℕ) → ((i : ℕ) → f (k + i) ≡ g i) → (low high : ℕ) → low ≡ little k f → high ≡ little k g → low < 2 ^ (8 * k)
    → bit_or (high * 2 ^ (8 * k)) low ≡ little (k + k) f
joined k f g same low high l h small =
    rw (or_shifted high (8 * k) low small, little_join k k f g same, ← h, ← l, mul_comm high (2 ^ (8 * k))) (add_comm (2 ^ (8 * k) * high) low)

-- the same of the bytes of a list
pub joined_at : (k : ℕ) (xs : List ℕ) (at low high : ℕ) → low ≡ number_at k xs at → high ≡ number_at k xs (at + k) → low < 2 ^ (8 * k)
    → bit_or (high * 2 ^ (8 * k)) low ≡ number_at (k + k) xs at
joined_at k xs at = joined k (λ i. byte xs (at + i)) (λ i. byte xs (at + k + i)) (λ i. ap (byte xs) (on i))
  where
    on : (i : ℕ) → at + (k + i) ≡ at + k + i
    on i = omega arith

pub one_byte : (xs : List ℕ) (at : ℕ) → number_at 1 xs at ≡ byte xs at
unfolding little
one_byte xs at = rw (add-zero at) (omega arith)

pub two_bytes : (xs : List ℕ) (at : ℕ) → number_at 2 xs at ≡ byte xs at + byte xs (at + 1) * 2 ^ 8
unfolding little
two_bytes xs at = rw (add-zero at) (omega arith)

pub past : (k : ℕ) (xs : List ℕ) (at : ℕ) → length xs ≤ at → number_at k xs at ≡ 0
unfolding little
past zero xs at h = refl
past (suc k) xs at h = let l : length xs ≤ at + k = omega arith in rw (past k xs at h, get_or-eq_default xs 0 l) (omega arith)
