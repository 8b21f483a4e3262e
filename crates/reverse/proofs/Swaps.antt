-- Fields of k bits exchanged with their neighbours, by a mask of every second field: bit i comes from bit i xor k.
use Prim.Native.Nat.{ℕ, zero, suc, ◌+◌, ◌-◌, ◌*◌, ◌/◌, ◌%◌, ◌^◌, ◌<◌}
use mathlib.Core.Path.{◌≡◌, refl, sym, ap, ◌∙◌}
use mathlib.Core.Bool.{Bool, true, false, false≢true, not, and-true, and-false, or-false, ◌&&◌, ◌||◌}
use native.Mathlib.Omega.{arith}
use native.Mathlib.Nat.{mul-div_cancel, mul-mod_left, mul-le-mul_right}
use borrow.Author.Tests.{eqb-true}
use lib.Bits.{bit_and, bit_or, bit_xor, xor_lt}
use lib.Dec.{eqb, leb}
use lib.Pow.{pow_mono}
use Rattle.std.specs.Bool.{if◌then◌else◌}
use Rattle.word.specs.Word.{bit}
use Rattle.word.proofs.Cases.{cases, le_or_gt, both_true}
use Rattle.word.proofs.Bits.{bit-bit_and, bit-bit_or, bit_shr, bit_mod, bit_shl, by_bits}
use Rattle.reverse.specs.Reverse.{RBIT}

-- ---- a test that every number below n passes
abbrev all_below : ℕ → (ℕ → Bool) → Bool
all_below zero test = true
all_below (suc n) test = test n && all_below n test

one_below : (n : ℕ) (test : ℕ → Bool) → all_below n test ≡ true → (i : ℕ) → i < n → test i ≡ true
one_below zero test all i h = absurd (omega arith)
one_below (suc n) test all i h =
    let b = both_true (test n) (all_below n test) all in
    cases (le_or_gt n i)
    (λ l. let e : i ≡ n = omega arith in rw e b.0)
    (λ l. one_below n test b.1 i l)

-- ---- one bit
-- where bit i comes from: in the mask from the field above, else from the one below
abbrev source : ℕ → ℕ → ℕ → ℕ
source k mask i = if bit i mask then k + i else i - k

-- no other comes there, and it is bit i xor k
abbrev crosses : ℕ → ℕ → ℕ → Bool
crosses k mask i =
    let risen = leb k i && bit (i - k) mask in
    (if bit i mask then not risen else risen) && eqb (source k mask i) (bit_xor i k)

one_comes : (at : ℕ → Bool) (p m n : Bool) (low high : ℕ) → (if n then not (p && m) else p && m) ≡ true
    → (p && (at low && m) || at high && n) ≡ at (if n then high else low)
one_comes at true true true low high e = absurd (false≢true e)
one_comes at true false true low high e = rw (and-false (at low)) (and-true (at high))
one_comes at false m true low high e = and-true (at high)
one_comes at true true false low high e = rw (and-true (at low), and-false (at high)) (or-false (at low))
one_comes at true false false low high e = absurd (false≢true e)
one_comes at false m false low high e = absurd (false≢true e)

crossed : (k mask x i : ℕ) → i < 32 → crosses k mask i ≡ true
    → bit i (bit_or (bit_and x mask * 2 ^ k % 2 ^ 32) (bit_and (x / 2 ^ k) mask)) ≡ bit (bit_xor i k) x
crossed k mask x i h t =
    let p = leb k i in
    let m = bit (i - k) mask in
    let n = bit i mask in
    let b = both_true (if n then not (p && m) else p && m) (eqb (source k mask i) (bit_xor i k)) t in
    let e = eqb-true (source k mask i) (bit_xor i k) b.1 in
    rw (
      bit-bit_or (bit_and x mask * 2 ^ k % 2 ^ 32) (bit_and (x / 2 ^ k) mask) i,
      bit_mod (bit_and x mask * 2 ^ k) 32 i h,
      bit_shl (bit_and x mask) k i,
      bit-bit_and x mask (i - k),
      bit-bit_and (x / 2 ^ k) mask i,
      bit_shr x k i,
    )
    (one_comes (λ j. bit j x) p m n (i - k) (k + i) b.0 ∙ ap (λ (j : ℕ). bit j x) e)

-- ---- the masks
-- where 2 ^ k + 1 divides 2 ^ 32 - 1, so for k = 1, 2, 4, 8 and 16, the quotient is a mask of every second field
abbrev quotient_crosses : ℕ → Bool
quotient_crosses k = not (eqb ((2 ^ 32 - 1) % (2 ^ k + 1)) 0) || all_below 32 (crosses k ((2 ^ 32 - 1) / (2 ^ k + 1)))

quotients : all_below 32 quotient_crosses ≡ true
quotients = refl

pub narrow : (k mask : ℕ) → mask * (2 ^ k + 1) ≡ 2 ^ 32 - 1 → k < 32
narrow k zero e = absurd (omega arith)
narrow k (suc mask) e =
    cases (le_or_gt 32 k)
    (λ l. absurd (omega (arith, pow_mono {i = 32} {j = k} l, mul-le-mul_right {m = 1} {n = suc mask} (2 ^ k + 1) (omega arith))))
    (λ l. l)

pub swap_bit : (k mask x : ℕ) → mask * (2 ^ k + 1) ≡ 2 ^ 32 - 1
    → (i : ℕ) → i < 32 → bit i (bit_or (bit_and x mask * 2 ^ k % 2 ^ 32) (bit_and (x / 2 ^ k) mask)) ≡ bit (bit_xor i k) x
swap_bit k mask x e i h =
    let divisor = 2 ^ k + 1 in
    let d : (2 ^ 32 - 1) / divisor ≡ mask = ap (λ (n : ℕ). n / divisor) (sym e) ∙ mul-div_cancel mask (omega arith) in
    let r : (2 ^ 32 - 1) % divisor ≡ 0 = ap (λ (n : ℕ). n % divisor) (sym e) ∙ mul-mod_left mask divisor in
    let all : all_below 32 (crosses k mask) ≡ true = rw (r, d) at (one_below 32 quotient_crosses quotients k (narrow k mask e)) in
    crossed k mask x i h (one_below 32 (crosses k mask) all i h)

-- ---- swap after swap
-- bit i of r is bit `from i` of x
abbrev Moved : (ℕ → ℕ) → ℕ → ℕ → Type 0
Moved from x r = (i : ℕ) → i < 32 → bit i r ≡ bit (from i) x

pub moved_on : (k : ℕ) (from : ℕ → ℕ) (x y r : ℕ) → k < 32 → Moved from x y → Moved (λ i. bit_xor i k) y r → Moved (λ i. from (bit_xor i k)) x r
moved_on k from x y r l before last = λ i h. last i h ∙ before (bit_xor i k) (xor_lt 5 i k h l)

-- the bit that goes to bit i by the five swaps, the last one first
abbrev origin : ℕ → ℕ
origin i = bit_xor (bit_xor (bit_xor (bit_xor (bit_xor i 1) 2) 4) 8) 16

abbrev mirrors : ℕ → Bool
mirrors i = eqb (origin i) (31 - i)

mirrored : all_below 32 mirrors ≡ true
mirrored = refl

pub reversed : (x r : ℕ) → r < 2 ^ 32 → Moved origin x r → r ≡ RBIT x
unfolding RBIT
reversed x r h moved =
    by_bits 32 r (λ i. bit (31 - i) x) h
    (λ i l. moved i l ∙ ap (λ (j : ℕ). bit j x) (eqb-true (origin i) (31 - i) (one_below 32 mirrors mirrored i l)))
