-- Overflow by the signs is overflow by the range; a difference is a sum.
use Prim.Native.Nat.{ℕ, suc, ◌+◌, ◌-◌, ◌*◌, ◌/◌, ◌%◌, ◌^◌, ◌≤◌, ◌<◌}
use mathlib.Core.Path.{◌≡◌, refl, sym}
use mathlib.Core.Bool.{Bool, true, false, not, ◌&&◌, beq}
use native.Mathlib.Omega.{arith}
use borrow.Author.Tests.{lt-ltb, le-ltb, lt-leb, le-leb}
use lib.Dec.{eqb, leb}
use mir.Val.{bool_byte}
use lib.IntN.{ℤ, pos, negsuc, neg_ℤ, ◌+ℤ◌, ◌-ℤ◌, +ℤ_comm, +ℤ_assoc}
use Rattle.word.specs.Word.{signed, inverted, negative, one_if}
use Rattle.word.proofs.Cases.{cases, le_or_gt, leb_both}
use Rattle.word.proofs.Integers.{signed_small, signed_large, signed_inverted, wrapped_subtract}
use Rattle.word.proofs.Numbers.{one_if_either, holds_once}
use Rattle.sum.specs.Sum.{in_range, add_with_carry, subtract_with_carry}

-- numbers of unlike signs have their sum in range
unlike_in_range : (a b i : ℕ) → a < 2 ^ 31 → b < 2 ^ 31 → i ≤ 1 → in_range (pos a +ℤ negsuc b +ℤ pos i) ≡ true
unlike_in_range a b i f g h =
    cases (le_or_gt (suc b) a)
    (λ l. rw (le-ltb a (suc b) l, lt-ltb (a - suc b + i) (2 ^ 31) (omega arith)))
    (λ l.
    let d = suc (suc b - suc a) in
    rw (lt-ltb a (suc b) l)
    (cases (le_or_gt d i)
    (λ k. rw (le-ltb i d k, lt-ltb (i - d) (2 ^ 31) (omega arith)))
    (λ k. rw (lt-ltb i d k, le-leb (d - suc i) (2 ^ 31 - 1) (omega arith)))))

-- numbers of like signs have it there where bit 31 of the sum is their sign
small_in_range : (x y i : ℕ) → x < 2 ^ 31 → y < 2 ^ 31 → i ≤ 1
    → beq false (negative ((x + y + i) % 2 ^ 32)) ≡ in_range (pos x +ℤ pos y +ℤ pos i)
small_in_range x y i f g h =
    let sum = x + y + i in
    cases (le_or_gt (2 ^ 31) sum)
    (λ l. rw (le-leb (2 ^ 31) (sum % 2 ^ 32) (omega arith), le-ltb sum (2 ^ 31) l))
    (λ l. rw (lt-leb (2 ^ 31) (sum % 2 ^ 32) (omega arith), lt-ltb sum (2 ^ 31) l))

large_in_range : (x y i : ℕ) → 2 ^ 31 ≤ x → x < 2 ^ 32 → 2 ^ 31 ≤ y → y < 2 ^ 32 → i ≤ 1
    → beq true (negative ((x + y + i) % 2 ^ 32)) ≡ in_range (negsuc (2 ^ 32 - suc x) +ℤ negsuc (2 ^ 32 - suc y) +ℤ pos i)
large_in_range x y i f f' g g' h =
    let v = (x + y + i) % 2 ^ 32 in
    let d = suc (suc (2 ^ 32 - suc x + (2 ^ 32 - suc y))) in
    rw (lt-ltb i d (omega arith))
    (cases (le_or_gt (2 ^ 31) v)
    (λ l. rw (le-leb (2 ^ 31) v l, le-leb (d - suc i) (2 ^ 31 - 1) (omega arith)))
    (λ l. rw (lt-leb (2 ^ 31) v l, lt-leb (d - suc i) (2 ^ 31 - 1) (omega arith))))

-- what is left of a sum in a word, and the carry out of it
pub carried : (value sum : ℕ) (out : Bool) → value < 2 ^ 32 → value + bool_byte out * 2 ^ 32 ≡ sum
    → (value ≡ sum % 2 ^ 32) × (out ≡ leb (2 ^ 32) sum)
carried value sum true h e = (omega arith, sym (le-leb (2 ^ 32) sum (omega arith)))
carried value sum false h e = (omega arith, sym (lt-leb (2 ^ 32) sum (omega arith)))

pub as_number : (b : Bool) → bool_byte b ≡ one_if b
as_number true = refl
as_number false = refl

-- overflow as the code tests it, by bit 31 of the two numbers and of their sum
pub overflow_by_signs : (x y i : ℕ) → x < 2 ^ 32 → y < 2 ^ 32 → i ≤ 1
    → let minus : ℕ → Bool = λ n. eqb (n / 2 ^ 31) 1 in
    (beq (minus x) (minus y) && not (beq (minus x) (minus ((x + y + i) % 2 ^ 32))))
    ≡ not (in_range (signed x +ℤ signed y +ℤ pos i))
overflow_by_signs x y i f g h =
    let sum = (x + y + i) % 2 ^ 32 in
    rw (holds_once (2 ^ 31) x f, holds_once (2 ^ 31) y g, holds_once (2 ^ 31) sum (omega arith))
    (cases (le_or_gt (2 ^ 31) x)
    (λ k.
    rw (signed_large x k f, le-leb (2 ^ 31) x k)
    (cases (le_or_gt (2 ^ 31) y)
    (λ l. rw (signed_large y l g, le-leb (2 ^ 31) y l, large_in_range x y i k f l g h))
    (λ l. rw (signed_small y l, lt-leb (2 ^ 31) y l, unlike_in_range y (2 ^ 32 - suc x) i l (omega arith) h))))
    (λ k.
    rw (signed_small x k, lt-leb (2 ^ 31) x k)
    (cases (le_or_gt (2 ^ 31) y)
    (λ l. rw (signed_large y l g, le-leb (2 ^ 31) y l, unlike_in_range x (2 ^ 32 - suc y) i k (omega arith) h))
    (λ l. rw (signed_small y l, lt-leb (2 ^ 31) y l, small_in_range x y i k l h)))))

carry_less_one : (carry : Bool) → negsuc 0 +ℤ pos (one_if carry) ≡ neg_ℤ (pos (one_if (not carry)))
carry_less_one true = refl
carry_less_one false = refl

with_inverted : (a b : ℤ) (carry : Bool) → a +ℤ (negsuc 0 -ℤ b) +ℤ pos (one_if carry) ≡ a -ℤ b -ℤ pos (one_if (not carry))
with_inverted a b carry =
    rw (
      +ℤ_comm (negsuc 0) (neg_ℤ b),
      ← +ℤ_assoc a (neg_ℤ b) (negsuc 0),
      +ℤ_assoc (a -ℤ b) (negsuc 0) (pos (one_if carry)),
      carry_less_one carry,
    )

pub difference_is_sum : (x y : ℕ) (carry : Bool) → x < 2 ^ 32 → y < 2 ^ 32
    → add_with_carry x (inverted y) carry ≡ subtract_with_carry x y carry
unfolding add_with_carry subtract_with_carry
difference_is_sum x y carry f g =
    let one = one_if_either carry in
    let sum = x + inverted y + one_if carry in
    let less = y + one_if (not carry) in
    let value : sum % 2 ^ 32 ≡ (x + (2 ^ 32 - less % 2 ^ 32)) % 2 ^ 32 = omega arith in
    rw (
      value,
      ← wrapped_subtract 32 x less,
      leb_both (2 ^ 32) sum less x (λ h. omega arith) (λ h. omega arith),
      signed_inverted y g,
      with_inverted (signed x) (signed y) carry,
    )
