-- Leading zeros counted from the top, and bytes exchanged.
use Prim.Native.Nat.{ℕ, zero, suc, ◌+◌, ◌*◌, ◌/◌, ◌%◌, ◌^◌, ◌≤◌, ◌<◌}
use mathlib.Core.Path.{◌≡◌, sym, ◌∙◌}
use native.Mathlib.Omega.{arith}
use native.Mathlib.Nat.{pow-suc}
use borrow.Author.Tests.{leb-true, leb-false}
use lib.Bits.{bit_and, bit_or, and_mask, and_block, or_block, or_shifted}
use lib.Count.{count_leading_zeros, leading_unique}
use lib.Pow.{split}
use Rattle.word.specs.Word.{bit}
use Rattle.word.proofs.Cases.{cases, yes_or_no}
use Rattle.word.proofs.Numbers.{highest}
use Rattle.reverse.specs.Reverse.{clear_from}

-- the m bits that x has below its leading zeros
length_of : (n x : ℕ) → x < 2 ^ n → (m : ℕ) × (clear_from n x + m ≡ n) × (x < 2 ^ m) × (2 ^ m ≤ 2 * x + 1)
length_of zero x h = (0, omega arith, h, omega arith)
length_of (suc n) x h =
    cases (yes_or_no (bit n x))
    (λ e.
    let none : clear_from (suc n) x ≡ 0 = rw e in
    let l = leb-true (2 ^ n) x (sym (highest n x h) ∙ e) in
    (suc n, omega arith, h, omega (arith, pow-suc 2 n)))
    (λ e.
    let more : clear_from (suc n) x ≡ suc (clear_from n x) = rw e in
    let r = length_of n x (leb-false (2 ^ n) x (sym (highest n x h) ∙ e)) in
    (r.0, omega (arith, more, r.1), r.2, r.3))

pub leading : (n x : ℕ) → x < 2 ^ n → clear_from n x ≡ count_leading_zeros n x
leading n x h = let l = length_of n x h in leading_unique n x (clear_from n x) l.0 l.1 l.2 l.3

-- every second byte
pub alternate : (y : ℕ) → bit_and y 0x00ff_00ff ≡ y / 2 ^ 16 % 2 ^ 8 * 2 ^ 16 + y % 2 ^ 8
alternate y =
    let e : y % 2 ^ 16 % 2 ^ 8 ≡ y % 2 ^ 8 = omega arith in
    let b = and_block 16 (y / 2 ^ 16) 0xff (y % 2 ^ 16) 0xff (omega arith) (omega arith) in
    rw (split y 16, and_mask (y / 2 ^ 16) 8, and_mask (y % 2 ^ 16) 8, e) at b

-- four bytes joined
pub joined : (a b c d : ℕ) → b < 2 ^ 8 → c < 2 ^ 8 → d < 2 ^ 8
    → bit_or (a * 2 ^ 8 * 2 ^ 16 + c * 2 ^ 8) (b * 2 ^ 16 + d) ≡ (a * 2 ^ 8 + b) * 2 ^ 16 + (c * 2 ^ 8 + d)
joined a b c d h l m =
    rw (or_block 16 (a * 2 ^ 8) b (c * 2 ^ 8) d (omega arith) (omega arith), or_shifted a 8 b h, or_shifted c 8 d m)
