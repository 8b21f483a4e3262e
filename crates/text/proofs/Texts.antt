-- What a text holds after bytes were added to it, and how long the lines are.
use Prim.Native.Nat.{ℕ, zero, suc, ◌+◌, ◌-◌, ◌/◌, ◌%◌, ◌≤◌, ◌<◌}
use mathlib.Core.Path.{◌≡◌, refl, ◌∙◌}
use mathlib.Core.List.{List, [], ◌∷◌, ◌++◌, append_assoc, append-nil}
use native.Mathlib.Numerals.{add-one}
use native.Mathlib.Omega.{arith}
use borrow.Author.Tests.{lt-ltb, le-ltb}
use lib.ListN.{length, take, drop, get_or, set, length-set, length-append}
use lib.Seq.{get_or-set_same, drop-set-lt, drop-cons}
use Rattle.std.proofs.Math.Seq.{take-append-add}
use Rattle.std.proofs.Common.{rules}
use Rattle.std.proofs.lemmas.List.{take_all, take-append-le, length-take-le}
use Rattle.word.proofs.Cases.{cases, le_or_gt}
use Rattle.flags.specs.declared.Flags.{Flags}
use Rattle.text.specs.Text.{
  digit,
  decimal_within,
  decimal,
  hex,
  check_text,
  end_line,
  register_line,
  register_lines,
  flags_line,
  end_text,
}
use Rattle.text.specs.Code.{appended}

pub added_none : (t : List ℕ) → t ≡ appended t []
unfolding appended
added_none t = search rules

pub added_append : (t xs ys : List ℕ) → appended (appended t xs) ys ≡ appended t (xs ++ ys)
unfolding appended
added_append t xs ys =
    let room = 256 - length t in
    cases (le_or_gt room (length xs))
    (λ h.
    let none : 256 - length (t ++ take room xs) ≡ 0 =
    rw (length-append, length-take-le room xs h) (omega arith) in
    rw (none, append-nil, take-append-le room xs ys h))
    (λ h.
    let left : 256 - length (t ++ xs) ≡ room - length xs = rw length-append (omega arith) in
    let seam : length xs + (room - length xs) ≡ room = omega arith in
    rw (take_all room xs (omega arith), left, append_assoc, ← take-append-add xs ys (room - length xs), seam))

-- a text that fits whole
pub whole : (xs : List ℕ) → length xs ≤ 256 → appended [] xs ≡ xs
unfolding appended
whole xs h = take_all 256 xs h

-- a byte put before the last ones
drop_set : (xs : List ℕ) (i x : ℕ) → i < length xs → drop i (set xs i x) ≡ x ∷ drop (suc i) xs
drop_set xs i x h =
    let l : i < length (set xs i x) = rw (length-set xs i x) h in
    drop-cons (set xs i x) i 0 l ∙ rw (get_or-set_same xs i x 0 h, drop-set-lt (suc i) xs i x (omega arith))

-- the last digit of a number, put before the digits behind it
module _ (n : ℕ) (behind : List ℕ) where
  abbrev put : ℕ → List ℕ
  put at = drop at (set behind at (digit (n % 10)))

  pub last_digit : (at : ℕ) → 0 < at → at ≤ length behind → n < 10
      → decimal_within at n ++ drop at behind ≡ put (at - 1)
  unfolding decimal_within
  last_digit zero p h small = absurd (omega arith)
  last_digit (suc at) p h small =
      let e : suc at - 1 ≡ at = omega arith in
      let m : n % 10 ≡ n = omega arith in
      rw (e, lt-ltb n 10 small, drop_set behind at (digit (n % 10)) (omega arith), m)

  pub one_digit : (at : ℕ) → 0 < at → at ≤ length behind → 10 ≤ n
      → decimal_within at n ++ drop at behind ≡ decimal_within (at - 1) (n / 10) ++ put (at - 1)
  unfolding decimal_within
  one_digit zero p h large = absurd (omega arith)
  one_digit (suc at) p h large =
      let e : suc at - 1 ≡ at = omega arith in
      rw (e, le-ltb n 10 large, drop_set behind at (digit (n % 10)) (omega arith), append_assoc)

decimal_length : (most n : ℕ) → length (decimal_within most n) ≤ most
unfolding decimal_within
decimal_length zero n = omega arith
decimal_length (suc most) n =
    cases (le_or_gt 10 n)
    (λ h. rw (le-ltb n 10 h) (simp length-append (omega (arith, decimal_length most (n / 10)))))
    (λ h. rw (lt-ltb n 10 h) (omega arith))

pub added_line : (t : List ℕ) (i : ℕ) (registers : List ℕ)
    → appended (appended t (register_lines i registers)) (register_line i (get_or registers i 0))
    ≡ appended t (register_lines (i + 1) registers)
unfolding register_lines
added_line t i registers = rw (add-one, added_append)

pub check_length : (number place : ℕ) → length (check_text number place) ≤ 256
unfolding check_text decimal
check_length number place =
    simp length-append (omega (arith, decimal_length 10 number, decimal_length 10 place))

registers_length : (registers : List ℕ) → length (register_lines 16 registers) ≡ 198
unfolding register_lines register_line decimal decimal_within hex
registers_length registers = refl

flags_length : (f : Flags) → length (flags_line f) ≡ 12
unfolding flags_line
flags_length f = refl

pub end_length : (number count : ℕ) (registers : List ℕ) (flags : Flags)
    → length (end_text number count registers flags) ≤ 256
unfolding end_text end_line decimal
end_length number count registers flags =
    simp length-append
    (omega (arith, decimal_length 10 number, decimal_length 10 count, registers_length registers, flags_length flags))
