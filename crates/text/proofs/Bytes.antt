-- The 256 bytes that hold a text, after more were put behind it.
use Prim.Native.Nat.{ℕ, ◌+◌, ◌-◌, ◌≤◌, min}
use mathlib.Core.Path.{◌≡◌, refl, sym, ap, ◌∙◌}
use mathlib.Core.List.{List, ◌++◌}
use native.Mathlib.Omega.{arith}
use borrow.Rule.Slice.PartMut.{put_mid}
use lib.ListN.{length, take, drop, replicate, length-append, length-replicate}
use Rattle.std.proofs.lemmas.List.{length-take-le, drop-drop, drop-replicate, take-append-drop, take_all}
use Rattle.std.proofs.lemmas.Slice.{take-put_mid, drop-put_mid}
use Rattle.word.proofs.Cases.{cases, le_or_gt}
use Rattle.text.specs.Bytes.{IsText}

module _ (count more : ℕ) (bytes words : List ℕ) (h : IsText count bytes) (fits : count + more ≤ 256) (size : length words ≡ more) where
  abbrev pub laid : List ℕ
  laid = put_mid count (count + more - count) bytes words

  pub shown : take (count + more) laid ≡ take count bytes ++ words
  shown = take-put_mid count (count + more - count) bytes words (count + more) (omega (arith, size)) (omega (arith, h.all, h.within))

  zeros : drop (count + more) laid ≡ replicate (256 - (count + more)) 0
  zeros =
      let n : 256 - count - more ≡ 256 - (count + more) = omega arith in
      drop-put_mid count (count + more - count) bytes words (count + more) (omega arith) (omega (arith, h.all, h.within)) (omega (arith, size))
      ∙ rw (← drop-drop more count bytes, h.behind, drop-replicate {X = ℕ} more (256 - count) 0, n)

  all : length laid ≡ 256
  all =
      ap (λ (xs : List ℕ). length xs) (sym (take-append-drop (count + more) laid))
      ∙ rw (shown, zeros, length-append, length-append, length-take-le count bytes (omega (arith, h.all, h.within)), size, length-replicate) (omega arith)

  pub longer : IsText (count + more) laid
  longer = record { all = all; within = fits; behind = zeros }

-- as many words as there is room for
pub sized : (words : List ℕ) (room more : ℕ) → more ≡ min (length words) room → length (take more words) ≡ more
sized words room more e = length-take-le more words (omega (arith, e))

pub cut : (words : List ℕ) (room : ℕ) → take (min (length words) room) words ≡ take room words
cut words room =
    cases (le_or_gt room (length words))
    (λ h. let e : min (length words) room ≡ room = omega arith in rw e refl)
    (λ h.
    let e : min (length words) room ≡ length words = omega arith in
    rw (e, take_all (length words) words (omega arith), take_all room words (omega arith)) refl)
