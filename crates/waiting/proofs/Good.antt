-- Good waiting lists: nothing, what is left when the first is used up, and the block of an IT record.
use Prim.Native.Nat.{ℕ, ◌+◌, ◌-◌, ◌/◌, ◌%◌, ◌^◌, ◌≤◌}
use mathlib.Core.Bool.{Bool, true, false, true≢false, false≢true, not, ◌&&◌, ◌||◌}
use mathlib.Core.Logic.{◌⊎◌, inl, inr}
use mathlib.Core.Path.{◌≡◌, refl, sym, ap, ◌∙◌}
use native.Mathlib.Omega.{arith}
use native.Mathlib.Nat.{zero-div}
use borrow.Author.Tests.{eqb-true, eqb-false, eq-eqb, ne_eqb, leb-true, le-leb}
use lib.Dec.{eqb, leb}
use Rattle.std.specs.Bool.{if◌then◌else◌}
use Rattle.word.specs.Word.{bit}
use Rattle.word.proofs.Cases.{cases, yes_or_no, both_true, either_true}
use Rattle.waiting.specs.declared.Waiting.{Waiting}
use Rattle.waiting.specs.Waiting.{none, nothing, dropped, inverse, placed, block, agrees, good_place, good_waiting}

-- ---- a condition and its inverse are the two numbers with the same half
inverse_half : (a : ℕ) → (inverse a / 2 ≡ a / 2) × (inverse a ≡ a → ⊥)
unfolding inverse
inverse_half a = go (bit 0 a) refl
  where
    go : (t : Bool) → bit 0 a ≡ t → let i = if t then a - 1 else a + 1 in (i / 2 ≡ a / 2) × (i ≡ a → ⊥)
    go true e = let h = eqb-true (a / 2 ^ 0 % 2) 1 e in (omega arith, λ z. omega arith)
    go false e = let h : a % 2 ≡ 0 = omega (arith, eqb-false (a / 2 ^ 0 % 2) 1 e) in (omega arith, λ z. omega arith)

two_of_a_half : (a c i : ℕ) → i / 2 ≡ a / 2 → (i ≡ a → ⊥) → c / 2 ≡ a / 2 → (c ≡ a → ⊥) → c ≡ i
two_of_a_half a c i e n f m = omega arith

-- a place behind the first: it holds none, or the place before it holds one too and the halves are the same
abbrev pub Fine : ℕ → ℕ → ℕ → Type 0
Fine first before c = (c ≡ none) ⊎ ((before ≡ none → ⊥) × (c ≤ 14) × (c / 2 ≡ first / 2))

fine : (first before c : ℕ) → good_place first before c ≡ true → Fine first before c
fine first before c e =
    cases (either_true (eqb c none) (not (eqb before none) && agrees first c) e)
    (λ f. inl (eqb-true c none f))
    (λ f.
    let b = both_true (not (eqb before none)) (agrees first c) f in
    let a = both_true (leb c 14) (eqb c first || eqb c (inverse first)) b.1 in
    inr (
      (λ z. false≢true (rw z at b.0)),
      leb-true c 14 a.0,
      cases (either_true (eqb c first) (eqb c (inverse first)) a.1)
          (λ g. ap (λ (n : ℕ). n / 2) (eqb-true c first g))
          (λ g. ap (λ (n : ℕ). n / 2) (eqb-true c (inverse first) g) ∙ (inverse_half first).0),
    ))

same_half_agrees : (first c : ℕ) → c / 2 ≡ first / 2 → (eqb c first || eqb c (inverse first)) ≡ true
same_half_agrees first c e =
    cases (yes_or_no (eqb c first)) (λ f. rw f)
    (λ f.
    let i = inverse_half first in
    rw (f, eq-eqb c (inverse first) (two_of_a_half first c (inverse first) i.0 i.1 e (eqb-false c first f))))

fine_place : (first before c : ℕ) → Fine first before c → good_place first before c ≡ true
fine_place first before c s =
    cases s
    (λ e. rw (eq-eqb c none e))
    (λ f. rw (ne_eqb before none f.0, le-leb c 14 f.1, same_half_agrees first c f.2, ne_eqb c none (λ z. omega arith)))

-- ---- what `good_waiting` tests, as facts
pub record Good (w : Waiting) : Type 0 where
  pub first : w.first ≤ 15
  pub second : Fine w.first w.first w.second
  pub third : Fine w.first w.second w.third
  pub fourth : Fine w.first w.third w.fourth

pub good_is : (w : Waiting) → good_waiting w ≡ true → Good w
unfolding good_waiting
good_is w e =
    let one = leb w.first none in
    let two = good_place w.first w.first w.second in
    let three = good_place w.first w.second w.third in
    let four = good_place w.first w.third w.fourth in
    let a = both_true (one && two && three) four e in
    let b = both_true (one && two) three a.0 in
    let c = both_true one two b.0 in
    record {
      first = leb-true w.first none c.0;
      second = fine w.first w.first w.second c.1;
      third = fine w.first w.second w.third b.1;
      fourth = fine w.first w.third w.fourth a.1;
    }

pub is_good : (w : Waiting) → Good w → good_waiting w ≡ true
unfolding good_waiting
is_good w g =
    rw (
      le-leb w.first none g.first,
      fine_place w.first w.first w.second g.second,
      fine_place w.first w.second w.third g.third,
      fine_place w.first w.third w.fourth g.fourth,
    )

-- ---- nothing, and the rest of a list
pub good_nothing : Good nothing
good_nothing = record { first = omega arith; second = inl refl; third = inl refl; fourth = inl refl }

holds_one : (first before c : ℕ) → Fine first before c → (c ≡ none → ⊥) → (before ≡ none → ⊥) × (c ≤ 14) × (c / 2 ≡ first / 2)
holds_one first before c s n = cases s (λ e. absurd (n e)) (λ f. f)

pub good_dropped : (w : Waiting) → Good w → Good (dropped w)
unfolding dropped
good_dropped w g =
    let a = w.first in
    let b = w.second in
    let c = w.third in
    let half : (b ≡ none → ⊥) → b / 2 ≡ a / 2 = λ n. (holds_one a a b g.second n).2 in
    record {
      first = cases g.second (λ e. omega arith) (λ f. omega arith);
      second = cases g.third (λ e. inl e) (λ f. inr (f.0, f.1, f.2 ∙ sym (half f.0)));
      third =
          cases g.fourth (λ e. inl e)
          (λ f. inr (f.0, f.1, f.2 ∙ sym (half (holds_one a b c g.third f.0).0)));
      fourth = inl refl;
    }

-- ---- the block of an IT record
abbrev Placed : Bool → ℕ → ℕ → Type 0
Placed within c v = ((within ≡ false) × (v ≡ none)) ⊎ ((within ≡ true) × (v ≤ 14) × (v / 2 ≡ c / 2))

inverse_low : (c : ℕ) → c ≤ 13 → inverse c / 2 ≡ c / 2 → inverse c ≤ 14
inverse_low c h e = omega arith

place : (within : Bool) (c : ℕ) (otherwise : Bool) → c ≤ 14 → (c ≡ 14 → otherwise ≡ false) → Placed within c (placed within c otherwise)
place false c otherwise h al = inl (refl, refl)
place true c false h al = inr (refl, h, refl)
place true c true h al = inr (refl, inverse_low c (below (λ e. true≢false (al e))) (inverse_half c).0, (inverse_half c).0)
  where
    below : (c ≡ 14 → ⊥) → c ≤ 13
    below n = omega arith

-- two places in a row
in_row : (first c k j count v w : ℕ) → (leb 1 count ≡ true → first ≡ c) → k ≤ j → 1 ≤ j
    → Placed (leb k count) c v → Placed (leb j count) c w → Fine first v w
in_row first c k j count v w f h l p q =
    cases q (λ e. inl e.1)
    (λ e.
    let n = leb-true j count e.0 in
    let to : first ≡ c = f (le-leb 1 count (omega arith)) in
    let there : leb k count ≡ true = le-leb k count (omega arith) in
    inr ((λ z. cases p (λ g. true≢false (sym there ∙ g.0)) (λ g. omega arith)), e.1, e.2 ∙ ap (λ (n : ℕ). n / 2) (sym to)))

pub good_block : (c count elses : ℕ) → c ≤ 14 → (c ≡ 14 → elses ≡ 0) → Good (block c count elses)
unfolding block
good_block c count elses h al =
    let bits : (i : ℕ) → c ≡ 14 → bit i elses ≡ false = λ i e. rw (al e) (none_set i) in
    let one = place (leb 1 count) c false h (λ z. refl) in
    let two = place (leb 2 count) c (bit 0 elses) h (bits 0) in
    let three = place (leb 3 count) c (bit 1 elses) h (bits 1) in
    let four = place (leb 4 count) c (bit 2 elses) h (bits 2) in
    let first = placed (leb 1 count) c false in
    let is : leb 1 count ≡ true → first ≡ c = λ e. rw e in
    record {
      first = cases one (λ e. omega arith) (λ e. omega arith);
      second = in_row first c 1 2 count _ _ is (omega arith) (omega arith) one two;
      third = in_row first c 2 3 count _ _ is (omega arith) (omega arith) two three;
      fourth = in_row first c 3 4 count _ _ is (omega arith) (omega arith) three four;
    }
  where
    none_set : (i : ℕ) → bit i 0 ≡ false
    none_set i = rw (zero-div (2 ^ i))
