-- Case splits. The sum stands first, so that what each case knows is there for `omega` and `simp`.
use Prim.Native.Nat.{ℕ, zero, suc, ◌≤◌, ◌<◌}
use mathlib.Core.Path.{◌≡◌, refl, sym}
use mathlib.Core.Bool.{Bool, true, false, false≢true, ◌&&◌, ◌||◌}
use mathlib.Core.Logic.{◌⊎◌, inl, inr, ⊎_elim}
use native.Mathlib.Omega.{arith}
use lib.Arith.{lt_of_le-ne}
use lib.Dec.{leb, ltb}
use Rattle.std.specs.Bool.{if◌then◌else◌}
use borrow.Author.Tests.{leb-true, leb-false, le-leb, ltb-true, lt-ltb}

pub cases : {A B C : Type 0} → A ⊎ B → (A → C) → (B → C) → C
cases s f g = ⊎_elim f g s

pub yes_or_no : (b : Bool) → (b ≡ true) ⊎ (b ≡ false)
yes_or_no true = inl refl
yes_or_no false = inr refl

-- what holds of both arms, each under its truth, holds of the choice
pub chosen : {A : Type 0} (P : A → Type 0) (t : Bool) (a b : A) → (t ≡ true → P a) → (t ≡ false → P b) → P (if t then a else b)
chosen P true a b p q = p refl
chosen P false a b p q = q refl

pub le_or_gt : (a b : ℕ) → (a ≤ b) ⊎ (b < a)
le_or_gt a b = cases (yes_or_no (leb a b)) (λ e. inl (leb-true a b e)) (λ e. inr (leb-false a b e))

-- two truths of which each implies the other
pub same_truth : (a b : Bool) → (a ≡ true → b ≡ true) → (b ≡ true → a ≡ true) → a ≡ b
same_truth true b to from = sym (to refl)
same_truth false true to from = from refl
same_truth false false to from = refl

pub both_true : (a b : Bool) → (a && b) ≡ true → (a ≡ true) × (b ≡ true)
both_true true b h = (refl, h)
both_true false b h = absurd (false≢true h)

pub either_true : (a b : Bool) → (a || b) ≡ true → (a ≡ true) ⊎ (b ≡ true)
either_true true b h = inl refl
either_true false b h = inr h

pub neither : (a b : Bool) → (a || b) ≡ false → (a ≡ false) × (b ≡ false)
neither true b h = absurd (false≢true (sym h))
neither false b h = (refl, h)

pub leb_both : (a b c d : ℕ) → (a ≤ b → c ≤ d) → (c ≤ d → a ≤ b) → leb a b ≡ leb c d
leb_both a b c d to from =
    same_truth (leb a b) (leb c d) (λ e. le-leb c d (to (leb-true a b e))) (λ e. le-leb a b (from (leb-true c d e)))

-- the last arm of a match on the numbers 0, 1, .. k - 1: what it knows of n, and that n is k or more
abbrev pub NoneBelow : ℕ → ℕ → Type 0
NoneBelow zero n = Unit {0}
NoneBelow (suc k) n = NoneBelow k n × (n ≡ k → ⊥)

pub not_below : (k n : ℕ) → NoneBelow k n → k ≤ n
not_below zero n p = omega arith
not_below (suc k) n p = lt_of_le-ne (not_below k n p.0) (λ e. p.1 (sym e))

pub ltb_both : (a b c d : ℕ) → (a < b → c < d) → (c < d → a < b) → ltb a b ≡ ltb c d
ltb_both a b c d to from =
    same_truth (ltb a b) (ltb c d) (λ e. lt-ltb c d (to (ltb-true a b e))) (λ e. lt-ltb a b (from (ltb-true c d e)))
