-- The same waiting list; and good lists in which none or one waits.
use Prim.Native.Nat.{ℕ, ◌≤◌}
use mathlib.Core.Bool.{Bool, true, false, ◌&&◌}
use mathlib.Core.Logic.{◌⊎◌, inl, inr}
use mathlib.Core.Path.{◌≡◌, refl}
use native.Mathlib.Omega.{arith}
use borrow.Author.Tests.{eqb-true, eq-eqb}
use lib.Dec.{eqb}
use Rattle.std.specs.Bool.{if◌then◌else◌}
use Rattle.word.proofs.Cases.{cases, both_true}
use Rattle.waiting.specs.declared.Waiting.{Waiting}
use Rattle.waiting.specs.Waiting.{none, nothing, waiting_count, dropped, same}
use Rattle.waiting.proofs.Good.{Fine, Good}

alike : (a b c d e f g h : ℕ) → a ≡ e → b ≡ f → c ≡ g → d ≡ h
    → ◌≡◌ {A = Waiting} (record { first = a; second = b; third = c; fourth = d }) (record { first = e; second = f; third = g; fourth = h })
alike a b c d e f g h p q r s = rw (p, q, r, s)

-- ---- `same` is equality
pub same_is : (v w : Waiting) → same v w ≡ true → v ≡ w
unfolding same
same_is v w e =
    let one = eqb v.first w.first in
    let two = eqb v.second w.second in
    let three = eqb v.third w.third in
    let four = eqb v.fourth w.fourth in
    let a = both_true (one && two && three) four e in
    let b = both_true (one && two) three a.0 in
    let c = both_true one two b.0 in
    alike v.first v.second v.third v.fourth w.first w.second w.third w.fourth
    (eqb-true v.first w.first c.0) (eqb-true v.second w.second c.1)
    (eqb-true v.third w.third b.1) (eqb-true v.fourth w.fourth a.1)

pub same_self : (w : Waiting) → same w w ≡ true
unfolding same
same_self w =
    rw (
      eq-eqb w.first w.first refl,
      eq-eqb w.second w.second refl,
      eq-eqb w.third w.third refl,
      eq-eqb w.fourth w.fourth refl,
    )

-- ---- none and one
abbrev counted : Bool → Bool → Bool → Bool → ℕ
counted a b c d = if a then 0 else (if b then 1 else (if c then 2 else (if d then 3 else 4)))

none_counted : (a b c d : Bool) → counted a b c d ≡ 0 → a ≡ true
none_counted true b c d e = refl
none_counted false true c d e = absurd (omega arith)
none_counted false false true d e = absurd (omega arith)
none_counted false false false true e = absurd (omega arith)
none_counted false false false false e = absurd (omega arith)

one_counted : (a b c d : Bool) → counted a b c d ≤ 1 → (a ≡ true) ⊎ (b ≡ true)
one_counted true b c d e = inl refl
one_counted false true c d e = inr refl
one_counted false false true d e = absurd (omega arith)
one_counted false false false true e = absurd (omega arith)
one_counted false false false false e = absurd (omega arith)

pub first_none : (w : Waiting) → waiting_count w ≡ 0 → w.first ≡ none
unfolding waiting_count
first_none w e =
    eqb-true w.first none (none_counted (eqb w.first none) (eqb w.second none) (eqb w.third none) (eqb w.fourth none) e)

-- behind a place that holds none no place holds one
behind : (first before c : ℕ) → Fine first before c → before ≡ none → c ≡ none
behind first before c s e = cases s (λ f. f) (λ f. absurd (f.0 e))

module _ (w : Waiting) (g : Good w) where
  after_second : w.second ≡ none → (w.third ≡ none) × (w.fourth ≡ none)
  after_second e =
      let c = behind w.first w.second w.third g.third e in
      (c, behind w.first w.third w.fourth g.fourth c)

  pub none_waits : waiting_count w ≡ 0 → w ≡ nothing
  none_waits e =
      let a = first_none w e in
      let b = behind w.first w.first w.second g.second a in
      let t = after_second b in
      alike w.first w.second w.third w.fourth none none none none a b t.0 t.1

  -- where at most one waits none does after it
  pub one_waits : waiting_count w ≤ 1 → dropped w ≡ nothing
  unfolding waiting_count dropped
  one_waits e =
      let b : w.second ≡ none =
      cases (one_counted (eqb w.first none) (eqb w.second none) (eqb w.third none) (eqb w.fourth none) e)
      (λ t. behind w.first w.first w.second g.second (eqb-true w.first none t))
      (λ t. eqb-true w.second none t) in
      let t = after_second b in
      alike w.second w.third w.fourth none none none none none b t.0 t.1 refl
