-- Two tables that tell the landing places of one listing have the same entries: so what is known of a table by `Tells` is all of it.
use Prim.Native.Nat.{ℕ, zero, suc, ◌<◌}
use mathlib.Core.Path.{◌≡◌, refl, sym, ap, ◌∙◌}
use mathlib.Core.Bool.{Bool, true, false}
use mathlib.Core.List.{List}
use native.Mathlib.Omega.{arith}
use borrow.Author.Tests.{eqb-true}
use lib.Dec.{eqb}
use lib.ListN.{get_or}
use Rattle.std.specs.Prelude.{Option, None, Some}
use Rattle.std.specs.Bool.{if◌then◌else◌}
use Rattle.word.proofs.Cases.{cases, le_or_gt}
use Rattle.reading.specs.declared.Place.{Place}
use Rattle.landing.specs.Code.{Table, or_else, among, looked_up, Tells}
use Rattle.landing.proofs.Halves.{entry_found}

abbrev placed : Table → ℕ → Place
placed t i = record { 0 = get_or t.places i 0 }

-- what is found beside an address stands in an entry
found_in : (t : Table) (address : ℕ) (place : Place) (k : ℕ) → among k t address ≡ Some place → (C : Type 0)
    → ((i : ℕ) → i < k → get_or t.addresses i 0 ≡ address → placed t i ≡ place → C) → C
unfolding among
found_in t address place zero e C found = absurd (cc)
found_in t address place (suc k) e C found =
    go (λ f. found_in t address place k f C (λ i h. found i (omega arith))) (among k t address) refl (eqb (get_or t.addresses k 0) address) refl e
  where
    go : (among k t address ≡ Some place → C) → (x : Option Place) → among k t address ≡ x → (b : Bool) → eqb (get_or t.addresses k 0) address ≡ b
        → or_else x (if b then Some (record { 0 = get_or t.places k 0 }) else None) ≡ Some place → C
    go before (Some p) a b h f = before (a ∙ f)
    go before None a true h f = found k (omega arith) (eqb-true (get_or t.addresses k 0) address h) (cc)
    go before None a false h f = absurd (cc)

pub record SameEntry (t u : Table) (i : ℕ) : Type 0 where
  pub there : i < u.count
  pub address : get_or t.addresses i 0 ≡ get_or u.addresses i 0
  pub place : get_or t.places i 0 ≡ get_or u.places i 0

module _ (listing : List ℕ) (base : ℕ) (t u : Table) (tells_t : Tells t listing base) (tells_u : Tells u listing base) where
  -- the places below are the same, so no entry of the other table has this address before its place, and none is left out
  one_entry : (i : ℕ) → ((j : ℕ) → j < i → SameEntry t u j) → i < t.count → SameEntry t u i
  one_entry i before l =
      let said : looked_up u a ≡ Some (placed t i) = tells_u.all a ∙ (sym (tells_t.all a) ∙ entry_found t tells_t.sorted i l) in
      found_in u a (placed t i) u.count said (SameEntry t u i)
      (λ k h e p.
      cases (le_or_gt k i)
      (λ m. cases (le_or_gt i k) (λ n. here k h e p (omega arith)) (λ n. absurd (omega (arith, e, (before k n).address, tells_t.sorted.rising k i n l))))
      (λ m. absurd (above k h e m)))
    where
      a : ℕ
      a = get_or t.addresses i 0

      here : (k : ℕ) → k < u.count → get_or u.addresses k 0 ≡ a → placed u k ≡ placed t i → k ≡ i → SameEntry t u i
      here k h e p s =
          let same : get_or u.places k 0 ≡ get_or t.places i 0 = ap (λ (q : Place). q.0) p in
          record { there = rw s at h; address = sym (rw s at e); place = sym (rw s at same) }

      -- an entry of the other table between the places below and this one would have an address that this table has not
      above : (k : ℕ) → k < u.count → get_or u.addresses k 0 ≡ a → i < k → ⊥
      above k h e m =
          let b = get_or u.addresses i 0 in
          let n : i < u.count = omega arith in
          let lower : b < a = rw e at (tells_u.sorted.rising i k m h) in
          let said : looked_up t b ≡ Some (placed u i) = tells_t.all b ∙ (sym (tells_u.all b) ∙ entry_found u tells_u.sorted i n) in
          found_in t b (placed u i) t.count said ⊥
          (λ o g f q.
          cases (le_or_gt i o)
          (λ r. cases (le_or_gt o i) (λ s. let w : o ≡ i = omega arith in omega (arith, rw w at f, lower)) (λ s. omega (arith, f, lower, tells_t.sorted.rising i o s g)))
          (λ r. omega (arith, f, (before o r).address, tells_u.sorted.rising o i r n)))

  entries_below : (n i : ℕ) → i < n → i < t.count → SameEntry t u i
  entries_below zero i h l = absurd (omega arith)
  entries_below (suc n) i h l = one_entry i (λ j m. entries_below n j (omega arith) (omega arith)) l

  pub same_entries : (i : ℕ) → i < t.count → SameEntry t u i
  same_entries i l = entries_below (suc i) i (omega arith) l

pub same_count : (listing : List ℕ) (base : ℕ) (t u : Table) → Tells t listing base → Tells u listing base → t.count ≡ u.count
same_count listing base t u tells_t tells_u =
    cases (le_or_gt t.count u.count)
    (λ h. cases (le_or_gt u.count t.count) (λ g. omega arith) (λ g. absurd (omega (arith, (same_entries listing base u t tells_u tells_t t.count g).there))))
    (λ h. absurd (omega (arith, (same_entries listing base t u tells_t tells_u u.count h).there)))
