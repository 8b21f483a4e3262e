-- The walk along a listing: what it meets, and where its points stand.
use Rattle.std.proofs.Common.{◌≡◌, ℕ, zero, suc, ◌+◌, ◌-◌, ◌*◌, ◌%◌, ◌^◌, ◌<◌, ◌≤◌, Bool, true, false, ◌&&◌, eqb, leb, List, [], ◌∷◌, length, Option, Some, None, refl, ap, ◌∙◌, arith, eqb-true, leb-true}
use borrow.Author.Tests.{eqb-false}
use Rattle.std.specs.Bool.{if◌then◌else◌}
use Rattle.word.proofs.Cases.{both_true}
use Rattle.record.specs.declared.Record.{Record}
use Rattle.record.specs.declared.Record.TheVariants.{Filler}
use Rattle.fields.specs.Fields.{well_formed}
use Rattle.flow.specs.Flow.{machine_length}
use Rattle.flow.proofs.Laws.{Lengths, machine_bytes}
use Rattle.reading.specs.declared.Place.{Place}
use Rattle.reading.specs.Reading.{read_at}
use Rattle.reading.proofs.Places.{ahead}
use Rattle.layout.specs.declared.Point.{Point}
use Rattle.layout.specs.Layout.{Met, Onward, AtEnd, Refusal, start, next, refusal_at, judged_at, meets, followed, walk}

-- what a record and the point after it say of a point
pub record Onto (listing : List ℕ) (p : Point) (r : Record) (q : Point) : Type 0 where
  pub inside : p.place.0 ≡ length listing → ⊥
  pub read : read_at listing p.place.0 ≡ Some (r, q.place)
  pub stands : refusal_at r p ≡ 0
  pub reached : q ≡ next r q.place p

module _ (listing : List ℕ) (p : Point) where
  judged_onto : (t : Bool) (r : Record) (place : Place) (number : ℕ) → eqb number 0 ≡ t → refusal_at r p ≡ number
      → read_at listing p.place.0 ≡ Some (r, place) → (p.place.0 ≡ length listing → ⊥)
      → (s : Record) (q : Point) → ◌≡◌ {A = Met} (if t then Onward r (next r place p) else Refusal number) (Onward s q) → Onto listing p s q
  unfolding next
  judged_onto true r place number t n f i s q e =
      let d : r ≡ s = cc in
      let g : next r place p ≡ q = cc in
      rw (← d, ← g) (record { inside = i; read = f; stands = n ∙ eqb-true number 0 t; reached = refl })
  judged_onto false r place number t n f i s q e = let z : ◌≡◌ {A = ℕ} 0 1 = cc in absurd (omega arith)

  read_onto : (x : Option (Record × Place)) → read_at listing p.place.0 ≡ x → (p.place.0 ≡ length listing → ⊥)
      → (r : Record) (q : Point) → judged_at x p ≡ Onward r q → Onto listing p r q
  unfolding judged_at
  read_onto (Some (r, place)) f i s q e =
      let n = refusal_at r p in judged_onto (eqb n 0) r place n refl refl f i s q e
  read_onto None f i s q e = let z : ◌≡◌ {A = ℕ} 0 1 = cc in absurd (omega arith)

  pub onto : (r : Record) (q : Point) → meets listing p ≡ Onward r q → Onto listing p r q
  unfolding meets
  onto r q = go (eqb p.place.0 (length listing)) refl
    where
      go : (t : Bool) → eqb p.place.0 (length listing) ≡ t
          → ◌≡◌ {A = Met} (if t then AtEnd else judged_at (read_at listing p.place.0) p) (Onward r q) → Onto listing p r q
      go true t e = let z : ◌≡◌ {A = ℕ} 0 1 = cc in absurd (omega arith)
      go false t e = read_onto (read_at listing p.place.0) refl (eqb-false p.place.0 (length listing) t) r q e

  -- a refusal has a number, and the end is where the listing ends
  judged_refused : (x : Option (Record × Place)) (number : ℕ) → judged_at x p ≡ Refusal number → number ≡ 0 → ⊥
  unfolding judged_at
  judged_refused (Some (r, place)) number e z = go (eqb n 0) refl e
    where
      n : ℕ
      n = refusal_at r p

      go : (t : Bool) → eqb n 0 ≡ t → ◌≡◌ {A = Met} (if t then Onward r (next r place p) else Refusal n) (Refusal number) → ⊥
      go true t f = let y : ◌≡◌ {A = ℕ} 0 1 = cc in omega arith
      go false t f = let y : n ≡ number = cc in eqb-false n 0 t (y ∙ z)
  judged_refused None number e z = let y : ◌≡◌ {A = ℕ} 2 number = cc in omega arith

  pub refused_number : (number : ℕ) → meets listing p ≡ Refusal number → number ≡ 0 → ⊥
  unfolding meets
  refused_number number = go (eqb p.place.0 (length listing))
    where
      go : (t : Bool) → ◌≡◌ {A = Met} (if t then AtEnd else judged_at (read_at listing p.place.0) p) (Refusal number) → number ≡ 0 → ⊥
      go true e z = let y : ◌≡◌ {A = ℕ} 0 1 = cc in omega arith
      go false e z = judged_refused (read_at listing p.place.0) number e z

  pub end_place : meets listing p ≡ AtEnd → p.place.0 ≡ length listing
  unfolding meets judged_at
  end_place = go (eqb p.place.0 (length listing)) refl
    where
      judged : (x : Option (Record × Place)) → judged_at x p ≡ AtEnd → ⊥
      judged (Some (r, place)) e = let n = refusal_at r p in chosen (eqb n 0) e
        where
          chosen : (t : Bool) → ◌≡◌ {A = Met} (if t then Onward r (next r place p) else Refusal (refusal_at r p)) AtEnd → ⊥
          chosen true e = let z : ◌≡◌ {A = ℕ} 0 1 = cc in omega arith
          chosen false e = let z : ◌≡◌ {A = ℕ} 0 1 = cc in omega arith
      judged None e = let z : ◌≡◌ {A = ℕ} 0 1 = cc in omega arith

      go : (t : Bool) → eqb p.place.0 (length listing) ≡ t
          → ◌≡◌ {A = Met} (if t then AtEnd else judged_at (read_at listing p.place.0) p) AtEnd → p.place.0 ≡ length listing
      go true t e = eqb-true p.place.0 (length listing) t
      go false t e = absurd (judged (read_at listing p.place.0) e)

-- the places and addresses that the walk can come to: a record has at least 2 listing bytes and less than 2^16 machine bytes
pub record Within (listing : List ℕ) (base : ℕ) (p : Point) : Type 0 where
  pub inside : p.place.0 ≤ length listing
  pub from : base ≤ p.address.0
  pub even : (p.address.0 - base) % 2 ≡ 0
  pub to : p.address.0 ≤ base + 2 ^ 15 * p.place.0

pub within_start : (listing : List ℕ) (base : ℕ) → Within listing base (start base)
unfolding start
within_start listing base = record { inside = omega arith; from = omega arith; even = omega arith; to = omega arith }

-- places and addresses rise: a record has at least two bytes of each
pub record Rises (p q : Point) : Type 0 where
  pub places : p.place.0 + 2 ≤ q.place.0
  pub addresses : p.address.0 < q.address.0

still_even : (base a n : ℕ) → base ≤ a → (a - base) % 2 ≡ 0 → n % 2 ≡ 0 → (a + n - base) % 2 ≡ 0
still_even base a n h e f = omega arith

-- the number of a filler that was read
filler_length : (number : ℕ) → well_formed (Filler number) ≡ true → Lengths number
unfolding well_formed
filler_length number h =
    let few = both_true (leb 2 number && leb number 65534) (eqb (number % 2) 0) h in
    let ends = both_true (leb 2 number) (leb number 65534) few.0 in
    record {
      low = leb-true 2 number ends.0;
      high = leb-true number 65534 ends.1;
      even = eqb-true (number % 2) 0 few.1;
    }

module _ (listing : List ℕ) (p : Point) (r : Record) (q : Point) (e : meets listing p ≡ Onward r q) where
  pub next_length : Lengths (machine_length r)
  next_length =
      let formed = (ahead listing p.place.0 r q.place (onto listing p r q e).read).formed in
      machine_bytes r (λ number f. filler_length number (rw f at formed))

  pub next_address : q.address.0 ≡ p.address.0 + machine_length r
  unfolding next
  next_address = ap (λ (q : Point). q.address.0) (onto listing p r q e).reached

  pub rises : Rises p q
  rises =
      let g = onto listing p r q e in
      let a = ahead listing p.place.0 r q.place g.read in
      let n = next_length in
      record { places = omega arith; addresses = omega (arith, next_address) }

  pub within_next : (base : ℕ) → Within listing base p → Within listing base q
  within_next base w =
      let g = onto listing p r q e in
      let a = ahead listing p.place.0 r q.place g.read in
      let n = next_length in
      record {
        inside = a.inside;
        from = omega (arith, next_address);
        even = rw next_address (still_even base p.address.0 (machine_length r) w.from w.even n.even);
        to = omega (arith, next_address);
      }

-- ---- a turn of the walk
module _ (listing : List ℕ) (p : Point) where
  pub walk_on : (count : ℕ) → 0 < count → (r : Record) (q : Point) → meets listing p ≡ Onward r q → walk count listing p ≡ p ∷ walk (count - 1) listing q
  unfolding walk
  walk_on zero h r q e = absurd (omega arith)
  walk_on (suc count) h r q e = let f : suc count - 1 ≡ count = omega arith in rw (e, f)

  pub walk_more : (count : ℕ) (r : Record) (q : Point) → meets listing p ≡ Onward r q → walk (suc count) listing p ≡ p ∷ walk count listing q
  unfolding walk
  walk_more count r q e = rw e

  pub walk_end : (count : ℕ) → 0 < count → meets listing p ≡ AtEnd → walk count listing p ≡ p ∷ []
  unfolding walk
  walk_end zero h e = absurd (omega arith)
  walk_end (suc count) h e = rw e

  pub walk_refused : (count : ℕ) → 0 < count → (number : ℕ) → meets listing p ≡ Refusal number → walk count listing p ≡ p ∷ []
  unfolding walk
  walk_refused zero h number e = absurd (omega arith)
  walk_refused (suc count) h number e = rw e

  pub walk_from : (count : ℕ) → 0 < count → walk count listing p ≡ p ∷ followed (meets listing p) (walk (count - 1) listing)
  unfolding walk
  walk_from zero h = absurd (omega arith)
  walk_from (suc count) h = let f : suc count - 1 ≡ count = omega arith in rw f

  pub walk_none : (count : ℕ) → count ≤ 0 → walk count listing p ≡ []
  unfolding walk
  walk_none zero h = refl
  walk_none (suc count) h = absurd (omega arith)
