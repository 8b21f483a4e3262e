-- Where a machine is: what the code finds at an address is the seat that the layout gives there.
use Prim.Native.Nat.{ℕ, ◌≤◌, ◌<◌}
use mathlib.Core.Bool.{Bool, true, false, not}
use mathlib.Core.List.{List}
use mathlib.Core.Path.{◌≡◌, refl, sym, ap, ◌∙◌}
use native.Mathlib.Omega.{arith}
use borrow.Author.Tests.{eqb-true, not-true}
use lib.ListN.{length}
use Rattle.std.specs.Bool.{if◌then◌else◌}
use Rattle.word.proofs.Cases.{both_true}
use Rattle.waiting.specs.declared.Waiting.{Waiting}
use Rattle.waiting.specs.Waiting.{nothing, waiting_count}
use Rattle.record.specs.declared.Record.{Record}
use Rattle.flow.specs.declared.Way.{Way}
use Rattle.flow.specs.Flow.{way, fills}
use Rattle.reading.specs.declared.Place.{Place}
use Rattle.layout.specs.declared.Address.{Address}
use Rattle.layout.specs.declared.Point.{Point}
use Rattle.layout.specs.Layout.{Stands, Stray, Met, Onward, AtEnd, Refusal, start, free, meets, filled, standing, at_address}
use Rattle.layout.proofs.Points.{end_place}
use Rattle.layout.proofs.Turns.{Passed}
use Rattle.layout.proofs.Members.{On, start_on, on_within, next_on, on_found, on_gap, below_start, Standing, stands_on}
use Rattle.layout.proofs.Blocks.{nothing_waits, unparted, unparted_at, parted_aside}
use Rattle.landing.specs.declared.Landing.{Landing}
use Rattle.std.specs.Prelude.{Option, Some, None}
use Rattle.landing.specs.Landing.{lands_here}
use Rattle.landing.specs.Code.{Table, last_in_table, Tells}
use Rattle.landing.proofs.Tabling.{Lands, last_lands}
use Rattle.listing.proofs.Accepted.{Accepted, not_stopped, end_waits}
use Rattle.run.specs.Place.{place_in}
use Rattle.run.specs.Code.{due_at, seat, seat_at, sat, Like, Ahead, Seated}

-- a point of the layout stands for itself, and without what a filler is told by
pub like_self : (listing : List ℕ) (base : ℕ) (p : Point) → On listing base p → Like listing base p
like_self listing base p o = record { point = p; on = o; place = refl; address = refl; waiting = refl; met = refl }

like_unparted : (listing : List ℕ) (base : ℕ) (p : Point) → On listing base p → filled (meets listing p) ≡ false → Like listing base (unparted_at p)
like_unparted listing base p o n = record { point = p; on = o; place = refl; address = refl; waiting = refl; met = parted_aside listing p n }

nowhere : (listing : List ℕ) (base address : ℕ) → at_address listing base address ≡ Stray → seat None nothing ≡ seat_at listing base address
unfolding seat_at place_in
nowhere listing base address e = rw e

module _ (listing : List ℕ) (base : ℕ) (ok : Accepted listing base) where
  -- ---- the seat at a point
  seat_here : (p : Point) → On listing base p → seat_at listing base p.address.0 ≡ sat (meets listing p) p
  unfolding seat_at sat place_in standing filled
  seat_here p o = rw (on_found listing base p o) (go (meets listing p) refl)
    where
      go : (t : Met) → meets listing p ≡ t
          → seat (place_in (length listing) (standing t p)) (due_at (standing t p)) ≡ (if filled t then seat None nothing else seat (Some p.place) p.waiting)
      go (Onward r q) e = chosen (fills (way r))
        where
          chosen : (f : Bool)
              → seat (place_in (length listing) (if f then Stray else Stands r p)) (due_at (if f then Stray else Stands r p))
              ≡ (if f then seat None nothing else seat (Some p.place) p.waiting)
          chosen true = refl
          chosen false = refl
      go AtEnd e =
          let last : p.place ≡ record { 0 = length listing } = ap (λ (n : ℕ). record { 0 = n }) (end_place listing p e) in
          rw (last, end_waits listing base ok p o e)
      go (Refusal number) e = absurd (not_stopped listing base ok p o number e)

  -- where no filler stands
  seat_standing : (p : Point) → On listing base p → filled (meets listing p) ≡ false → seat (Some p.place) p.waiting ≡ seat_at listing base p.address.0
  unfolding sat
  seat_standing p o n = sym (rw n at (seat_here p o))

  -- ---- a search from a point
  module _ (address : ℕ) where
    pub ahead_start : Ahead listing base address (start base)
    unfolding start
    ahead_start = record { like = like_self listing base (start base) (start_on listing base); past = below_start listing base address }

    module _ (from : Point) (so_far : Ahead listing base address from) where
      abbrev p : Point
      p = so_far.like.point

      same_address : from.address.0 ≡ p.address.0
      same_address = ap (λ (x : Address). x.0) so_far.like.address

      pub ahead_on : from.address.0 < address → (w : Way) (next : Point) → Passed listing from w next → Ahead listing base address next
      ahead_on low w next g =
          let o = so_far.like.on in
          let e = sym so_far.like.met ∙ g.goes in
          record {
            like = like_self listing base next (next_on listing base p o g.what next e);
            past = λ h. on_gap listing base p o address (rw same_address at low) (λ r q f. let s : q ≡ next = cc in rw s h);
          }

      pub ahead_last : from.address.0 < address → ((r : Record) (q : Point) → meets listing from ≡ Onward r q → ⊥) → seat None nothing ≡ seat_at listing base address
      ahead_last low none =
          nowhere listing base address (on_gap listing base p so_far.like.on address (rw same_address at low)
          (λ r q f. absurd (none r q (so_far.like.met ∙ f))))

      pub ahead_past : address < from.address.0 → seat None nothing ≡ seat_at listing base address
      ahead_past h = nowhere listing base address (so_far.past h)

      pub ahead_here : from.address.0 ≡ address → sat (meets listing from) from ≡ seat_at listing base address
      unfolding sat
      ahead_here h =
          rw (so_far.like.met, so_far.like.place, so_far.like.waiting)
          (sym (seat_here p so_far.like.on) ∙ ap (seat_at listing base) (sym same_address ∙ h))

      pub ahead_within : from.place.0 ≤ length listing
      ahead_within = rw so_far.like.place (on_within listing base p so_far.like.on).inside

  -- ---- from a landing place
  module _ (t : Table) (tells : Tells t listing base) (address : ℕ) (l : Landing) (found : Option Landing)
      (is : found ≡ last_in_table t address) (e : found ≡ Some l) where
    abbrev lands : Lands listing base l × (l.address ≤ address)
    lands = last_lands listing base t tells address l (sym is ∙ e)

    abbrev landed : Point
    landed = lands.0.point

    steps : (free landed ≡ true) × (filled (meets listing landed) ≡ false)
    unfolding lands_here
    steps =
        let b = both_true (free landed) (not (filled (meets listing landed))) lands.0.here in
        (b.0, not-true (filled (meets listing landed)) b.1)

    waits : landed.waiting ≡ nothing
    unfolding free
    waits = nothing_waits listing base landed lands.0.on (eqb-true (waiting_count landed.waiting) 0 steps.0)

    -- the point that the code makes of it
    abbrev made : Point
    made = record { place = l.place; address = record { 0 = l.address }; waiting = nothing; parted = false }

    like_made : Like listing base made
    like_made =
        let a : landed.address ≡ record { 0 = l.address } = ap (λ (n : ℕ). record { 0 = n }) lands.0.at in
        rw (← lands.0.place, ← a, ← waits) (like_unparted listing base landed lands.0.on steps.1)

    pub ahead_landing : Ahead listing base address made
    ahead_landing = record { like = like_made; past = λ h. absurd (omega (arith, lands.1)) }

    pub seat_landing : l.address ≡ address → seat (Some l.place) nothing ≡ seat_at listing base address
    seat_landing h =
        rw (lands.0.place, waits) at (seat_standing landed lands.0.on steps.1 ∙ ap (seat_at listing base) (lands.0.at ∙ h))

  -- ---- on to the next record
  module _ (from : ℕ) (place : Place) (due : Waiting) (s : Seated listing base from place due) where
    standing_there : Standing listing base from s.what s.point
    standing_there = stands_on listing base from s.what s.point s.stands

    abbrev left : Point
    left = record { place = place; address = record { 0 = from }; waiting = due; parted = false }

    unfilled : filled (meets listing s.point) ≡ false
    unfolding filled
    unfilled = rw standing_there.goes standing_there.steps

    met_left : meets listing left ≡ meets listing s.point
    met_left =
        let a : record { 0 = from } ≡ s.point.address = ap (λ (n : ℕ). record { 0 = n }) (sym standing_there.at) in
        rw (s.place_is, a, s.due_is) (parted_aside listing s.point unfilled)

    pub seat_next : (w : Way) (next : Point) → Passed listing left w next → (to : ℕ) → next.address.0 ≡ to → next.parted ≡ false
        → seat (Some next.place) next.waiting ≡ seat_at listing base to
    seat_next w next g to a n =
        let e = sym met_left ∙ g.goes in
        let o = next_on listing base s.point standing_there.on g.what next e in
        seat_standing next o (unparted listing next n) ∙ ap (seat_at listing base) a
