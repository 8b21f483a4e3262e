-- Where a machine of a run is: at a record, which the kind at its place tells, or at none.
use Prim.Native.Nat.{ℕ, ◌+◌, ◌≤◌}
use mathlib.Core.Bool.{Bool, true, false}
use mathlib.Core.List.{List}
use mathlib.Core.Path.{◌≡◌, refl, sym, ap, ◌∙◌}
use native.Mathlib.Omega.{arith}
use borrow.Author.Tests.{eqb-true, eqb-false, lt-ltb, le-ltb}
use lib.Dec.{eqb, leb}
use lib.ListN.{length, drop}
use lib.Seq.{get_or-take, get_or-drop}
use Rattle.std.specs.Bool.{if◌then◌else◌}
use Rattle.little.specs.Little.{byte}
use Rattle.waiting.specs.Waiting.{nothing}
use Rattle.waiting.proofs.Laws.{same_self}
use Rattle.record.specs.declared.Record.{Record}
use Rattle.flow.specs.Flow.{way, fills}
use Rattle.kinds.specs.Kinds.{listing_length, record_of}
use Rattle.reading.specs.declared.Place.{Place}
use Rattle.std.specs.Prelude.{Option, Some, None}
use Rattle.reading.specs.Reading.{part, read_one, found_at, read_at}
use Rattle.reading.proofs.Places.{ahead}
use Rattle.layout.specs.declared.Point.{Point}
use Rattle.layout.specs.Layout.{AtAddress, Stands, End, Stray, Met, Onward, AtEnd, Refusal, meets, standing, at_address}
use Rattle.layout.proofs.Points.{onto, end_place}
use Rattle.layout.proofs.Members.{On, on_found, stands_on}
use Rattle.listing.proofs.Accepted.{Accepted, not_stopped, end_waits}
use Rattle.machine.specs.declared.Machine.{Machine}
use Rattle.machine.specs.Machine.{PC, held}
use Rattle.pace.proofs.Table.{fills_as}
use Rattle.pace.proofs.Lengths.{read_so}
use Rattle.run.specs.declared.Sight.TheVariants.{AtEnd}
use Rattle.run.specs.Run.{Rehearsal, agreeing, faced}
use Rattle.run.specs.Code.{sight, spot, kind_there, Nowhere, At}
use Rattle.run.proofs.Faced.{agreed_record}

-- ---- the bytes of a record
-- the first byte of a record is that of the listing at its place
pub first_byte : (listing : List ℕ) (place : ℕ) → 1 ≤ listing_length (byte listing place) → byte (part listing place) 0 ≡ byte listing place
first_byte listing place h =
    let e : place + 0 ≡ place = omega arith in
    get_or-take (listing_length (byte listing place)) (drop place listing) 0 0 h ∙ (get_or-drop place listing 0 0 ∙ ap (byte listing) e)

-- ---- what is met at a place
pub record KindMet (listing : List ℕ) (p : Point) (r : Record) (next : ℕ) : Type 0 where
  pub there : kind_there listing p.place.0 ≡ byte listing p.place.0
  pub filler : fills (way r) ≡ eqb (byte listing p.place.0) 0x17
  pub what : r ≡ record_of (part listing p.place.0)
  pub to : next ≡ p.place.0 + listing_length (byte listing p.place.0)

-- the place after a record that was read
read_to : (listing : List ℕ) (place : ℕ) (r : Record) (next : Place) → read_at listing place ≡ Some (r, next)
    → next.0 ≡ place + listing_length (byte listing place)
unfolding read_at found_at
read_to listing place r next = go (leb (place + size) (length listing)) (read_one (part listing place))
  where
    size : ℕ
    size = listing_length (byte listing place)

    go : (t : Bool) (x : Option Record) → (if t then found_at x (place + size) else None) ≡ Some (r, next) → next.0 ≡ place + size
    go true (Some x) e =
        let pair : ◌≡◌ {A = Record × Place} (r, next) (x, record { 0 = place + size }) = cc in ap (λ (p : Record × Place). p.1.0) pair
    go true None e = absurd (cc)
    go false x e = absurd (cc)

pub kind_met : (listing : List ℕ) (p n : Point) (r : Record) → meets listing p ≡ Onward r n → KindMet listing p r n.place.0
unfolding kind_there
kind_met listing p n r e =
    let o = onto listing p r n e in
    let place = p.place.0 in
    let a = ahead listing place r n.place o.read in
    let to = read_to listing place r n.place o.read in
    let so = read_so (part listing place) r a.read in
    let first = first_byte listing place (omega (arith, to, a.on)) in
    record {
      there = rw (lt-ltb place (length listing) (omega (arith, a.on, a.inside)));
      filler = rw so.is (fills_as (part listing place) ∙ ap (λ (k : ℕ). eqb k 0x17) first);
      what = so.is;
      to = to;
    }

-- ---- a machine at a point of the layout, with its conditions waiting
module _ (h : Rehearsal) (ok : Accepted h.listing h.base) where
  at_record : (m : Machine) (p n : Point) (r : Record) → meets h.listing p ≡ Onward r n → faced h m ≡ agreeing (standing (Onward r n) p) p.waiting
      → At h m p.place.0 (kind_there h.listing p.place.0)
  unfolding standing agreeing
  at_record m p n r e f = go (fills (way r)) refl
    where
      k : KindMet h.listing p r n.place.0
      k = kind_met h.listing p n r e

      go : (t : Bool) → fills (way r) ≡ t → At h m p.place.0 (kind_there h.listing p.place.0)
      go true t =
          let filler = eqb-true (byte h.listing p.place.0) 0x17 (sym k.filler ∙ t) in
          record { some = λ g. absurd (g (k.there ∙ filler)); none = λ g. rw (f, t) tt }
      go false t =
          let other = eqb-false (byte h.listing p.place.0) 0x17 (sym k.filler ∙ t) in
          record {
            some = λ g. (record { what = r; point = p; is = rw (t, same_self p.waiting) at f; at = refl }, k.there);
            none = λ g. absurd (other (sym k.there ∙ g));
          }

  pub at_point : (m : Machine) (p : Point) → On h.listing h.base p → held m PC ≡ p.address.0 → m.waiting ≡ p.waiting
      → At h m p.place.0 (kind_there h.listing p.place.0)
  unfolding faced kind_there standing agreeing
  at_point m p o a w = go (meets h.listing p) refl
    where
      there : faced h m ≡ agreeing (standing (meets h.listing p) p) p.waiting
      there = rw (a, w, on_found h.listing h.base p o)

      go : (t : Met) → meets h.listing p ≡ t → At h m p.place.0 (kind_there h.listing p.place.0)
      go (Onward r n) e = at_record m p n r e (rw e at there)
      go AtEnd e =
          let last = end_place h.listing p e in
          let past : kind_there h.listing p.place.0 ≡ 0x17 = rw (le-ltb p.place.0 (length h.listing) (omega (arith, last))) in
          let f : faced h m ≡ agreeing End p.waiting = rw e at there in
          record { some = λ g. absurd (g past); none = λ g. rw (f, end_waits h.listing h.base ok p o e, same_self nothing) tt }
      go (Refusal number) e = absurd (not_stopped h.listing h.base ok p o number e)

  -- ---- a machine of which the spot is known
  pub at_spot : (m : Machine) (place : ℕ) → place ≡ spot (sight (faced h m)) (length h.listing) → At h m place (kind_there h.listing place)
  unfolding faced agreeing spot sight kind_there
  at_spot m place e = go (faced h m) refl e
    where
      off : (t : AtAddress) → faced h m ≡ t → Nowhere t → place ≡ length h.listing → At h m place (kind_there h.listing place)
      off t f n l =
          let past : kind_there h.listing place ≡ 0x17 = rw (le-ltb place (length h.listing) (omega (arith, l))) in
          record { some = λ g. absurd (g past); none = λ g. rw f n }

      go : (t : AtAddress) → faced h m ≡ t → place ≡ spot (sight t) (length h.listing) → At h m place (kind_there h.listing place)
      go (Stands r p) f l =
          let there = agreed_record (at_address h.listing h.base (held m PC)) m.waiting r p f in
          let s = stands_on h.listing h.base (held m PC) r p there.0 in
          rw l (at_point m p s.on (sym s.at) there.1)
      go End f l = off End f tt l
      go Stray f l = off Stray f tt l
