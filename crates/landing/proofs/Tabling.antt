-- The walk that enters all landing places in the table: what is entered, and what the points from here on will be, is all.
use Prim.Native.Nat.{ℕ, zero, suc, ◌+◌, ◌-◌, ◌*◌, ◌^◌, ◌≤◌, ◌<◌}
use mathlib.Core.Path.{◌≡◌, refl, sym, ◌∙◌}
use mathlib.Core.Bool.{Bool, true, false}
use mathlib.Core.List.{List, [], ◌∷◌, Memᴰ}
use native.Mathlib.Omega.{arith}
use borrow.Author.Tests.{eqb-true, le-ltb}
use lib.Dec.{eqb}
use lib.ListN.{length}
use Rattle.std.specs.Prelude.{Option, None, Some}
use Rattle.std.specs.Bool.{if◌then◌else◌}
use Rattle.word.proofs.Cases.{both_true}
use Rattle.record.specs.declared.Record.{Record}
use Rattle.reading.specs.declared.Place.{Place}
use Rattle.flow.specs.declared.Way.{Way}
use Rattle.layout.specs.declared.Point.{Point}
use Rattle.layout.specs.Layout.{Met, Onward, AtEnd, Refusal, start, meets, walk, layout}
use Rattle.layout.specs.Code.{Seen, seen}
use Rattle.layout.proofs.Points.{rises, walk_on, walk_more, walk_end, walk_refused, walk_none}
use Rattle.layout.proofs.Turns.{seen_as, Passed}
use Rattle.layout.proofs.Members.{On, start_on, on_within, next_on}
use Rattle.landing.specs.declared.Landing.{Landing}
use Rattle.landing.specs.Landing.{lands_here, lands_at}
use Rattle.landing.specs.Code.{Table, table, lands_seen, entered, all_entered, tabled, last_in_table, or_else, among, looked_up, Below, Rising, landing_place, Tells}
use Rattle.landing.proofs.Halves.{last_entry, entry_found}
use Rattle.landing.proofs.Entering.{Room, or_missing, OneMore, one_more}

pub seen_lands : (listing : List ℕ) (p : Point) (t : Seen) → t ≡ seen (meets listing p) → lands_seen p t ≡ lands_here listing p
unfolding lands_here lands_seen
seen_lands listing p t e = rw (e, seen_as (meets listing p))

or_then : (x : Option Place) (t : Bool) (place : Place) (y : Option Place)
    → or_else (or_else x (if t then Some place else None)) y ≡ or_else x (if t then Some place else y)
or_then (Some here) t place y = refl
or_then None true place y = refl
or_then None false place y = refl

record Listed (listing : List ℕ) (base : ℕ) (t : Table) (p : Point) (left : ℕ) : Type 0 where
  on : On listing base p
  long : length t.addresses ≡ 32769
  wide : length t.places ≡ 32769
  few : 2 * t.count ≤ p.place.0
  rising : Rising t.addresses t.count
  below : Below t.addresses t.count p.address.0
  all : (address : ℕ) → or_else (looked_up t address) (landing_place listing address (walk left listing p)) ≡ landing_place listing address (layout listing base)

module _ (listing : List ℕ) (base : ℕ) where
  listed_start : (addresses places : List ℕ) → length addresses ≡ 32769 → length places ≡ 32769
      → Listed listing base (table addresses places 0) (start base) (length listing + 1)
  unfolding among layout
  listed_start addresses places long wide = record {
    on = start_on listing base;
    long = long;
    wide = wide;
    few = omega arith;
    rising = λ i j h l. absurd (omega arith);
    below = λ i h. absurd (omega arith);
    all = λ address. refl;
  }

  module _ (size : length listing ≤ 65536) (low : (p : Point) → On listing base p → p.address.0 < 2 ^ 32)
      (t : Table) (p : Point) (left : ℕ) (so_far : Listed listing base t p left) where
    -- a record has at least two bytes, so there is an entry for each
    listed_room : Room t p
    listed_room =
        let inside = (on_within listing base p so_far.on).inside in
        record {
          addresses = omega (arith, so_far.long, so_far.few);
          places = omega (arith, so_far.wide, so_far.few);
          low = low p so_far.on;
          near = omega arith;
        }

    abbrev here : Bool
    here = lands_here listing p

    more : OneMore here p t (entered here p t)
    more = one_more p t listed_room so_far.rising so_far.below here

    listed_none : left ≤ 0 → Tells t listing base
    unfolding landing_place
    listed_none h = record {
      sorted = record { fits = omega (arith, listed_room.addresses); paired = omega (arith, listed_room.places); rising = so_far.rising };
      all = λ address. sym (or_missing (looked_up t address)) ∙ (rw (walk_none listing p left h) at (so_far.all address));
    }

    listed_last : walk left listing p ≡ p ∷ [] → Tells (entered here p t) listing base
    unfolding landing_place
    listed_last e = record {
      sorted = record {
        fits = omega (arith, more.count, more.long, listed_room.addresses);
        paired = omega (arith, more.count, more.wide, listed_room.places);
        rising = more.rising;
      };
      all = λ address. more.says address ∙ (rw e at (so_far.all address));
    }

    listed_on : 0 < left → (r : Record) (q : Point) → meets listing p ≡ Onward r q → Listed listing base (entered here p t) q (left - 1)
    unfolding landing_place
    listed_on h r q e =
        let up = rises listing p r q e in
        record {
          on = next_on listing base p so_far.on r q e;
          long = more.long ∙ so_far.long;
          wide = more.wide ∙ so_far.wide;
          few = omega (arith, more.count, so_far.few);
          rising = more.rising;
          below = more.below q.address.0 up.addresses;
          all = λ address.
              rw (more.says address)
              (or_then (looked_up t address) (lands_at listing address p) p.place (landing_place listing address (walk (left - 1) listing q))
              ∙ (rw (walk_on listing p left h r q e) at (so_far.all address)));
        }

  module _ (size : length listing ≤ 65536) (low : (p : Point) → On listing base p → p.address.0 < 2 ^ 32) where
    tells_from : (left : ℕ) (t : Table) (p : Point) → Listed listing base t p left → Tells (all_entered listing (walk left listing p) t) listing base
    unfolding all_entered
    tells_from zero t p l = rw (walk_none listing p 0 (omega arith)) (listed_none size low t p 0 l (omega arith))
    tells_from (suc left) t p l = go (λ u q m. tells_from left u q m) (meets listing p) refl
      where
        go : ((u : Table) (q : Point) → Listed listing base u q left → Tells (all_entered listing (walk left listing q) u) listing base)
            → (m : Met) → meets listing p ≡ m → Tells (all_entered listing (walk (suc left) listing p) t) listing base
        go rest (Onward r q) e =
            let one : suc left - 1 ≡ left = omega arith in
            rw (walk_more listing p left r q e) (rest (entered (lands_here listing p) p t) q (rw one at (listed_on size low t p (suc left) l (omega arith) r q e)))
        go rest AtEnd e = let w = walk_end listing p (suc left) (omega arith) e in rw w (listed_last size low t p (suc left) l w)
        go rest (Refusal number) e =
            let w = walk_refused listing p (suc left) (omega arith) number e in rw w (listed_last size low t p (suc left) l w)

    -- the table of a listing that is within its limit has all its landing places, where its addresses are words
    pub tells : (addresses places : List ℕ) → length addresses ≡ 32769 → length places ≡ 32769
        → Tells (tabled listing base (table addresses places 0)) listing base
    unfolding tabled layout
    tells addresses places long wide =
        rw (le-ltb 65536 (length listing) size)
        (tells_from (length listing + 1) (table addresses places 0) (start base) (listed_start addresses places long wide))

  -- ---- a turn of the walk that enters them
  module _ (t : Table) (p : Point) (left : ℕ) (whole : Table) (so_far : all_entered listing (walk left listing p) t ≡ whole) where
    pub entered_on : 0 < left → (w : Way) (q : Point) → Passed listing p w q
        → all_entered listing (walk (left - 1) listing q) (entered (lands_here listing p) p t) ≡ whole
    unfolding all_entered
    entered_on h w q g = rw (walk_on listing p left h g.what q g.goes) at so_far

    pub entered_last : walk left listing p ≡ p ∷ [] → entered (lands_here listing p) p t ≡ whole
    unfolding all_entered
    entered_last e = rw e at so_far

    pub entered_none : left ≤ 0 → t ≡ whole
    unfolding all_entered
    entered_none h = rw (walk_none listing p left h) at so_far

-- ---- an entry is of a landing place
pub record Lands (listing : List ℕ) (base : ℕ) (l : Landing) : Type 0 where
  pub point : Point
  pub on : On listing base point
  pub at : point.address.0 ≡ l.address
  pub place : point.place ≡ l.place
  pub here : lands_here listing point ≡ true

placed_point : (listing : List ℕ) (address : ℕ) (place : Place) (ps : List Point) → landing_place listing address ps ≡ Some place
    → (C : Type 0) → ((p : Point) → Memᴰ p ps → p.address.0 ≡ address → p.place ≡ place → lands_here listing p ≡ true → C) → C
unfolding landing_place
placed_point listing address place [] e C found = absurd (cc)
placed_point listing address place (p ∷ ps) e C found =
    go (λ f. placed_point listing address place ps f C (λ q m. found q (Memᴰ.tail m))) (lands_at listing address p) refl e
  where
    go : (landing_place listing address ps ≡ Some place → C) → (t : Bool) → lands_at listing address p ≡ t
        → (if t then Some p.place else landing_place listing address ps) ≡ Some place → C
    go rest true t f =
        let b = both_true (eqb p.address.0 address) (lands_here listing p) t in
        let same : p.place ≡ place = cc in
        found p (Memᴰ.head refl) (eqb-true p.address.0 address b.0) same b.1
    go rest false t f = rest f

pub last_lands : (listing : List ℕ) (base : ℕ) (t : Table) → Tells t listing base → (address : ℕ) (l : Landing) → last_in_table t address ≡ Some l
    → Lands listing base l × (l.address ≤ address)
last_lands listing base t tells address l e =
    let n = last_entry t tells.sorted address l e in
    rw n.is (
      placed_point listing _ _ (layout listing base) (sym (tells.all _) ∙ entry_found t tells.sorted n.index n.listed) _
          (λ p m a q h. record { point = p; on = m; at = a; place = q; here = h }),
      n.below,
    )
