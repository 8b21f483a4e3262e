-- A point more in the table of landing places: the addresses rise still, and it says what it said, and of the point.
use Prim.Native.Nat.{ℕ, zero, suc, ◌+◌, ◌^◌, ◌≤◌, ◌<◌}
use mathlib.Core.Path.{◌≡◌, refl, sym, ap, ◌∙◌}
use mathlib.Core.Bool.{Bool, true, false, ◌&&◌, and-true, and-false}
use mathlib.Core.List.{List}
use native.Mathlib.Omega.{arith}
use native.Mathlib.Nat.{mod-eq_of_lt}
use borrow.Author.Tests.{lt-ltb}
use lib.Dec.{eqb}
use lib.ListN.{length, get_or, set, length-set}
use lib.Seq.{get_or-set_same, get_or-set_other}
use Rattle.std.specs.Prelude.{Option, None, Some}
use Rattle.std.specs.Bool.{if◌then◌else◌}
use Rattle.word.proofs.Cases.{cases, le_or_gt}
use Rattle.reading.specs.declared.Place.{Place}
use Rattle.layout.specs.declared.Point.{Point}
use Rattle.landing.specs.Code.{Table, table, entered, or_else, among, looked_up, Below, Rising}

pub or_missing : (x : Option Place) → or_else x None ≡ x
or_missing (Some place) = refl
or_missing None = refl

-- ---- one address more, above all others
module _ (addresses : List ℕ) (count new : ℕ) (room : count < length addresses) where
  as_before : (i : ℕ) → i < count → get_or (set addresses count new) i 0 ≡ get_or addresses i 0
  as_before i h = get_or-set_other addresses count i new 0 (λ e. omega arith)

  the_new : get_or (set addresses count new) count 0 ≡ new
  the_new = get_or-set_same addresses count new 0 room

  below_more : Below addresses count new → (bound : ℕ) → new < bound → Below (set addresses count new) (count + 1) bound
  below_more below bound h i l =
      cases (le_or_gt count i) (λ m. let e : i ≡ count = omega arith in rw (e, the_new) h) (λ m. rw (as_before i m) (omega (arith, below i m)))

  rising_more : Rising addresses count → Below addresses count new → Rising (set addresses count new) (count + 1)
  rising_more rising below i j h l =
      let m : i < count = omega arith in
      rw (as_before i m)
      (cases (le_or_gt count j) (λ n. let e : j ≡ count = omega arith in rw (e, the_new) (below i m)) (λ n. rw (as_before j n) (rising i j h n)))

-- there is room for an entry more, and for the numbers of this one
pub record Room (t : Table) (p : Point) : Type 0 where
  pub addresses : t.count < length t.addresses
  pub places : t.count < length t.places
  pub low : p.address.0 < 2 ^ 32
  pub near : p.place.0 < 2 ^ 32

-- ---- a point more
pub record OneMore (lands : Bool) (p : Point) (t u : Table) : Type 0 where
  pub long : length u.addresses ≡ length t.addresses
  pub wide : length u.places ≡ length t.places
  pub count : u.count ≤ t.count + 1
  pub rising : Rising u.addresses u.count
  pub below : (bound : ℕ) → p.address.0 < bound → Below u.addresses u.count bound
  pub says : (address : ℕ)
      → looked_up u address ≡ or_else (looked_up t address) (if eqb p.address.0 address && lands then Some p.place else None)

module _ (p : Point) (t : Table) (room : Room t p) (rising : Rising t.addresses t.count) (below : Below t.addresses t.count p.address.0) where
  grown : Table
  grown = table (set t.addresses t.count p.address.0) (set t.places t.count p.place.0) (t.count + 1)

  -- entries before the new one say what they said
  among_before : (k address : ℕ) → k ≤ t.count → among k grown address ≡ among k t address
  unfolding among grown
  among_before zero address h = refl
  among_before (suc k) address h =
      rw (
        among_before k address (omega arith),
        as_before t.addresses t.count p.address.0 room.addresses k (omega arith),
        as_before t.places t.count p.place.0 room.places k (omega arith),
      )

  grown_says : (address : ℕ)
      → looked_up grown address ≡ or_else (looked_up t address) (if eqb p.address.0 address && true then Some p.place else None)
  unfolding among grown
  grown_says address = let e : t.count + 1 ≡ suc t.count = omega arith in ap (λ (k : ℕ). among k grown address) e ∙ last
    where
      last : among (suc t.count) grown address ≡ or_else (looked_up t address) (if eqb p.address.0 address && true then Some p.place else None)
      last =
          rw (
            among_before t.count address (omega arith),
            the_new t.addresses t.count p.address.0 room.addresses,
            the_new t.places t.count p.place.0 room.places,
            and-true (eqb p.address.0 address),
          )

  pub one_more : (lands : Bool) → OneMore lands p t (entered lands p t)
  unfolding entered grown
  one_more true =
      rw (lt-ltb t.count (length t.addresses) room.addresses, lt-ltb t.count (length t.places) room.places, mod-eq_of_lt room.low, mod-eq_of_lt room.near)
      (record {
        long = length-set t.addresses t.count p.address.0;
        wide = length-set t.places t.count p.place.0;
        count = omega arith;
        rising = rising_more t.addresses t.count p.address.0 room.addresses rising below;
        below = below_more t.addresses t.count p.address.0 room.addresses below;
        says = grown_says;
      })
  one_more false =
      record {
        long = refl;
        wide = refl;
        count = omega arith;
        rising = rising;
        below = λ bound h i l. omega (arith, below i l);
        says = λ address. rw (and-false (eqb p.address.0 address)) (sym (or_missing (looked_up t address)));
      }
