-- Landing places in one list: the search finds in it what it finds in the table of their addresses and places. So all that is known of tables is
-- known of lists.
use Prim.Native.Nat.{ℕ, zero, suc, ◌+◌, ◌-◌, ◌≤◌, ◌<◌, min}
use mathlib.Core.Path.{◌≡◌, refl, sym, ap, ◌∙◌}
use mathlib.Core.Bool.{Bool, true, false}
use mathlib.Core.List.{List, [], ◌∷◌}
use native.Mathlib.Omega.{arith}
use lib.Dec.{eqb}
use lib.ListN.{length, get_or}
use Rattle.std.specs.Prelude.{Option, None, Some, is_some, map}
use Rattle.std.specs.Bool.{if◌then◌else◌}
use Rattle.std.proofs.Math.ListN.{get_or-map}
use Rattle.std.proofs.lemmas.List.{length-map}
use Rattle.reading.specs.declared.Place.{Place}
use Rattle.layout.specs.Layout.{layout}
use Rattle.landing.specs.declared.Landing.{Landing}
use Rattle.landing.specs.Code.{Table, table, addresses_by_halves, last_of_table, last_in_table, at, by_halves, last_of, last_to, or_else, among, looked_up, Sorted, landing_place, Tells}
use Rattle.landing.proofs.Halves.{middle_of, halves_within, hits, last_entry, last_listed, entry_found}
use Rattle.landing.proofs.Tabling.{Lands, last_lands}

abbrev pub addresses_of : List Landing → List ℕ
addresses_of ls = map (λ (l : Landing). l.address) ls

abbrev pub places_of : List Landing → List ℕ
places_of ls = map (λ (l : Landing). l.place.0) ls

abbrev pub as_table : List Landing → Table
as_table ls = table (addresses_of ls) (places_of ls) (length ls)

-- ---- its entries are those of the list
pub address_at : (ls : List Landing) (i : ℕ) → get_or (addresses_of ls) i 0 ≡ (at ls i).address
address_at ls i = get_or-map (λ (l : Landing). l.address) ls i (record { address = 0; place = record { 0 = 0 } })

pub place_at : (ls : List Landing) (i : ℕ) → get_or (places_of ls) i 0 ≡ (at ls i).place.0
place_at ls i = get_or-map (λ (l : Landing). l.place.0) ls i (record { address = 0; place = record { 0 = 0 } })

pub entry_at : (ls : List Landing) (i : ℕ) → record { address = get_or (addresses_of ls) i 0; place = record { 0 = get_or (places_of ls) i 0 } } ≡ at ls i
entry_at ls i = rw (address_at ls i, place_at ls i) refl

-- ---- and so is what is found
pub halves_alike : (more : ℕ) (ls : List Landing) (address low high : ℕ)
    → by_halves more ls address low high ≡ addresses_by_halves more (addresses_of ls) address low high
unfolding by_halves addresses_by_halves
halves_alike zero ls address low high = refl
halves_alike (suc more) ls address low high =
    let middle = middle_of low high in
    rw (address_at ls middle, halves_alike more ls address (middle + 1) high, halves_alike more ls address low middle) refl

last_alike : (k : ℕ) (ls : List Landing) → last_of k ls ≡ last_of_table k (as_table ls)
unfolding last_of last_of_table
last_alike zero ls = refl
last_alike (suc k) ls = ap Some (sym (entry_at ls k))

pub found_alike : (ls : List Landing) (address : ℕ) → last_to ls address ≡ last_in_table (as_table ls) address
unfolding last_to last_in_table
found_alike ls address =
    let all : min (length ls) (min (length (addresses_of ls)) (length (places_of ls))) ≡ length ls =
    omega (arith, length-map ls (λ (l : Landing). l.address), length-map ls (λ (l : Landing). l.place.0)) in
    rw (all, halves_alike (length ls) ls address 0 (length ls)) (last_alike _ ls)

pub list_within : (ls : List Landing) (address more low high : ℕ) → low ≤ high → by_halves more ls address low high ≤ high
list_within ls address more low high h = rw (halves_alike more ls address low high) (halves_within (addresses_of ls) address more low high h)

pub list_passed_within : (ls : List Landing) (address passed : ℕ) → passed ≡ by_halves (length ls) ls address 0 (length ls) → passed ≤ length ls
list_passed_within ls address passed e = rw e (list_within ls address (length ls) 0 (length ls) (omega arith))

pub last_of_none : (k : ℕ) (ls : List Landing) → k ≡ 0 → last_of k ls ≡ None
unfolding last_of
last_of_none zero ls e = refl
last_of_none (suc k) ls e = absurd (omega arith)

pub last_of_some : (k : ℕ) (ls : List Landing) → 0 < k → last_of k ls ≡ Some (at ls (k - 1))
unfolding last_of
last_of_some zero ls h = absurd (omega arith)
last_of_some (suc k) ls h = let e : suc k - 1 ≡ k = omega arith in rw e

-- ---- what a list says: the place beside an address, and whether there is one
unfoldable pub list_place : List Landing → ℕ → Option Place
list_place [] address = None
list_place (l ∷ ls) address = if eqb l.address address then Some l.place else list_place ls address

abbrev pub list_has : List Landing → ℕ → Bool
list_has ls address = is_some (list_place ls address)

or_kept : (t : Bool) (place : Place) (x y : Option Place) → or_else (if t then Some place else x) y ≡ (if t then Some place else or_else x y)
or_kept true place x y = refl
or_kept false place x y = refl

-- the first of more entries is looked at first
among_first : (k : ℕ) (l : Landing) (ls : List Landing) (address : ℕ)
    → among (suc k) (as_table (l ∷ ls)) address ≡ (if eqb l.address address then Some l.place else among k (as_table ls) address)
unfolding among
among_first zero l ls address = refl
among_first (suc k) l ls address = rw (among_first k l ls address) (or_kept (eqb l.address address) l.place _ _)

pub place_alike : (ls : List Landing) (address : ℕ) → list_place ls address ≡ looked_up (as_table ls) address
unfolding list_place among
place_alike [] address = refl
place_alike (l ∷ ls) address = rw (among_first (length ls) l ls address, place_alike ls address) refl

-- ---- lists whose addresses rise
abbrev pub ListRises : List Landing → Type 0
ListRises ls = (i j : ℕ) → i < j → j < length ls → (at ls i).address < (at ls j).address

pub record ListEntry (ls : List Landing) (address : ℕ) (l : Landing) : Type 0 where
  pub index : ℕ
  pub listed : index < length ls
  pub is : l ≡ at ls index
  pub below : (at ls index).address ≤ address

module _ (ls : List Landing) (rising : ListRises ls) where
  pub list_sorted : Sorted (as_table ls)
  list_sorted = record {
    fits = omega (arith, length-map ls (λ (l : Landing). l.address));
    paired = omega (arith, length-map ls (λ (l : Landing). l.place.0));
    rising = λ i j h l. rw (address_at ls i, address_at ls j) (rising i j h l);
  }

  pub list_entry_found : (i : ℕ) → i < length ls → list_place ls (at ls i).address ≡ Some (at ls i).place
  list_entry_found i h = place_alike ls (at ls i).address ∙ (rw (address_at ls i, place_at ls i) at (entry_found (as_table ls) list_sorted i h))

  pub list_last_entry : (address : ℕ) (l : Landing) → last_to ls address ≡ Some l → ListEntry ls address l
  list_last_entry address l e =
      let n = last_entry (as_table ls) list_sorted address l (sym (found_alike ls address) ∙ e) in
      record { index = n.index; listed = n.listed; is = n.is ∙ entry_at ls n.index; below = rw (address_at ls n.index) at n.below }

  pub list_last_listed : (address : ℕ) → list_has ls address ≡ hits (last_to ls address) address
  list_last_listed address = rw (place_alike ls address, found_alike ls address) (last_listed (as_table ls) list_sorted address)

-- ---- the landing places of a listing, and no other
pub record ListTells (ls : List Landing) (listing : List ℕ) (base : ℕ) : Type 0 where
  pub rising : ListRises ls
  pub all : (address : ℕ) → list_place ls address ≡ landing_place listing address (layout listing base)

pub list_tells_as : (ls : List Landing) (listing : List ℕ) (base : ℕ) → ListTells ls listing base → Tells (as_table ls) listing base
list_tells_as ls listing base tells = record { sorted = list_sorted ls tells.rising; all = λ address. sym (place_alike ls address) ∙ tells.all address }

pub list_last_lands : (listing : List ℕ) (base : ℕ) (ls : List Landing) → ListTells ls listing base → (address : ℕ) (l : Landing)
    → last_to ls address ≡ Some l → Lands listing base l × (l.address ≤ address)
list_last_lands listing base ls tells address l e =
    last_lands listing base (as_table ls) (list_tells_as ls listing base tells) address l (sym (found_alike ls address) ∙ e)
