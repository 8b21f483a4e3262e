-- How the code keeps the landing places: a table of their addresses, which rise, and beside each address the place. Only so many entries
-- count, from the first on. And how they are searched in one list.
use Rattle.std.specs.Prelude.{ℕ, zero, suc, ◌+◌, ◌-◌, ◌/◌, ◌%◌, ◌^◌, ◌≤◌, ◌<◌, min, ◌≡◌, Bool, not, ◌&&◌, List, [], ◌∷◌, eqb, ltb, leb, length, get_or, set, Option, None, Some, is_some}
use Rattle.std.specs.Bool.{if◌then◌else◌}
use Rattle.reading.specs.declared.Place.{Place}
use Rattle.layout.specs.declared.Point.{Point}
use Rattle.layout.specs.Layout.{free, layout}
use Rattle.layout.specs.Code.{Seen, seen_filled}
use Rattle.landing.specs.declared.Landing.{Landing}
use Rattle.landing.specs.Landing.{lands_here, lands_at}

pub record Table : Type 0 where
  pub addresses : List ℕ
  pub places : List ℕ
  pub count : ℕ

abbrev pub table : List ℕ → List ℕ → ℕ → Table
table addresses places count = record { addresses = addresses; places = places; count = count }

-- a count that was given, and the lent room after it
abbrev pub table_left : ℕ → List ℕ → List ℕ → Table
table_left count addresses places = record { count = count; addresses = addresses; places = places }

-- a point is a landing place by what was seen there
unfoldable pub lands_seen : Point → Seen → Bool
lands_seen p seen = free p && not (seen_filled seen)

-- a point is entered after the last, if it is a landing place and there is room
unfoldable pub entered : Bool → Point → Table → Table
entered lands p t =
    if lands && ltb t.count (length t.addresses) && ltb t.count (length t.places)
    then table (set t.addresses t.count (p.address.0 % 2 ^ 32)) (set t.places t.count (p.place.0 % 2 ^ 32)) (t.count + 1)
    else t

unfoldable pub all_entered : List ℕ → List Point → Table → Table
all_entered listing [] t = t
all_entered listing (p ∷ ps) t = all_entered listing ps (entered (lands_here listing p) p t)

-- the landing places of a listing within its limit
unfoldable pub tabled : List ℕ → ℕ → Table → Table
tabled listing base t = if ltb 65536 (length listing) then t else all_entered listing (layout listing base) t

-- how many addresses are not above one, of those between two bounds, by so many halvings at the most
unfoldable pub addresses_by_halves : ℕ → List ℕ → ℕ → ℕ → ℕ → ℕ
addresses_by_halves zero addresses address low high = low
addresses_by_halves (suc more) addresses address low high =
    if ltb low high
    then (let middle = low + (high - low) / 2 in
    if leb (get_or addresses middle 0) address then addresses_by_halves more addresses address (middle + 1) high else addresses_by_halves more addresses address low middle)
    else low

-- the last of so many entries
unfoldable pub last_of_table : ℕ → Table → Option Landing
last_of_table zero t = None
last_of_table (suc k) t = Some (record { address = get_or t.addresses k 0; place = record { 0 = get_or t.places k 0 } })

-- the last entry that is not above an address
unfoldable pub last_in_table : Table → ℕ → Option Landing
last_in_table t address =
    let all = min t.count (min (length t.addresses) (length t.places)) in
    last_of_table (addresses_by_halves all t.addresses address 0 all) t

-- ---- landing places in one list
abbrev pub at : List Landing → ℕ → Landing
at landings i = get_or landings i (record { address = 0; place = record { 0 = 0 } })

-- how many entries are not above an address, of those between two bounds, by so many halvings at the most
unfoldable pub by_halves : ℕ → List Landing → ℕ → ℕ → ℕ → ℕ
by_halves zero landings address low high = low
by_halves (suc more) landings address low high =
    if ltb low high
    then (let middle = low + (high - low) / 2 in
    if leb (at landings middle).address address then by_halves more landings address (middle + 1) high else by_halves more landings address low middle)
    else low

-- the last of so many entries
unfoldable pub last_of : ℕ → List Landing → Option Landing
last_of zero landings = None
last_of (suc k) landings = Some (at landings k)

-- the last entry that is not above an address
unfoldable pub last_to : List Landing → ℕ → Option Landing
last_to landings address = last_of (by_halves (length landings) landings address 0 (length landings)) landings

-- ---- what a table says
abbrev pub or_else : Option Place → Option Place → Option Place
or_else (Some place) other = Some place
or_else None other = other

-- the place beside an address, among so many entries
unfoldable pub among : ℕ → Table → ℕ → Option Place
among zero t address = None
among (suc k) t address =
    or_else (among k t address) (if eqb (get_or t.addresses k 0) address then Some (record { 0 = get_or t.places k 0 }) else None)

abbrev pub looked_up : Table → ℕ → Option Place
looked_up t address = among t.count t address

abbrev pub is_listed : Table → ℕ → Bool
is_listed t address = is_some (looked_up t address)

abbrev pub Below : List ℕ → ℕ → ℕ → Type 0
Below addresses count bound = (i : ℕ) → i < count → get_or addresses i 0 < bound

abbrev pub Rising : List ℕ → ℕ → Type 0
Rising addresses count = (i j : ℕ) → i < j → j < count → get_or addresses i 0 < get_or addresses j 0

-- a table that can be searched by halves
pub record Sorted (t : Table) : Type 0 where
  pub fits : t.count ≤ length t.addresses
  pub paired : t.count ≤ length t.places
  pub rising : Rising t.addresses t.count

-- the place of the landing place at an address
unfoldable pub landing_place : List ℕ → ℕ → List Point → Option Place
landing_place listing address [] = None
landing_place listing address (p ∷ ps) = if lands_at listing address p then Some p.place else landing_place listing address ps

-- the landing places of a listing, and no other
pub record Tells (t : Table) (listing : List ℕ) (base : ℕ) : Type 0 where
  pub sorted : Sorted t
  pub all : (address : ℕ) → looked_up t address ≡ landing_place listing address (layout listing base)
