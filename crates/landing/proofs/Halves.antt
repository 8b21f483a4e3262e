-- The search by halves: how it parts the entries of a table, and what the table says of an address where the parts meet.
use Prim.Native.Nat.{ℕ, zero, suc, ◌+◌, ◌-◌, ◌/◌, ◌≤◌, ◌<◌, min}
use mathlib.Core.Path.{◌≡◌, refl, sym, ◌∙◌}
use mathlib.Core.Bool.{Bool, true, false}
use mathlib.Core.List.{List}
use native.Mathlib.Omega.{arith}
use borrow.Author.Tests.{eqb-true, eqb-false, eq-eqb, ne_eqb, lt-ltb, le-ltb, le-leb, lt-leb, ltb-true, ltb-false, leb-true, leb-false}
use lib.Dec.{eqb, ltb, leb}
use lib.ListN.{length, get_or}
use Rattle.std.specs.Prelude.{Option, None, Some}
use Rattle.std.specs.Bool.{if◌then◌else◌}
use Rattle.word.proofs.Cases.{cases, le_or_gt}
use Rattle.landing.specs.declared.Landing.{Landing}
use Rattle.landing.specs.Code.{Table, addresses_by_halves, last_of_table, last_in_table, among, looked_up, is_listed, Rising, Sorted}

-- the middle of what is left
abbrev pub middle_of : ℕ → ℕ → ℕ
middle_of low high = low + (high - low) / 2

-- ---- a turn of the search: what is left of it gives what the whole gives
pub record Halving (addresses : List ℕ) (count address low high whole : ℕ) : Type 0 where
  pub order : low ≤ high
  pub within : high ≤ count
  pub more : ℕ
  pub enough : high - low ≤ more
  pub same : addresses_by_halves more addresses address low high ≡ whole

module _ (addresses : List ℕ) (count address low high whole : ℕ) (so_far : Halving addresses count address low high whole) where
  pub halved : high ≤ low → low ≡ whole
  unfolding addresses_by_halves
  halved h = go so_far.more so_far.same
    where
      go : (more : ℕ) → addresses_by_halves more addresses address low high ≡ whole → low ≡ whole
      go zero e = e
      go (suc more) e = rw (le-ltb low high h) at e

  module _ (still : low < high) where
    pub halved_up : get_or addresses (middle_of low high) 0 ≤ address → Halving addresses count address (middle_of low high + 1) high whole
    unfolding addresses_by_halves
    halved_up h = go so_far.more so_far.enough so_far.same
      where
        go : (more : ℕ) → high - low ≤ more → addresses_by_halves more addresses address low high ≡ whole → Halving addresses count address (middle_of low high + 1) high whole
        go zero n e = absurd (omega arith)
        go (suc more) n e = record {
          order = omega arith;
          within = so_far.within;
          more = more;
          enough = omega arith;
          same = rw (lt-ltb low high still, le-leb (get_or addresses (middle_of low high) 0) address h) at e;
        }

    pub halved_down : address < get_or addresses (middle_of low high) 0 → Halving addresses count address low (middle_of low high) whole
    unfolding addresses_by_halves
    halved_down h = go so_far.more so_far.enough so_far.same
      where
        go : (more : ℕ) → high - low ≤ more → addresses_by_halves more addresses address low high ≡ whole → Halving addresses count address low (middle_of low high) whole
        go zero n e = absurd (omega arith)
        go (suc more) n e = record {
          order = omega arith;
          within = omega (arith, so_far.within);
          more = more;
          enough = omega arith;
          same = rw (lt-ltb low high still, lt-leb (get_or addresses (middle_of low high) 0) address h) at e;
        }

-- a search ends within its bounds
pub halves_within : (addresses : List ℕ) (address more low high : ℕ) → low ≤ high → addresses_by_halves more addresses address low high ≤ high
unfolding addresses_by_halves
halves_within addresses address zero low high h = h
halves_within addresses address (suc more) low high h = go (λ l m n. halves_within addresses address more l m n) (ltb low high) refl
  where
    Rest : Type 0
    Rest = (l m : ℕ) → l ≤ m → addresses_by_halves more addresses address l m ≤ m

    middle : ℕ
    middle = middle_of low high

    side : Rest → (t : Bool) → low < high
        → (if t then addresses_by_halves more addresses address (middle + 1) high else addresses_by_halves more addresses address low middle) ≤ high
    side rest true l = rest (middle + 1) high (omega arith)
    side rest false l = omega (arith, rest low middle (omega arith))

    go : Rest → (t : Bool) → ltb low high ≡ t
        → (if t then (if leb (get_or addresses middle 0) address then addresses_by_halves more addresses address (middle + 1) high else addresses_by_halves more addresses address low middle) else low) ≤ high
    go rest true t = side rest (leb (get_or addresses middle 0) address) (ltb-true low high t)
    go rest false t = h

pub passed_within : (addresses : List ℕ) (address all passed : ℕ) → passed ≡ addresses_by_halves all addresses address 0 all → passed ≤ all
passed_within addresses address all passed e = rw e (halves_within addresses address all 0 all (omega arith))

-- ---- what a search knows: the entries before `low` are not above the address, and those from `high` on are
record Parted (addresses : List ℕ) (count address low high : ℕ) : Type 0 where
  order : low ≤ high
  within : high ≤ count
  below : (i : ℕ) → i < low → get_or addresses i 0 ≤ address
  above : (i : ℕ) → high ≤ i → i < count → address < get_or addresses i 0

-- entries from one on are no lower
rising_from : (addresses : List ℕ) (count : ℕ) → Rising addresses count → (i j : ℕ) → i ≤ j → j < count → get_or addresses i 0 ≤ get_or addresses j 0
rising_from addresses count rising i j h l =
    cases (le_or_gt j i) (λ m. let e : i ≡ j = omega arith in rw e (omega arith)) (λ m. omega (arith, rising i j m l))

module _ (addresses : List ℕ) (count address : ℕ) (rising : Rising addresses count) where
  halves_part : (more low high : ℕ) → high - low ≤ more → Parted addresses count address low high
      → Parted addresses count address (addresses_by_halves more addresses address low high) (addresses_by_halves more addresses address low high)
  unfolding addresses_by_halves
  halves_part zero low high n p = let e : high ≡ low = omega (arith, p.order) in rw e at p
  halves_part (suc more) low high n p = go (λ l h m q. halves_part more l h m q) (ltb low high) refl
    where
      Rest : Type 0
      Rest =
          (l h : ℕ) → h - l ≤ more → Parted addresses count address l h
          → Parted addresses count address (addresses_by_halves more addresses address l h) (addresses_by_halves more addresses address l h)

      middle : ℕ
      middle = middle_of low high

      side : Rest → (t : Bool) → leb (get_or addresses middle 0) address ≡ t → low < high
          → let k = if t then addresses_by_halves more addresses address (middle + 1) high else addresses_by_halves more addresses address low middle in Parted addresses count address k k
      side rest true t h =
          let here = leb-true (get_or addresses middle 0) address t in
          rest (middle + 1) high (omega arith) (record {
            order = omega arith;
            within = p.within;
            below = λ i l. omega (arith, here, rising_from addresses count rising i middle (omega arith) (omega (arith, p.within)));
            above = p.above;
          })
      side rest false t h =
          let here = leb-false (get_or addresses middle 0) address t in
          rest low middle (omega arith) (record {
            order = omega arith;
            within = omega (arith, p.within);
            below = p.below;
            above = λ i l m. omega (arith, here, rising_from addresses count rising middle i l m);
          })

      go : Rest → (t : Bool) → ltb low high ≡ t
          → let k = if t then (if leb (get_or addresses middle 0) address then addresses_by_halves more addresses address (middle + 1) high else addresses_by_halves more addresses address low middle) else low in
          Parted addresses count address k k
      go rest true t = side rest (leb (get_or addresses middle 0) address) refl (ltb-true low high t)
      go rest false t = let e : high ≡ low = omega (arith, p.order, ltb-false low high t) in rw e at p

-- ---- what a table says of an address
module _ (t : Table) (address : ℕ) where
  abbrev Missed : ℕ → Type 0
  Missed k = (i : ℕ) → i < k → get_or t.addresses i 0 ≡ address → ⊥

  among_none : (k : ℕ) → Missed k → among k t address ≡ None
  unfolding among
  among_none zero missed = refl
  among_none (suc k) missed =
      rw (among_none k (λ i l. missed i (omega arith)), ne_eqb (get_or t.addresses k 0) address (missed k (omega arith)))

  among_first : (k at : ℕ) → at < k → Missed at → get_or t.addresses at 0 ≡ address → among k t address ≡ Some (record { 0 = get_or t.places at 0 })
  unfolding among
  among_first zero at h missed e = absurd (omega arith)
  among_first (suc k) at h missed e =
      cases (le_or_gt k at)
      (λ l. let s : k ≡ at = omega arith in rw (s, among_none at missed, eq-eqb (get_or t.addresses at 0) address e))
      (λ l. rw (among_first k at l missed e))

-- addresses rise, so that each entry is the first of its address
pub entry_found : (t : Table) → Sorted t → (i : ℕ) → i < t.count → looked_up t (get_or t.addresses i 0) ≡ Some (record { 0 = get_or t.places i 0 })
entry_found t sorted i h = among_first t (get_or t.addresses i 0) t.count i h (λ j l e. omega (arith, sorted.rising j i l h)) refl

pub last_none : (k : ℕ) (t : Table) → k ≡ 0 → last_of_table k t ≡ None
unfolding last_of_table
last_none zero t e = refl
last_none (suc k) t e = absurd (omega arith)

pub last_before : (k : ℕ) (t : Table) → 0 < k
    → last_of_table k t ≡ Some (record { address = get_or t.addresses (k - 1) 0; place = record { 0 = get_or t.places (k - 1) 0 } })
unfolding last_of_table
last_before zero t h = absurd (omega arith)
last_before (suc k) t h = let e : suc k - 1 ≡ k = omega arith in rw e

-- is it this address that was found last?
abbrev pub hits : Option Landing → ℕ → Bool
hits (Some l) address = eqb l.address address
hits None address = false

pub record Entry (t : Table) (address : ℕ) (l : Landing) : Type 0 where
  pub index : ℕ
  pub listed : index < t.count
  pub is : l ≡ record { address = get_or t.addresses index 0; place = record { 0 = get_or t.places index 0 } }
  pub below : get_or t.addresses index 0 ≤ address

module _ (t : Table) (sorted : Sorted t) (address : ℕ) where
  abbrev at : ℕ
  at = addresses_by_halves t.count t.addresses address 0 t.count

  parted : Parted t.addresses t.count address at at
  parted =
      halves_part t.addresses t.count address sorted.rising t.count 0 t.count (omega arith) (record {
        order = omega arith;
        within = omega arith;
        below = λ i h. absurd (omega arith);
        above = λ i h l. absurd (omega arith);
      })

  last_is : last_in_table t address ≡ last_of_table at t
  unfolding last_in_table
  last_is =
      let e : min t.count (min (length t.addresses) (length t.places)) ≡ t.count = omega (arith, sorted.fits, sorted.paired) in rw e

  pub last_entry : (l : Landing) → last_in_table t address ≡ Some l → Entry t address l
  unfolding last_of_table
  last_entry l e = go at parted (sym last_is ∙ e)
    where
      go : (k : ℕ) → Parted t.addresses t.count address k k → last_of_table k t ≡ Some l → Entry t address l
      go zero p f = absurd (cc)
      go (suc k) p f = record { index = k; listed = omega (arith, p.within); is = cc; below = p.below k (omega arith) }

  -- an address is listed where the last entry that is not above it has it
  pub last_listed : is_listed t address ≡ hits (last_in_table t address) address
  unfolding last_of_table
  last_listed = rw last_is (go at parted)
    where
      go : (k : ℕ) → Parted t.addresses t.count address k k → is_listed t address ≡ hits (last_of_table k t) address
      go zero p = rw (among_none t address t.count (λ i h e. omega (arith, p.above i (omega arith) h)))
      go (suc k) p = same (eqb (get_or t.addresses k 0) address) refl
        where
          same : (b : Bool) → eqb (get_or t.addresses k 0) address ≡ b → is_listed t address ≡ b
          same true b =
              let e = eqb-true (get_or t.addresses k 0) address b in
              rw (among_first t address t.count k (omega (arith, p.within)) (λ i h f. omega (arith, e, sorted.rising i k h (omega (arith, p.within)))) e)
          same false b =
              let n = eqb-false (get_or t.addresses k 0) address b in
              rw (among_none t address t.count (λ i h f.
              cases (le_or_gt (suc k) i) (λ l. omega (arith, p.above i l h, f))
              (λ l. n (omega (arith, f, p.below k (omega arith), rising_from t.addresses t.count sorted.rising i k (omega arith) (omega (arith, p.within)))))))
