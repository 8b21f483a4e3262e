-- What the code sees is what a machine faces, and a fresh run and a resume are what it does.
use Prim.Native.Nat.{ℕ, ◌+◌}
use mathlib.Core.Path.{◌≡◌, refl}
use mathlib.Core.Bool.{Bool, true, false, not, ◌&&◌}
use mathlib.Core.List.{List}
use native.Mathlib.Omega.{arith}
use borrow.Author.Tests.{eq-eqb, ne_eqb}
use lib.Dec.{eqb}
use lib.ListN.{length}
use Rattle.std.specs.Bool.{if◌then◌else◌}
use Rattle.waiting.specs.declared.Waiting.{Waiting}
use Rattle.waiting.specs.Waiting.{nothing, same}
use Rattle.reading.specs.declared.Place.{Place}
use Rattle.reading.specs.Reading.{part}
use Rattle.setup.specs.Setup.{fits}
use Rattle.layout.specs.Layout.{AtAddress, Stands, End, Stray, at_address}
use Rattle.layout.proofs.Points.{onto}
use Rattle.layout.proofs.Members.{stands_on}
use Rattle.listing.specs.Check.{checked}
use Rattle.machine.specs.Machine.{PC, held, good, Outcome}
use Rattle.machine.specs.Step.{stepped}
use Rattle.run.specs.declared.Sight.{Sight}
use Rattle.run.specs.declared.Sight.TheVariants.{AtRecord, AtEnd, AtNone}
use Rattle.std.specs.Prelude.{Option, None}
use Rattle.run.specs.declared.seat.Seat.{Seat}
use Rattle.run.specs.Run.{Rehearsal, State, Course, agreeing, over, used_up, rounds, run_of, Ending, ending, outcome}
use Rattle.run.specs.Place.{place_in, walks_place, same_place, begins, journey, fresh_run, resumed, Halting, halting, halt}
use Rattle.run.specs.Code.{due_at, seat_at, sight, seen_from, facing, used_up_at, counted, arrived, proceeded}

-- ---- what is seen
pub sight_used : (t : AtAddress) → used_up_at (sight t) ≡ used_up t
unfolding sight used_up_at used_up
sight_used (Stands r p) = refl
sight_used End = refl
sight_used Stray = refl

-- what is seen from a seat is what is faced
module _ (listing : List ℕ) (base address : ℕ) (waiting : Waiting) where
  abbrev there : AtAddress
  there = at_address listing base address

  pub facing_there : facing (seat_at listing base address) waiting (length listing) ≡ sight (agreeing there waiting)
  unfolding facing seat_at seen_from place_in agreeing sight
  facing_there = go there refl
    where
      never : (b : Bool) → ◌≡◌ {A = Sight} (if b then AtNone else AtNone) AtNone
      never true = refl
      never false = refl

      go : (t : AtAddress) → there ≡ t
          → (if same waiting (due_at t) then seen_from (place_in (length listing) t) (length listing) else AtNone) ≡ sight (agreeing t waiting)
      go (Stands r p) e =
          let s = stands_on listing base address r p e in
          rw (ne_eqb p.place.0 (length listing) (onto listing p r s.next s.goes).inside) (chosen (same waiting p.waiting))
        where
          chosen : (b : Bool) → (if b then AtRecord p.place else AtNone) ≡ sight (if b then Stands r p else Stray)
          chosen true = refl
          chosen false = refl
      go End e = rw (eq-eqb (length listing) (length listing) refl) (chosen (same waiting nothing))
        where
          chosen : (b : Bool) → (if b then AtEnd else AtNone) ≡ sight (if b then End else Stray)
          chosen true = refl
          chosen false = refl
      go Stray e = never (same waiting nothing)

abbrev pub step_there : Rehearsal → State → Place → Outcome
step_there h s place = stepped s.machine (part h.listing place.0) s.memory h.setup

pub counted_none : (h : Rehearsal) (c : Course) → counted h 0 c ≡ halt (arrived h c)
unfolding counted halt
counted_none h c = let none : 0 + length c.steps ≡ length c.steps = omega arith in rw none

-- what the code hands back of a run that is over
pub ended_so : (h : Rehearsal) (count number place : ℕ) (s : State) (at : Seat) → at ≡ seat_at h.listing h.base (held s.machine PC)
    → halting (record { number = number; place = record { 0 = place }; count = count; running = record { machine = s.machine; stored = at.stored } }) s.memory
    ≡ counted h count (over number place s)
unfolding counted seat_at walks_place
ended_so h count number place s at e = let none : count + 0 ≡ count = omega arith in rw (e, none)

-- ---- a fresh run and a resume are what the code does
module _ (budget : ℕ) (h : Rehearsal) (s : State) where
  abbrev fit : Bool
  fit = good s.machine && fits h.setup s.memory

  pub proceeded_fresh : proceeded true budget h s None ≡ fresh_run budget h s
  unfolding proceeded fresh_run run_of begins
  proceeded_fresh = go fit (eqb (checked h.listing h.base).number 0)
    where
      go : (f a : Bool)
          → (if f then (if a then arrived h (rounds budget h s) else journey (over (checked h.listing h.base).number (checked h.listing h.base).place.0 s) None) else journey (over 1 0 s) None)
          ≡ (let c = (if f then (if a then rounds budget h s else over (checked h.listing h.base).number (checked h.listing h.base).place.0 s) else over 1 0 s) in
          journey c (if f && a then walks_place h c.last.machine else None))
      go true true = refl
      go true false = refl
      go false a = refl

  pub proceeded_resumed : (stored : Option Place) → proceeded false budget h s stored ≡ resumed budget h s stored
  unfolding proceeded resumed run_of begins
  proceeded_resumed stored = go fit (eqb (checked h.listing h.base).number 0) (same_place stored (walks_place h s.machine))
    where
      go : (f a b : Bool)
          → (if f then (if a then (if b then arrived h (rounds budget h s) else journey (over 1 0 s) stored) else journey (over (checked h.listing h.base).number (checked h.listing h.base).place.0 s) stored) else journey (over 1 0 s) stored)
          ≡ (if (f && a) && not b then journey (over 1 0 s) stored
          else (let c = (if f then (if a then rounds budget h s else over (checked h.listing h.base).number (checked h.listing h.base).place.0 s) else over 1 0 s) in
          journey c (if f && a then walks_place h c.last.machine else stored)))
      go true true true = refl
      go true true false = refl
      go true false b = refl
      go false a b = refl

-- and a run is a fresh run of which the stored place is left out
abbrev pub ending_of : Halting → Ending
ending_of x =
    let a = x.answer in
    ending (record { number = a.number; place = a.place; count = a.count; machine = a.running.machine }) x.memory

pub outcome_fresh : (budget : ℕ) (h : Rehearsal) (s : State) → ending_of (halt (fresh_run budget h s)) ≡ outcome (run_of budget h s)
unfolding halt fresh_run outcome
outcome_fresh budget h s = refl
