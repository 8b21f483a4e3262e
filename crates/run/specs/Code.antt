-- For the code alone: where its machine is, and what its rounds keep of a run, where the definition keeps the records too.
use Rattle.std.specs.Prelude.{ℕ, suc, ◌+◌, ◌<◌, Bool, true, ◌&&◌, ◌||◌, ◌≡◌, eqb, ltb, length, get_or, Option, Some, None, Result, Ok, Err}
use mathlib.Core.List.{List, Memᴰ}
use Rattle.std.specs.Bool.{if◌then◌else◌}
use Rattle.waiting.specs.declared.Waiting.{Waiting}
use Rattle.waiting.specs.Waiting.{nothing, same}
use Rattle.record.specs.declared.Record.{Record}
use Rattle.little.specs.Little.{byte}
use Rattle.setup.specs.declared.Setup.{Setup}
use Rattle.setup.specs.Setup.{fits}
use Rattle.layout.specs.declared.Point.{Point}
use Rattle.layout.specs.Layout.{AtAddress, Stands, End, Stray, Met, meets, layout, filled, at_address}
use Rattle.listing.specs.Check.{checked}
use Rattle.reading.specs.declared.Place.{Place}
use Rattle.machine.specs.declared.Machine.{Machine}
use Rattle.machine.specs.Machine.{PC, held, good}
use Rattle.refusal.specs.declared.Refusal.{Refusal}
use Rattle.refusal.specs.Refusal.{number}
use Rattle.run.specs.declared.Sight.{Sight}
use Rattle.run.specs.declared.Sight.TheVariants.{AtRecord, AtEnd, AtNone}
use Rattle.run.specs.declared.seat.Seat.{Seat}
use Rattle.run.specs.declared.race.Raced.{Raced}
use Rattle.run.specs.declared.race.Stride.{Stride}
use Rattle.flags.specs.declared.Flags.{Flags}
use Rattle.lent.specs.Lent.{assembled}
use Rattle.run.specs.Run.{Rehearsal, rehearsal, State, state, Course, faced, over, used_up, rounds}
use Rattle.run.specs.Place.{place_in, walks_place, same_place, Journey, journey, Halting, halting}

-- ---- where a machine is
-- the conditions that the layout gives
abbrev pub due_at : AtAddress → Waiting
due_at (Stands r p) = p.waiting
due_at End = nothing
due_at Stray = nothing

abbrev pub seat : Option Place → Waiting → Seat
seat stored due = record { stored = stored; due = due }

-- the seat at an address
unfoldable pub seat_at : List ℕ → ℕ → ℕ → Seat
seat_at listing base address =
    let there = at_address listing base address in seat (place_in (length listing) there) (due_at there)

abbrev pub seat_of : Rehearsal → Machine → Seat
seat_of h m = seat_at h.listing h.base (held m PC)

-- the seat at a point
unfoldable pub sat : Met → Point → Seat
sat t p = if filled t then seat None nothing else seat (Some p.place) p.waiting

-- a point that stands for one of the layout: whether a filler may stand at it is left open, as none does
pub record Like (listing : List ℕ) (base : ℕ) (from : Point) : Type 0 where
  pub point : Point
  pub on : Memᴰ point (layout listing base)
  pub place : from.place ≡ point.place
  pub address : from.address ≡ point.address
  pub waiting : from.waiting ≡ point.waiting
  pub met : meets listing from ≡ meets listing point

-- a point to search an address from: where it is past the address, nothing stands there
pub record Ahead (listing : List ℕ) (base address : ℕ) (from : Point) : Type 0 where
  pub like : Like listing base from
  pub past : address < from.address.0 → at_address listing base address ≡ Stray

-- the record that stands at an address, by its seat
pub record Seated (listing : List ℕ) (base address : ℕ) (place : Place) (due : Waiting) : Type 0 where
  pub what : Record
  pub point : Point
  pub stands : at_address listing base address ≡ Stands what point
  pub place_is : place ≡ point.place
  pub due_is : due ≡ point.waiting

-- ---- what a machine faces
unfoldable pub sight : AtAddress → Sight
sight (Stands r p) = AtRecord p.place
sight End = AtEnd
sight Stray = AtNone

unfoldable pub seen_from : Option Place → ℕ → Sight
seen_from (Some place) length = if eqb place.0 length then AtEnd else AtRecord place
seen_from None length = AtNone

-- with these conditions waiting
unfoldable pub facing : Seat → Waiting → ℕ → Sight
facing x waiting length = if same waiting x.due then seen_from x.stored length else AtNone

unfoldable pub used_up_at : Sight → ℕ
used_up_at AtEnd = 0
used_up_at AtNone = 8
used_up_at (AtRecord place) = 10

-- ---- the rounds, on the machine's parts
-- what holds before every step of a run that has begun
pub record Fit (h : Rehearsal) (s : State) : Type 0 where
  pub machine_good : good s.machine ≡ true
  -- the length of registers that are lent
  pub sixteen : length s.machine.registers ≡ 16
  pub memory_fits : fits h.setup s.memory ≡ true

abbrev pub parts_of : List ℕ → Flags → Waiting → List ℕ → State
parts_of registers flags waiting memory = state (assembled registers flags waiting) memory

-- the place of the record that is seen; the listing's length where there is none
unfoldable pub spot : Sight → ℕ → ℕ
spot (AtRecord place) length = place.0
spot AtEnd length = length
spot AtNone length = length

-- the kind at a place; that of a filler where there is none to step
unfoldable pub kind_there : List ℕ → ℕ → ℕ
kind_there listing place = if ltb place (length listing) then byte listing place else 0x17

-- the place after a step, `next` being that of the next record, which stands at `ahead`
unfoldable pub followed_to : List ℕ → Waiting → ℕ → ℕ → List ℕ → ℕ → ℕ
followed_to registers waiting ahead next listing base =
    let to = get_or registers PC 0 in
    if eqb to ahead then next else spot (facing (seat_at listing base to) waiting (length listing)) (length listing)

-- no record is faced
abbrev pub Nowhere : AtAddress → Type 0
Nowhere (Stands r p) = ⊥
Nowhere End = Unit {0}
Nowhere Stray = Unit {0}

-- the record at a place is faced
pub record Faces (h : Rehearsal) (m : Machine) (place : ℕ) : Type 0 where
  pub what : Record
  pub point : Point
  pub is : faced h m ≡ Stands what point
  pub at : point.place ≡ record { 0 = place }

-- the kind tells whether one is
pub record At (h : Rehearsal) (m : Machine) (place kind : ℕ) : Type 0 where
  pub some : (kind ≡ 0x17 → ⊥) → Faces h m place × (kind ≡ byte h.listing place)
  pub none : kind ≡ 0x17 → Nowhere (faced h m)

-- rounds that may start at a place
pub record Starts (registers : List ℕ) (flags : Flags) (waiting : Waiting) (place : ℕ) (listing : List ℕ) (base : ℕ) (memory : List ℕ)
    (setup : Setup) : Type 0 where
  pub fit : Fit (rehearsal listing base setup) (parts_of registers flags waiting memory)
  pub at : let h = rehearsal listing base setup in
      place ≡ spot (sight (faced h (assembled registers flags waiting))) (length listing)

-- the outcome of a run from here on, where so many steps are done already
unfoldable pub counted : Rehearsal → ℕ → Course → Halting
counted h count c =
    halting
    (record {
      number = c.number;
      place = record { 0 = c.place };
      count = count + length c.steps;
      running = record { machine = c.last.machine; stored = walks_place h c.last.machine };
    })
    c.last.memory

-- the record at a place, to be stepped
pub record StandsAt (registers : List ℕ) (flags : Flags) (waiting : Waiting) (place kind : ℕ) (listing : List ℕ) (base : ℕ)
    (memory : List ℕ) (setup : Setup) : Type 0 where
  pub fit : Fit (rehearsal listing base setup) (parts_of registers flags waiting memory)
  pub at : At (rehearsal listing base setup) (assembled registers flags waiting) place kind
  pub stepped : kind ≡ 0x17 → ⊥

-- after a step that was done: the run goes on from there
pub record LedOn (h : Rehearsal) (before after : State) (place kind : ℕ) : Type 0 where
  pub fit : Fit h after
  pub at : At h after.machine place kind
  pub on : (count left : ℕ) → counted h count (rounds (suc left) h before) ≡ counted h (count + 1) (rounds left h after)

-- the step of the record at a place: done, and the run goes on; or refused, and all is as it was
abbrev pub SteppedSo : Rehearsal → State → ℕ → Result Stride Refusal → List ℕ → Flags → List ℕ → Type 0
SteppedSo h before place (Ok r) registers flags memory = LedOn h before (parts_of registers flags r.waiting memory) r.place r.kind
SteppedSo h before place (Err refusal) registers flags memory =
    (left : ℕ) → rounds (suc left) h before ≡ over (number refusal) place (parts_of registers flags before.machine.waiting memory)

abbrev pub Strode : Result Stride Refusal → List ℕ → Flags → List ℕ → List ℕ → Flags → Waiting → ℕ → List ℕ → List ℕ → ℕ → Setup → Type 0
Strode r after flags memory before were waiting place bytes listing base setup =
    SteppedSo (rehearsal listing base setup) (parts_of before were waiting bytes) place r after flags memory

-- rounds that stopped: a step was refused; or there is none, or no budget for it
abbrev pub stopped_by : Option Refusal → Rehearsal → ℕ → State → Course
stopped_by (Some refusal) h place s = over (number refusal) place s
stopped_by None h place s = over (used_up (faced h s.machine)) 0 s

-- where they stopped is where the run would have ended
abbrev pub RacedTo : Raced → List ℕ → Flags → List ℕ → List ℕ → Flags → Waiting → List ℕ → List ℕ → ℕ → Setup → ℕ → Type 0
RacedTo r after flags memory before were start bytes listing base setup budget =
    let h = rehearsal listing base setup in
    counted h r.count (stopped_by r.refused h r.place (parts_of after flags r.waiting memory))
    ≡ counted h 0 (rounds budget h (parts_of before were start bytes))

-- ---- a run
-- that has begun
abbrev pub arrived : Rehearsal → Course → Journey
arrived h c = journey c (walks_place h c.last.machine)

-- anew, or from a stored place that has to agree
abbrev pub set_out : Bool → ℕ → Rehearsal → State → Option Place → Journey
set_out anew budget h s stored =
    if anew || same_place stored (walks_place h s.machine) then arrived h (rounds budget h s) else journey (over 1 0 s) stored

unfoldable pub proceeded : Bool → ℕ → Rehearsal → State → Option Place → Journey
proceeded anew budget h s stored =
    let c = checked h.listing h.base in
    if good s.machine && fits h.setup s.memory
    then (if eqb c.number 0 then set_out anew budget h s stored else journey (over c.number c.place.0 s) stored)
    else journey (over 1 0 s) stored
