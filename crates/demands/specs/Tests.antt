-- Order 13: "Within a run on an accepted listing the tests for 2, 3 and 4 are made again at each step. .. Take them out of that path. The run
-- from any other start keeps the layout test of 8 first, so show that they can't fire there either. .. Every end, count and machine stays the same."
use Rattle.std.specs.Prelude.{ℕ, true, false, ◌≡◌, Some, length, Option}
use Rattle.waiting.specs.Waiting.{waiting_count}
use Rattle.record.specs.declared.Record.{Record}
use Rattle.restricted.specs.Restricted.{allowed}
use Rattle.flow.specs.Flow.{misplaced}
use Rattle.reading.specs.Reading.{part, read_one}
use Rattle.setup.specs.Setup.{fits}
use Rattle.layout.specs.declared.Point.{Point}
use Rattle.layout.specs.Layout.{Stands}
use Rattle.machine.specs.Machine.{good}
use Rattle.machine.specs.Step.{obeyed, stepped}
use Rattle.reading.specs.declared.Place.{Place}
use Rattle.run.specs.Run.{Rehearsal, State, Course, faced, run_of}
use Rattle.run.specs.Place.{walks_place, begins, resumed}
use Rattle.demands.specs.Run.{Every}
use Rattle.demands.specs.Demand3.{Not1To4}

-- the step of a record, of which no test for 1 to 4 fires
pub record TestsPass (h : Rehearsal) (s : State) (r : Record) (p : Point) : Type 0 where
  -- 1: "machine not good; memory over its limit or past 2^32"
  pub machine : good s.machine ≡ true
  pub memory : fits h.setup s.memory ≡ true
  -- 2: the bytes at the record's place are that record
  pub read : read_one (part h.listing p.place.0) ≡ Some r
  -- 3: "restricted form"
  pub form : allowed r ≡ true
  -- 4: "wrong spot in a block", with the machine's own list
  pub spot : misplaced r (waiting_count s.machine.waiting) ≡ false
  -- so the step is what it is without them
  pub same : stepped s.machine (part h.listing p.place.0) s.memory h.setup ≡ obeyed s.machine r s.memory h.setup

-- in every round of a run in which the test of 8 was passed: before each step, and before the one that was refused or left out
pub record NoTestFires (h : Rehearsal) (c : Course) : Type 0 where
  pub steps : Every (λ x. TestsPass h x.before x.what x.point) c.steps
  pub last : (r : Record) (p : Point) → faced h c.last.machine ≡ Stands r p → TestsPass h c.last r p
  pub number : Not1To4 c.number

-- from any start that the tests and the check let begin: any R15, registers, flags and waiting conditions of a good machine
abbrev pub TestsCantFire : Type 0
TestsCantFire =
    (budget : ℕ) (h : Rehearsal) (s : State) → begins h s ≡ true → length s.machine.registers ≡ 16
    → NoTestFires h (run_of budget h s)

-- "for .. resume": from a stored place that agrees
abbrev pub TestsCantFireResumed : Type 0
TestsCantFireResumed =
    (budget : ℕ) (h : Rehearsal) (s : State) (stored : Option Place) → begins h s ≡ true → length s.machine.registers ≡ 16
    → stored ≡ walks_place h s.machine → NoTestFires h (resumed budget h s stored).course
