-- Order 6: "Store the place with the running machine, and keep it true through each step, each branch, each resume after number 10, and
-- each refused step. Before every step the stored place is the one that the walk would find."
use Rattle.std.specs.Prelude.{ℕ, Bool, true, false, not, ◌&&◌, List, eqb, length, Option, Some, None}
use Rattle.std.specs.Bool.{if◌then◌else◌}
use Rattle.setup.specs.Setup.{fits}
use Rattle.layout.specs.Layout.{AtAddress, Stands, End, Stray, at_address}
use Rattle.listing.specs.Check.{checked}
use Rattle.machine.specs.declared.Machine.{Machine}
use Rattle.machine.specs.Machine.{PC, held, good}
use Rattle.reading.specs.declared.Place.{Place}
use Rattle.run.specs.declared.Running.{Running}
use Rattle.run.specs.Run.{Rehearsal, State, Course, over, run_of}

-- "At the end address the place is the listing's length; a stray R15, or one at a filler, has a stated "none"."
unfoldable pub place_in : ℕ → AtAddress → Option Place
place_in length (Stands r p) = Some p.place
place_in length End = Some (record { 0 = length })
place_in length Stray = None

-- the place that the walk finds for R15
unfoldable pub walks_place : Rehearsal → Machine → Option Place
walks_place h m = place_in (length h.listing) (at_address h.listing h.base (held m PC))

unfoldable pub same_place : Option Place → Option Place → Bool
same_place (Some p) (Some q) = eqb p.0 q.0
same_place (Some p) None = false
same_place None (Some q) = false
same_place None None = true

-- do the tests and the check let a run begin?
unfoldable pub begins : Rehearsal → State → Bool
begins h s = good s.machine && fits h.setup s.memory && eqb (checked h.listing h.base).number 0

-- a run of a running machine: what 01 calls the run, and the stored place that it leaves
pub record Journey : Type 0 where
  pub course : Course
  pub stored : Option Place

abbrev pub journey : Course → Option Place → Journey
journey course stored = record { course = course; stored = stored }

-- the stored place after a run: the walk's, if it began; else what it was
abbrev pub kept_true : Rehearsal → State → Option Place → Course → Journey
kept_true h s stored c = journey c (if begins h s then walks_place h c.last.machine else stored)

-- "A fresh run sets the place to "none" before any test and to the walk's once the check accepts"; "Answers and counts stay as in 01."
unfoldable pub fresh_run : ℕ → Rehearsal → State → Journey
fresh_run budget h s = kept_true h s None (run_of budget h s)

-- "a resume whose stored place disagrees with R15 is 1 with place 0, tested just after the check"
unfoldable pub resumed : ℕ → Rehearsal → State → Option Place → Journey
resumed budget h s stored =
    if begins h s && not (same_place stored (walks_place h s.machine)) then journey (over 1 0 s) stored
    else kept_true h s stored (run_of budget h s)

-- how a run of a running machine ended
pub record Halted : Type 0 where
  pub number : ℕ
  pub place : Place
  pub count : ℕ
  pub running : Running

-- the outcome of a run of a running machine: its answer, and memory after it
pub record Halting : Type 0 where
  pub answer : Halted
  pub memory : List ℕ

abbrev pub halting : Halted → List ℕ → Halting
halting answer memory = record { answer = answer; memory = memory }

-- the place of the answer is 01's, "the check's if the check refused, the record's for a refused step, else 0"
unfoldable pub halt : Journey → Halting
halt j =
    let c = j.course in
    halting
    (record {
      number = c.number;
      place = record { 0 = c.place };
      count = length c.steps;
      running = record { machine = c.last.machine; stored = j.stored };
    })
    c.last.memory
