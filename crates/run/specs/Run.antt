-- "A run tests machine and memory (1), then the check, then each round: end (0), stray (8), steps used up (10), step."
use Rattle.std.specs.Prelude.{ℕ, zero, suc, ◌&&◌, List, [], ◌∷◌, eqb, length}
use Rattle.std.specs.Bool.{if◌then◌else◌}
use Rattle.waiting.specs.declared.Waiting.{Waiting}
use Rattle.waiting.specs.Waiting.{nothing, same}
use Rattle.record.specs.declared.Record.{Record}
use Rattle.reading.specs.Reading.{part}
use Rattle.setup.specs.declared.Setup.{Setup}
use Rattle.setup.specs.Setup.{fits}
use Rattle.layout.specs.declared.Point.{Point}
use Rattle.layout.specs.Layout.{AtAddress, Stands, End, Stray, at_address}
use Rattle.listing.specs.Check.{Checked, checked}
use Rattle.machine.specs.declared.Machine.{Machine}
use Rattle.machine.specs.Machine.{PC, held, good, Outcome}
use Rattle.machine.specs.Step.{stepped}
use Rattle.reading.specs.declared.Place.{Place}

-- what is fixed for a run
pub record Rehearsal : Type 0 where
  pub listing : List ℕ
  pub base : ℕ
  pub setup : Setup

abbrev pub rehearsal : List ℕ → ℕ → Setup → Rehearsal
rehearsal listing base setup = record { listing = listing; base = base; setup = setup }

-- what a step changes
pub record State : Type 0 where
  pub machine : Machine
  pub memory : List ℕ

abbrev pub state : Machine → List ℕ → State
state machine memory = record { machine = machine; memory = memory }

-- a step that was done: the state before it, its record, and where that stands
pub record Passage : Type 0 where
  pub before : State
  pub what : Record
  pub point : Point

-- a whole run: the steps done, in order; the state that it leaves; why and where it ended
pub record Course : Type 0 where
  pub steps : List Passage
  pub last : State
  pub number : ℕ
  pub place : ℕ

-- what stands at R15, unless "the waiting list differs from the layout's there"; at the end the layout has none
unfoldable pub agreeing : AtAddress → Waiting → AtAddress
agreeing (Stands r p) waiting = if same waiting p.waiting then Stands r p else Stray
agreeing End waiting = if same waiting nothing then End else Stray
agreeing Stray waiting = Stray

unfoldable pub faced : Rehearsal → Machine → AtAddress
faced h m = agreeing (at_address h.listing h.base (held m PC)) m.waiting

-- one round, without a budget: the run is over, with a number and a place; or a step is done
pub data Round : Type 0 where
  Over : ℕ → ℕ → Round
  Done : Record → Point → State → Round

-- a step on the record's bytes; the place is "the record's for a refused step"
unfoldable pub attempted : Record → Point → Outcome → Round
attempted r p o =
    if eqb o.answer.number 0 then Done r p (state o.answer.machine o.memory) else Over o.answer.number p.place.0

-- "end (0), stray (8), .. step"; the place is "else 0"
unfoldable pub round_at : AtAddress → Rehearsal → State → Round
round_at End h s = Over 0 0
round_at Stray h s = Over 8 0
round_at (Stands r p) h s =
    attempted r p (stepped s.machine (part h.listing p.place.0) s.memory h.setup)

unfoldable pub round : Rehearsal → State → Round
round h s = round_at (faced h s.machine) h s

-- a run that is over before its next step
abbrev pub over : ℕ → ℕ → State → Course
over number place s = record { steps = []; last = s; number = number; place = place }

-- a step, and the run from there
abbrev pub led_by : Passage → Course → Course
led_by x c = record { steps = x ∷ c.steps; last = c.last; number = c.number; place = c.place }

abbrev pub continued : Round → State → (State → Course) → Course
continued (Over number place) s rest = over number place s
continued (Done r p next) s rest = led_by (record { before = s; what = r; point = p }) (rest next)

-- "end (0), stray (8), steps used up (10)"
unfoldable pub used_up : AtAddress → ℕ
used_up End = 0
used_up Stray = 8
used_up (Stands r p) = 10

-- the rounds of a run with so many steps left
unfoldable pub rounds : ℕ → Rehearsal → State → Course
rounds zero h s = over (used_up (faced h s.machine)) 0 s
rounds (suc left) h s = continued (round h s) s (rounds left h)

-- the rounds, unless the check refuses; the place is "the check's if the check refused"
abbrev pub unless_refused : Checked → State → Course → Course
unless_refused c s rest = if eqb c.number 0 then rest else over c.number c.place.0 s

unfoldable pub run_of : ℕ → Rehearsal → State → Course
run_of budget h s =
    if good s.machine && fits h.setup s.memory
    then unless_refused (checked h.listing h.base) s (rounds budget h s)
    else over 1 0 s

-- how a run ended: its number and place, the count of the steps done, and the machine after them
pub record Ran : Type 0 where
  pub number : ℕ
  pub place : Place
  pub count : ℕ
  pub machine : Machine

-- the outcome of a run: its answer, and memory after it
pub record Ending : Type 0 where
  pub answer : Ran
  pub memory : List ℕ

abbrev pub ending : Ran → List ℕ → Ending
ending answer memory = record { answer = answer; memory = memory }

-- "Its count is the number of steps completed, failed conditions included."
unfoldable pub outcome : Course → Ending
outcome c =
    ending
    (record { number = c.number; place = record { 0 = c.place }; count = length c.steps; machine = c.last.machine })
    c.last.memory
