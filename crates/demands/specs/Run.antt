-- What holds of every run, whatever the listing, the machine and memory are.
use Rattle.std.specs.Prelude.{ℕ, ◌≤◌, false, ◌&&◌, List, [], ◌∷◌, ◌⊎◌, ◌≡◌, length}
use Rattle.word.specs.Sole.{Sole}
use Rattle.waiting.specs.Waiting.{nothing}
use Rattle.record.specs.declared.Record.{Record}
use Rattle.reading.specs.Reading.{part}
use Rattle.setup.specs.Setup.{fits}
use Rattle.layout.specs.declared.Point.{Point}
use Rattle.layout.specs.Layout.{Stands, End, Stray, at_address}
use Rattle.listing.specs.Check.{Checked, checked}
use Rattle.machine.specs.declared.Machine.{Machine}
use Rattle.machine.specs.Machine.{PC, held, good}
use Rattle.machine.specs.Step.{stepped}
use Rattle.run.specs.Run.{Rehearsal, State, Passage, Course, faced, over, run_of, outcome}

-- at R15 stands this record, at this point of the layout, and the conditions wait that the layout gives there
pub record AtRecord (h : Rehearsal) (m : Machine) (r : Record) (p : Point) : Type 0 where
  pub stands : at_address h.listing h.base (held m PC) ≡ Stands r p
  pub waits : m.waiting ≡ p.waiting

-- P holds of every step
abbrev pub Every : (Passage → Type 0) → List Passage → Type 0
Every P [] = Unit {0}
Every P (x ∷ xs) = P x × Every P xs

-- Why a run ended, with its number and its place: "the check's if the check refused, the record's for a refused step, else 0".
pub data Ended (budget : ℕ) (h : Rehearsal) (s : State) (c : Course) : Type 0 where
  -- "machine not good; memory over its limit or past 2^32"
  Unfit : (good s.machine && fits h.setup s.memory) ≡ false → c ≡ over 1 0 s → Ended budget h s c
  -- what the check gives
  Unaccepted : (k : Checked) → checked h.listing h.base ≡ k → (k.number ≡ 0 → ⊥) → c ≡ over k.number k.place.0 s
      → Ended budget h s c
  -- "run reached the end address with no conditions waiting"
  Reached : at_address h.listing h.base (held c.last.machine PC) ≡ End → c.last.machine.waiting ≡ nothing
      → c.number ≡ 0 → c.place ≡ 0 → Ended budget h s c
  -- "R15 is neither a record's address nor the end, or the waiting list differs from the layout's there"
  Strayed : faced h c.last.machine ≡ Stray → c.number ≡ 8 → c.place ≡ 0 → Ended budget h s c
  -- "steps used up"
  Spent : (r : Record) (p : Point) → AtRecord h c.last.machine r p
      → length c.steps ≡ budget → c.number ≡ 10 → c.place ≡ 0 → Ended budget h s c
  -- the step of a record was refused
  Stopped : (r : Record) (p : Point) → AtRecord h c.last.machine r p
      → (stepped c.last.machine (part h.listing p.place.0) c.last.memory h.setup).answer.number ≡ c.number
      → 1 ≤ c.number → c.number ≤ 7 → c.place ≡ p.place.0 → Ended budget h s c

-- a run c, and one whose budget is the count of c: the same steps, to the same machine and memory; where a step of c was refused, the
-- other has its steps used up instead
pub record Again (c again : Course) : Type 0 where
  pub steps : again.steps ≡ c.steps
  pub last : again.last ≡ c.last
  pub number : (again.number ≡ c.number) ⊎ (again.number ≡ 10)

-- what holds of the run c with a budget from a state s on
pub record EveryRun (budget : ℕ) (h : Rehearsal) (s : State) (c : Course) : Type 0 where
  pub ended : Ended budget h s c
  -- every step is that of a record of the layout, with the layout's conditions waiting
  pub at_records : Every (λ x. AtRecord h x.before.machine x.what x.point) c.steps
  -- "The run stops with the count equal to the rule's own, never past its budget."
  pub within : length c.steps ≤ budget
  -- "A refused step writes nothing": machine and memory are those after the steps that are counted
  pub counted : Again c (run_of (length c.steps) h s)

abbrev pub Runs : Type 0
Runs = (budget : ℕ) (h : Rehearsal) (s : State) → EveryRun budget h s (run_of budget h s)

-- "any two outcomes allowed are equal": the contract of `run` says that its answer and the memory that it leaves are this outcome
abbrev pub OneEnding : Type 0
OneEnding = (budget : ℕ) (h : Rehearsal) (s : State) → Sole (outcome (run_of budget h s))
