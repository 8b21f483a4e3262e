-- Order 6 over the run: what holds of the stored place.
use Rattle.std.specs.Prelude.{ℕ, zero, suc, ◌+◌, true, List, [], ◌∷◌, ◌++◌, ◌≡◌, length, Option, Some, None}
use Rattle.word.specs.Sole.{Sole}
use Rattle.record.specs.declared.Record.{Record}
use Rattle.layout.specs.declared.Point.{Point}
use Rattle.layout.specs.Layout.{Stray, at_address}
use Rattle.machine.specs.Machine.{PC, held}
use Rattle.reading.specs.declared.Place.{Place}
use Rattle.run.specs.Run.{Rehearsal, State, Passage, Course, run_of}
use Rattle.run.specs.Place.{walks_place, begins, Journey, journey, fresh_run, resumed, halt}
use Rattle.demands.specs.Run.{AtRecord}

-- the step with this number, counted from 0, is this one
abbrev pub StepIs : ℕ → List Passage → Passage → Type 0
StepIs i [] x = ⊥
StepIs zero (y ∷ ys) x = y ≡ x
StepIs (suc i) (y ∷ ys) x = StepIs i ys x

-- a running machine before a step: "the stored place is the one that the walk would find", that of the record to be stepped
pub record BeforeStep (h : Rehearsal) (x : Passage) (j : Journey) : Type 0 where
  pub running : j.course.last ≡ x.before
  pub walked : j.stored ≡ walks_place h x.before.machine
  pub its_place : j.stored ≡ Some x.point.place

-- "Before every step": a run that is cut there, by a budget of the steps before it, hands the running machine back
abbrev pub KeptBefore : Type 0
KeptBefore =
    (budget : ℕ) (h : Rehearsal) (s : State) (i : ℕ) (x : Passage) → begins h s ≡ true → StepIs i (run_of budget h s).steps x
    → BeforeStep h x (fresh_run i h s)

-- what is stored where a run that began has ended
pub record KeptAfter (h : Rehearsal) (j : Journey) : Type 0 where
  -- "the one that the walk would find"
  pub walked : j.stored ≡ walks_place h j.course.last.machine
  -- "At the end address the place is the listing's length"
  pub at_end : j.course.number ≡ 0 → j.stored ≡ Some (record { 0 = length h.listing })
  -- "a stray R15, or one at a filler, has a stated "none""
  pub astray : at_address h.listing h.base (held j.course.last.machine PC) ≡ Stray → j.stored ≡ None
  -- after 10, and "each refused step": that of the record
  pub at_record : (r : Record) (p : Point) → AtRecord h j.course.last.machine r p → j.stored ≡ Some p.place

-- of a fresh run, and of a resume whose stored place is the walk's
abbrev pub Kept : Type 0
Kept =
    (budget : ℕ) (h : Rehearsal) (s : State) → begins h s ≡ true
    → KeptAfter h (fresh_run budget h s) × KeptAfter h (resumed budget h s (walks_place h s.machine))

-- "each resume after number 10": a run of which the steps are used up, and the resume from where it is, are one run
abbrev pub CutAndResumed : Type 0
CutAndResumed =
    (budget more : ℕ) (h : Rehearsal) (s : State) → begins h s ≡ true → length s.machine.registers ≡ 16 → (run_of budget h s).number ≡ 10
    → let first = fresh_run budget h s in
    let rest = resumed more h first.course.last first.stored in
    let whole : Course = record {
      steps = first.course.steps ++ rest.course.steps;
      last = rest.course.last;
      number = rest.course.number;
      place = rest.course.place;
    } in
    fresh_run (budget + more) h s ≡ journey whole rest.stored

-- "any two outcomes allowed are equal": the contracts of `begin` and `resume` say that their answer and the memory that they leave are these
abbrev pub OneHalting : Type 0
OneHalting =
    (budget : ℕ) (h : Rehearsal) (s : State) (stored : Option Place) → Sole (halt (fresh_run budget h s)) × Sole (halt (resumed budget h s stored))
