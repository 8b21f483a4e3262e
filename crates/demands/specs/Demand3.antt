-- Demand 3: "For a listing that the check accepts, memory within limits and a good machine at the first record with nothing waiting: for
-- any registers, flags, memory bytes and budget the run never ends with 1 to 4; before every step the waiting conditions are those
-- that the layout gives; it ends with 8 only directly after a step that took its next address from a register or from memory."
use Rattle.std.specs.Prelude.{ℕ, ◌≤◌, true, false, List, [], ◌∷◌, ◌≡◌, eqb, length, Option, None}
use Rattle.std.specs.Bool.{if◌then◌else◌}
use Rattle.waiting.specs.Waiting.{nothing}
use Rattle.record.specs.declared.Record.{Record}
use Rattle.flow.specs.declared.Way.TheVariants.{Taken}
use Rattle.flow.specs.Flow.{way}
use Rattle.setup.specs.Setup.{fits}
use Rattle.layout.specs.declared.Point.{Point}
use Rattle.layout.specs.Layout.{Stands, End, start, meets, filled, at_address}
use Rattle.listing.specs.Check.{checked}
use Rattle.machine.specs.Machine.{PC, held, good, condition_passes}
use Rattle.reading.specs.declared.Place.{Place}
use Rattle.run.specs.Run.{Rehearsal, State, Passage, Course, run_of}
use Rattle.run.specs.Place.{walks_place, fresh_run, resumed}
use Rattle.demands.specs.Run.{AtRecord, Every}

-- "For a listing that the check accepts, memory within limits and a good machine at the first record with nothing waiting"
pub record Start (h : Rehearsal) (s : State) : Type 0 where
  pub accepted : (checked h.listing h.base).number ≡ 0
  pub memory_fits : fits h.setup s.memory ≡ true
  pub machine_good : good s.machine ≡ true
  -- "Sixteen 32-bit registers": so has every machine of the code, whose registers are an array of sixteen
  pub sixteen : length s.machine.registers ≡ 16
  pub at_first : held s.machine PC ≡ h.base
  pub nothing_waits : s.machine.waiting ≡ nothing
  -- order 1: "demand 3 is then read for a listing whose first record isn't a filler"
  pub no_filler_first : filled (meets h.listing (start h.base)) ≡ false

abbrev pub Not1To4 : ℕ → Type 0
Not1To4 number = 1 ≤ number → number ≤ 4 → ⊥

-- "A step takes its next address from a register or from memory just when its condition, if any, passes and its record is BX, .."
pub record Takes (x : Passage) : Type 0 where
  pub passed : condition_passes x.before.machine x.what ≡ true
  pub from : way x.what ≡ Taken

-- there is a last step, and P holds of it
abbrev pub Last : (Passage → Type 0) → List Passage → Type 0
Last P [] = ⊥
Last P (x ∷ []) = P x
Last P (x ∷ y ∷ xs) = Last P (y ∷ xs)

-- the step that a run ended before: it was refused, or the budget left it out; "the record's [place] for a refused step, else 0"
pub record Attempt (h : Rehearsal) (c : Course) : Type 0 where
  pub what : Record
  pub point : Point
  pub at_record : AtRecord h c.last.machine what point
  pub place : c.place ≡ (if eqb c.number 10 then 0 else point.place.0)

-- what is demanded of a run
pub record Sound (h : Rehearsal) (c : Course) : Type 0 where
  -- "the run never ends with 1 to 4"
  pub number : Not1To4 c.number
  -- "before every step the waiting conditions are those that the layout gives"
  pub steps : Every (λ x. AtRecord h x.before.machine x.what x.point) c.steps
  -- and so they are before the step that was refused or left out
  pub attempt : (c.number ≡ 0 → ⊥) → (c.number ≡ 8 → ⊥) → Attempt h c
  -- "it ends with 8 only directly after a step that took its next address from a register or from memory"
  pub stray : c.number ≡ 8 → Last Takes c.steps

-- "for any registers, flags, memory bytes and budget"
abbrev pub Demand3 : Type 0
Demand3 = (budget : ℕ) (h : Rehearsal) (s : State) → Start h s → Sound h (run_of budget h s)

-- Order 6: "or, in place of its start, a resume of a good machine whose stored place agrees and isn't "none", with those conditions
-- waiting that the layout gives there"
pub record Restart (h : Rehearsal) (s : State) (stored : Option Place) : Type 0 where
  pub accepted : (checked h.listing h.base).number ≡ 0
  pub memory_fits : fits h.setup s.memory ≡ true
  pub machine_good : good s.machine ≡ true
  pub sixteen : length s.machine.registers ≡ 16
  pub agrees : stored ≡ walks_place h s.machine
  pub placed : stored ≡ None → ⊥
  pub waits_there : (r : Record) (p : Point) → at_address h.listing h.base (held s.machine PC) ≡ Stands r p
      → s.machine.waiting ≡ p.waiting
  pub waits_at_end : at_address h.listing h.base (held s.machine PC) ≡ End → s.machine.waiting ≡ nothing

abbrev pub Demand3Resumed : Type 0
Demand3Resumed =
    (budget : ℕ) (h : Rehearsal) (s : State) (stored : Option Place) → Restart h s stored → Sound h (resumed budget h s stored).course

-- a fresh run is the run that demand 3 speaks of
abbrev pub Demand3Fresh : Type 0
Demand3Fresh = (budget : ℕ) (h : Rehearsal) (s : State) → Start h s → Sound h (fresh_run budget h s).course
