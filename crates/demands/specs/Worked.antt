-- Runs of two records, NOP and BLX R0, from 0x1000 on: demand 3 speaks of each of them, and they end in all four ways that it leaves.
use Rattle.std.specs.Prelude.{ℕ, List, [], ◌∷◌, ◌≡◌, length, Option, Some, None}
use Rattle.setup.specs.Setup.{at_base}
use Rattle.flags.specs.Flags.{clear}
use Rattle.waiting.specs.Waiting.{nothing}
use Rattle.reading.specs.declared.Place.{Place}
use Rattle.run.specs.Run.{Rehearsal, State, run_of}
use Rattle.run.specs.Place.{resumed}
use Rattle.demands.specs.Demand3.{Start, Restart}

abbrev pub shown : Rehearsal
shown = record { listing = 0x15 ∷ 0x00 ∷ 0x12 ∷ 0x01 ∷ 0x00 ∷ 0 ∷ []; base = 0x1000; setup = at_base 0x20000000 }

-- with R0 and R15 as given, all else 0 and no memory
abbrev pub with_R15 : ℕ → ℕ → State
with_R15 r0 r15 = record {
  machine = record {
    registers = r0 ∷ 0 ∷ 0 ∷ 0 ∷ 0 ∷ 0 ∷ 0 ∷ 0 ∷ 0 ∷ 0 ∷ 0 ∷ 0 ∷ 0 ∷ 0 ∷ 0 ∷ r15 ∷ [];
    flags = clear;
    waiting = nothing;
  };
  memory = [];
}

-- from the first record on
abbrev pub from : ℕ → State
from r0 = with_R15 r0 0x1000

-- of a budget of 5: the number, the place and the count
pub record RunRow : Type 0 where
  pub r0 : ℕ
  pub number : ℕ
  pub place : ℕ
  pub count : ℕ

abbrev pub run_table : List RunRow
run_table =
    record { r0 = 0x1005; number = 0; place = 0; count = 2 }  -- to the end address
    ∷ record { r0 = 0x2000; number = 7; place = 2; count = 1 }  -- bit 0 clear
    ∷ record { r0 = 0x2001; number = 8; place = 0; count = 2 }  -- to no record
    ∷ record { r0 = 0x1001; number = 10; place = 0; count = 5 }  -- to the first record, again and again
    ∷ []

abbrev pub Shows : RunRow → Type 0
Shows row =
    let c = run_of 5 shown (from row.r0) in
    Start shown (from row.r0) × (c.number ≡ row.number) × (c.place ≡ row.place) × (length c.steps ≡ row.count)

abbrev pub RunsWorked : List RunRow → Type 0
RunsWorked [] = Unit {0}
RunsWorked (row ∷ rows) = Shows row × RunsWorked rows

-- Resumes of the same from BLX, at 0x1002 and place 2, and what they store; demand 3 speaks of each of these too.
pub record ResumeRow : Type 0 where
  pub r0 : ℕ
  pub number : ℕ
  pub place : ℕ
  pub count : ℕ
  pub stored : Option Place

abbrev pub resume_table : List ResumeRow
resume_table =
    record { r0 = 0x1005; number = 0; place = 0; count = 1; stored = Some (record { 0 = 6 }) }  -- the length
    ∷ record { r0 = 0x2000; number = 7; place = 2; count = 0; stored = Some (record { 0 = 2 }) }  -- BLX still
    ∷ record { r0 = 0x2001; number = 8; place = 0; count = 1; stored = None }
    ∷ record { r0 = 0x1001; number = 10; place = 0; count = 5; stored = Some (record { 0 = 0 }) }  -- NOP is next
    ∷ []

abbrev pub ShowsResumed : ResumeRow → Type 0
ShowsResumed row =
    let s = with_R15 row.r0 0x1002 in
    let j = resumed 5 shown s (Some (record { 0 = 2 })) in
    Restart shown s (Some (record { 0 = 2 }))
    × (j.course.number ≡ row.number) × (j.course.place ≡ row.place) × (length j.course.steps ≡ row.count) × (j.stored ≡ row.stored)

abbrev pub ResumesWorked : List ResumeRow → Type 0
ResumesWorked [] = Unit {0}
ResumesWorked (row ∷ rows) = ShowsResumed row × ResumesWorked rows
