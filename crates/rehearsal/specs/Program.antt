-- "The program reads a listing of at most 32,768 bytes (more is number 1), base 0x1000, memory 32,768 zero bytes at 0x20000000, R13
-- 0x20008000, R15 0x1000, all else 0, budget 1,000,000. If the check refuses, it writes one line, as `check 2 at 17`, and no more
-- (`check 1 at 0` for too many bytes). Any other end is written as below".
use Rattle.std.specs.Prelude.{ℕ, List, ◌++◌, leb, ltb, eqb, length, drop, replicate, Option, None}
use Rattle.std.specs.Bool.{if◌then◌else◌}
use Rattle.setup.specs.Setup.{at_base}
use Rattle.listing.specs.Check.{Checked, checked}
use Rattle.machine.specs.declared.Machine.{Machine}
use Rattle.machine.specs.Machine.{SP, PC, fresh, written}
use Rattle.reading.specs.declared.Place.{Place}
use Rattle.run.specs.Run.{rehearsal, state}
use Rattle.run.specs.Place.{Halted, fresh_run, halt}
use Rattle.text.specs.Text.{check_text, end_text}
use Rattle.rehearsal.specs.declared.Answer.{Answer}

-- "R13 0x20008000, R15 0x1000, all else 0"
unfoldable pub program_start : Machine
program_start = written (written fresh SP 0x20008000) PC 0x1000

-- "budget 1,000,000"
abbrev pub program_budget : ℕ
program_budget = 1_000_000

-- "base 0x1000, memory 32,768 zero bytes at 0x20000000"; it is a fresh run, so that its stored place is known
unfoldable pub ran : ℕ → List ℕ → Halted
ran budget listing =
    let setup = at_base 0x20000000 in
    (halt (fresh_run budget (rehearsal listing 0x1000 setup) (state program_start (replicate 32768 0)))).answer

unfoldable pub run_text : Halted → List ℕ
run_text r = let m = r.running.machine in end_text r.number r.count m.registers m.flags

unfoldable pub text_after : Checked → Halted → List ℕ
text_after c r = if eqb c.number 0 then run_text r else check_text c.number c.place.0

unfoldable pub text_of : ℕ → List ℕ → List ℕ
text_of budget listing =
    if ltb 32768 (length listing) then check_text 1 0 else text_after (checked listing 0x1000) (ran budget listing)

-- the place of the check or, for a refused step, of its record, which the text doesn't tell in each case
unfoldable pub place_after : Checked → Halted → ℕ
place_after c r = if eqb c.number 0 then r.place.0 else c.place.0

unfoldable pub place_of : ℕ → List ℕ → ℕ
place_of budget listing =
    if ltb 32768 (length listing) then 0 else place_after (checked listing 0x1000) (ran budget listing)

-- the stored place that the run leaves; none where there is no run
unfoldable pub stored_after : Checked → Halted → Option Place
stored_after c r = if eqb c.number 0 then r.running.stored else None

unfoldable pub stored_of : ℕ → List ℕ → Option Place
stored_of budget listing =
    if ltb 32768 (length listing) then None else stored_after (checked listing 0x1000) (ran budget listing)

-- lent room with a text at its front; as it was where the text doesn't fit
unfoldable pub laid : List ℕ → List ℕ → List ℕ
laid text room = if leb (length text) (length room) then text ++ drop (length text) room else room

-- what a rehearsal answers, and the room after it
pub record Told : Type 0 where
  pub answer : Answer
  pub room : List ℕ

abbrev pub told : Answer → List ℕ → Told
told answer room = record { answer = answer; room = room }

-- a rehearsal within a budget
unfoldable pub rehearsed : ℕ → List ℕ → List ℕ → Told
rehearsed budget listing room =
    let text = text_of budget listing in
    told (record { length = length text; place = record { 0 = place_of budget listing }; stored = stored_of budget listing }) (laid text room)
