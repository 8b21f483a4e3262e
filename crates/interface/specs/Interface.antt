-- What the C functions answer, as include/simbhoket.h says it.
use Rattle.std.specs.Prelude.{ℕ, ◌+◌, ◌*◌, ◌^◌, ◌&&◌, Option, Some, None, List, eqb, length, Option, Some, None}
use Rattle.std.specs.Bool.{if◌then◌else◌}
use Rattle.flow.specs.Flow.{machine_length, way, target}
use Rattle.flow.specs.declared.Way.{Way}
use Rattle.flow.specs.declared.Way.TheVariants.{Next, Direct, Taken, Fills}
use Rattle.setup.specs.declared.Setup.{Setup}
use Rattle.setup.specs.Setup.{at_base}
use Rattle.memory.specs.Memory.{stored}
use Rattle.listing.specs.Check.{Checked}
use Rattle.machine.specs.Machine.{Outcome}
use Rattle.machine.specs.Step.{stepped}
use Rattle.image.specs.Image.{is_image, machine_of, image_of}
use Rattle.run.specs.Run.{Rehearsal, state, run_of, Ending, outcome}
use Rattle.run.specs.Place.{Halted, fresh_run, resumed, Halting, halt}
use Rattle.rehearsal.specs.Program.{Told}
use Rattle.kinds.specs.Kinds.{listing_length}
use Rattle.record.specs.declared.Record.{Record}
use Rattle.reading.specs.declared.Place.{Place}

-- the number that a step in C gives, and what it leaves in the lent bytes
pub record Left : Type 0 where
  pub number : ℕ
  pub image : List ℕ
  pub memory : List ℕ

abbrev pub left : ℕ → List ℕ → List ℕ → Left
left number image memory = record { number = number; image = image; memory = memory }

-- "Machine and memory are changed only by 0."
unfoldable pub leaving : List ℕ → Outcome → Left
leaving image o =
    let after = if eqb o.answer.number 0 then image_of image o.answer.machine else image in
    left o.answer.number after o.memory

-- a step on a machine's image
unfoldable pub image_stepped : List ℕ → List ℕ → List ℕ → Setup → Left
image_stepped image r bytes setup =
    if is_image image then leaving image (stepped (machine_of image) r bytes setup)
    else left 1 image bytes

-- the number that a run in C gives, and what it leaves in the lent bytes
pub record RunLeft : Type 0 where
  pub number : ℕ
  pub image : List ℕ
  pub memory : List ℕ
  pub answer : List ℕ

abbrev pub run_left : ℕ → List ℕ → List ℕ → List ℕ → RunLeft
run_left number image memory answer = record { number = number; image = image; memory = memory; answer = answer }

-- "number, place and count as little-endian words"
unfoldable pub with_answer : List ℕ → ℕ → ℕ → ℕ → List ℕ
with_answer answer number place count =
    let first = at_base 0 in
    stored 4 first (stored 4 first (stored 4 first answer 0 number) 4 place) 8 count

-- "Machine and memory are handed back as after the last good step."
unfoldable pub run_leaving : List ℕ → List ℕ → Ending → RunLeft
run_leaving image answer e =
    let ran = e.answer in
    run_left ran.number (image_of image ran.machine) e.memory (with_answer answer ran.number ran.place.0 ran.count)

-- a run of a machine's image
unfoldable pub image_run : ℕ → Rehearsal → List ℕ → List ℕ → List ℕ → RunLeft
image_run budget h image bytes answer =
    if is_image image && eqb (length answer) 12
    then run_leaving image answer (outcome (run_of budget h (state (machine_of image) bytes)))
    else run_left 1 image bytes answer

-- a stored place as a number: "none" is 0xFFFFFFFF
unfoldable pub place_number : Option Place → ℕ
place_number (Some p) = p.0
place_number None = 0xFFFFFFFF

unfoldable pub numbered_place : ℕ → Option Place
numbered_place n = if eqb n 0xFFFFFFFF then None else Some (record { 0 = n })

-- "number, place, count and stored place .. as little-endian words"
unfoldable pub with_place : List ℕ → Halted → List ℕ
with_place answer a =
    stored 4 (at_base 0) (with_answer answer a.number a.place.0 a.count) 12 (place_number a.running.stored)

unfoldable pub halt_leaving : List ℕ → List ℕ → Halting → RunLeft
halt_leaving image answer x =
    let a = x.answer in run_left a.number (image_of image a.running.machine) x.memory (with_place answer a)

-- a fresh run of a machine's image that tells the stored place
unfoldable pub image_begun : ℕ → Rehearsal → List ℕ → List ℕ → List ℕ → RunLeft
image_begun budget h image bytes answer =
    if is_image image && eqb (length answer) 16
    then halt_leaving image answer (halt (fresh_run budget h (state (machine_of image) bytes)))
    else run_left 1 image bytes answer

-- a resume of it from a stored place
unfoldable pub image_resumed : ℕ → Rehearsal → List ℕ → List ℕ → ℕ → List ℕ → RunLeft
image_resumed budget h image bytes place answer =
    if is_image image && eqb (length answer) 16
    then halt_leaving image answer (halt (resumed budget h (state (machine_of image) bytes) (numbered_place place)))
    else run_left 1 image bytes answer

-- the length of a rehearsal's text, and the lent room after it
pub record TextLeft : Type 0 where
  pub length : ℕ
  pub room : List ℕ

abbrev pub text_left : ℕ → List ℕ → TextLeft
text_left length room = record { length = length; room = room }

unfoldable pub text_laid : Told → TextLeft
text_laid t = text_left t.answer.length t.room

-- two numbers of 32 bits in one of 64
abbrev pub pair : ℕ → ℕ → ℕ
pair low high = high * 2 ^ 32 + low

-- the listing bytes of a record, and above them its machine bytes; 0 where there is none
unfoldable pub measured : Option (Record × Place) → ℕ → ℕ
measured (Some (r, next)) kind = pair (listing_length kind) (machine_length r)
measured None kind = 0

-- 0 for a record that goes on; 1, and above it the target; 2 where a register or memory says; 4 for a filler, which goes nowhere
unfoldable pub way_number : Way → ℕ → ℕ
way_number Next address = 0
way_number (Direct offset) address = pair 1 (target address (Direct offset))
way_number Taken address = 2
way_number Fills address = 4

unfoldable pub way_read : Option Record → ℕ → ℕ
way_read (Some r) address = way_number (way r) address
way_read None address = 3

-- the number plus 2^32 times the place
unfoldable pub reported : Checked → ℕ
reported answer = pair answer.number answer.place.0
