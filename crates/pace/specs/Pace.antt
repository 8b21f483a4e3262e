-- For the code of a run: the step of a record that the check has passed, on the machine's parts. Order 13: none of the tests that the check
-- has made is made again.
use Rattle.std.specs.Prelude.{◌≡◌, ℕ, ◌+◌, ◌%◌, ◌^◌, ◌≤◌, false, List, slice_index}
use Rattle.little.specs.Little.{byte}
use Rattle.flags.specs.declared.Flags.{Flags}
use Rattle.waiting.specs.declared.Waiting.{Waiting}
use Rattle.waiting.specs.Waiting.{none, nothing, waiting_count}
use Rattle.flow.specs.Flow.{machine_length, misplaced, after}
use Rattle.kinds.specs.Kinds.{record_of}
use Rattle.setup.specs.declared.Setup.{Setup}
use Rattle.machine.specs.Machine.{PC, keeping}
use Rattle.machine.specs.Step.{obeyed}
use Rattle.lent.specs.Lent.{assembled, came, Formed}

-- bytes that begin with a record that is stepped: a filler is not
pub record SteppedKind (r : List ℕ) : Type 0 where
  pub least : 1 ≤ byte r 0
  pub most : byte r 0 ≤ 22
  pub sound : Formed r

-- where these conditions wait, 4 is not given; without a first there are none
pub record Ready (r : List ℕ) (waiting : Waiting) : Type 0 where
  pub kind : SteppedKind r
  pub spot : misplaced (record_of r) (waiting_count waiting) ≡ false
  pub none_waits : waiting.first ≡ none → waiting ≡ nothing

-- the address of the next record
abbrev pub ahead_in : List ℕ → List ℕ → ℕ
ahead_in registers r = (slice_index registers PC + machine_length (record_of r)) % 2 ^ 32

-- what a step leaves of the parts is what `obeyed` says of the machine that they make
abbrev pub Steps : ℕ → List ℕ → Flags → List ℕ → List ℕ → Flags → Waiting → List ℕ → List ℕ → Setup → Type 0
Steps number after_it flags memory before were waiting r bytes setup =
    keeping (came number after_it flags waiting (after (record_of r) waiting)) memory
    ≡ obeyed (assembled before were waiting) (record_of r) bytes setup
