-- For the code of a run: the machine in parts, lent, and what an arm leaves of them. It is what the step's definitions say of the machine
-- that the parts make.
use Rattle.std.specs.Prelude.{◌≡◌, ℕ, ◌+◌, ◌%◌, ◌^◌, ◌≤◌, Bool, true, List, [], ◌∷◌, map, length, Result, Ok, Err, ◌==◌, nat_eq, nat_lt, slice_index, slice_set}
use Rattle.std.specs.Bool.{if◌then◌else◌}
use Rattle.little.specs.Little.{byte}
use Rattle.address.specs.Address.{cleared}
use Rattle.flags.specs.declared.Flags.{Flags}
use Rattle.refusal.specs.declared.Refusal.{Refusal}
use Rattle.refusal.specs.declared.Refusal.TheVariants.{Unsteady}
use Rattle.waiting.specs.declared.Waiting.{Waiting}
use Rattle.fields.specs.Fields.{well_formed}
use Rattle.kinds.specs.Kinds.{listing_length, record_of}
use Rattle.setup.specs.declared.Setup.{Setup}
use Rattle.machine.specs.declared.Machine.{Machine}
use Rattle.machine.specs.Machine.{Stepped}
use Rattle.machine.specs.Machine.{SP, PC, kept, Outcome, keeping}
use Rattle.machine.specs.Step.{effect}

-- ---- the parts
abbrev pub assembled : List ℕ → Flags → Waiting → Machine
assembled registers flags waiting = record { registers = registers; flags = flags; waiting = waiting }

-- a value put in a register, as `written` has it
abbrev pub put_in : List ℕ → ℕ → ℕ → List ℕ
put_in registers n value = slice_set registers n (kept n value)

abbrev pub operand_in : List ℕ → ℕ → ℕ
operand_in registers n = if n == PC then (slice_index registers PC + 4) % 2 ^ 32 else slice_index registers n

abbrev pub base_in : List ℕ → ℕ → ℕ
base_in registers n = if n == PC then cleared 1 ((slice_index registers PC + 4) % 2 ^ 32) else slice_index registers n

abbrev pub steady_in : List ℕ → Bool
steady_in registers = slice_index registers SP % 4 == 0

-- registers that were written, unless R13 came out as no multiple of 4
pub record Settled (before next after : List ℕ) (r : Result Unit Refusal) : Type 0 where
  pub told : r ≡ (if steady_in next then Ok tt else Err Unsteady)
  pub left : after ≡ (if steady_in next then next else before)

-- ---- what an arm leaves
-- its number and the parts, put together: w waits before the record, v after it
abbrev pub came : ℕ → List ℕ → Flags → Waiting → Waiting → Stepped
came number registers flags w v =
    record { number = number; machine = assembled registers flags (if nat_eq number 0 then v else w) }

-- it is what `does` says of the machine before and the machine at the next record, whatever waits
abbrev pub Goes : ℕ → List ℕ → Flags → List ℕ → Flags → ℕ → (Machine → Machine → Stepped) → Type 0
Goes number after flags before were ahead does =
    (w v : Waiting) → came number after flags w v ≡ does (assembled before were w) (assembled (put_in before PC ahead) were v)

-- whatever the flags are, which stay
abbrev pub GoesOn : ℕ → List ℕ → List ℕ → ℕ → (Machine → Machine → Stepped) → Type 0
GoesOn number after before ahead does = (f : Flags) → Goes number after f before f ahead does

-- with memory
abbrev pub Moves : ℕ → List ℕ → List ℕ → List ℕ → ℕ → (Machine → Machine → Outcome) → Type 0
Moves number after memory before ahead does =
    (f : Flags) (w v : Waiting)
    → keeping (came number after f w v) memory ≡ does (assembled before f w) (assembled (put_in before PC ahead) f v)

-- ---- the arm of a record
-- bytes that begin with a record of which number 2 is not given
pub record Formed (r : List ℕ) : Type 0 where
  pub whole : listing_length (byte r 0) ≤ length r
  pub formed : well_formed (record_of r) ≡ true

-- of this kind
pub record OfKind (kind : ℕ) (r : List ℕ) : Type 0 where
  pub is : byte r 0 ≡ kind
  pub sound : Formed r

-- what the record does
abbrev pub Obeys : ℕ → List ℕ → Flags → List ℕ → List ℕ → Flags → ℕ → List ℕ → List ℕ → Setup → Type 0
Obeys number after flags memory before were ahead r bytes setup =
    (w v : Waiting)
    → keeping (came number after flags w v) memory
    ≡ effect (assembled before were w) (assembled (put_in before PC ahead) were v) (record_of r) bytes setup

-- of an arm that has registers alone; registers and flags; registers and memory
abbrev pub ObeysOn : ℕ → List ℕ → List ℕ → ℕ → List ℕ → Type 0
ObeysOn number after before ahead r =
    (f : Flags) (bytes : List ℕ) (setup : Setup) → Obeys number after f bytes before f ahead r bytes setup

abbrev pub ObeysMarking : ℕ → List ℕ → Flags → List ℕ → Flags → ℕ → List ℕ → Type 0
ObeysMarking number after flags before were ahead r =
    (bytes : List ℕ) (setup : Setup) → Obeys number after flags bytes before were ahead r bytes setup

abbrev pub ObeysMoving : ℕ → List ℕ → List ℕ → List ℕ → ℕ → List ℕ → List ℕ → Setup → Type 0
ObeysMoving number after memory before ahead r bytes setup =
    (f : Flags) → Obeys number after f memory before f ahead r bytes setup

-- ---- the bytes of a record, by value
-- the byte at a place below n; from n on there are zeros
abbrev pub byte_below : ℕ → List ℕ → ℕ → ℕ
byte_below n r at = if nat_lt at n then byte r at else 0

-- as many as its kind has, and zeros after them
abbrev pub first : ℕ → List ℕ → List ℕ
first n r = map (byte_below n r) (0 ∷ 1 ∷ 2 ∷ 3 ∷ 4 ∷ 5 ∷ 6 ∷ 7 ∷ 8 ∷ [])
