-- "Sixteen 32-bit registers are held by value as one array in the machine, beside flags N, Z, C, V, Q and a list of zero to four
-- waiting conditions. R15 is the address of the record to be stepped."
use Rattle.std.specs.Prelude.{ℕ, ◌+◌, ◌%◌, ◌^◌, Bool, ◌&&◌, List, Result, Ok, Err, replicate, ◌==◌, slice_index, slice_set}
use Rattle.std.specs.Bool.{if◌then◌else◌}
use Rattle.word.specs.Word.{bit}
use Rattle.address.specs.Address.{cleared}
use Rattle.flags.specs.declared.Flags.{Flags}
use Rattle.flags.specs.Flags.{clear, passes}
use Rattle.waiting.specs.declared.Waiting.{Waiting}
use Rattle.waiting.specs.Waiting.{none, nothing, good_waiting, dropped}
use Rattle.record.specs.declared.Record.{Record}
use Rattle.refusal.specs.declared.Refusal.{Refusal}
use Rattle.refusal.specs.Refusal.{number}
use Rattle.flow.specs.Flow.{machine_length, after, own_condition}
use Rattle.machine.specs.declared.Machine.{Machine}

abbrev pub SP : ℕ
SP = 13

abbrev pub LR : ℕ
LR = 14

abbrev pub PC : ℕ
PC = 15

-- "fresh is all zero with nothing waiting"
unfoldable pub fresh : Machine
fresh = record { registers = replicate 16 0; flags = clear; waiting = nothing }

-- what a register holds
unfoldable pub held : Machine → ℕ → ℕ
held m register = slice_index m.registers register

-- "R15 read as an operand is the address plus 4"
unfoldable pub operand_value : Machine → ℕ → ℕ
operand_value m register = if register == PC then (held m PC + 4) % 2 ^ 32 else held m register

-- "as base of a load or of kind 04 it is that with bit 1 cleared"
unfoldable pub base_value : Machine → ℕ → ℕ
base_value m register = if register == PC then cleared 1 (operand_value m PC) else held m register

-- "Every value put in R15 has bit 0 cleared"
unfoldable pub kept : ℕ → ℕ → ℕ
kept register value = if register == PC then cleared 0 value else value

-- the machine with a value put in a register
unfoldable pub written : Machine → ℕ → ℕ → Machine
written m register value = record {
  registers = slice_set m.registers register (kept register value);
  flags = m.flags;
  waiting = m.waiting;
}

unfoldable pub with_flags : Machine → Flags → Machine
with_flags m flags = record { registers = m.registers; flags = flags; waiting = m.waiting }

unfoldable pub with_waiting : Machine → Waiting → Machine
with_waiting m waiting = record { registers = m.registers; flags = m.flags; waiting = waiting }

-- "A machine is good when R15 is even, R13 is a multiple of 4, and each waiting condition is 0 to 14, each the same as the first or
-- its inverse"
unfoldable pub good : Machine → Bool
good m = held m PC % 2 == 0 && held m SP % 4 == 0 && good_waiting m.waiting

-- "If a condition is waiting, the first one rules; kind 11 outside a block uses its own."
unfoldable pub ruling : Waiting → ℕ → ℕ
ruling waiting own = if waiting.first == none then own else waiting.first

unfoldable pub condition_passes : Machine → Record → Bool
condition_passes m r = passes m.flags (ruling m.waiting (own_condition r))

-- at the next record
unfoldable pub advanced : Machine → ℕ → Machine
advanced m length = written m PC ((held m PC + length) % 2 ^ 32)

-- "A failed condition changes only R15 (next record). Either way the waiting condition is dropped"
unfoldable pub skipped : Machine → Record → Machine
skipped m r = with_waiting (advanced m (machine_length r)) (dropped m.waiting)

-- at the next record, "IT sets the list"
unfoldable pub onward : Machine → Record → Machine
onward m r = with_waiting (advanced m (machine_length r)) (after r m.waiting)

-- a step's number, and the machine after it
pub record Stepped : Type 0 where
  pub number : ℕ
  pub machine : Machine

-- a refused step hands back the machine as given
unfoldable pub refused : ℕ → Machine → Stepped
refused number m = record { number = number; machine = m }

unfoldable pub done : Machine → Stepped
done m = record { number = 0; machine = m }

-- is R13 a multiple of 4? The machine before was good, so if not, the step would have put that value there.
unfoldable pub steady : Machine → Bool
steady next = held next SP % 4 == 0

-- 7: "value for R13 is not a multiple of 4"
unfoldable pub settled : Machine → Machine → Stepped
settled m next = if steady next then done next else refused 7 m

-- 7: "value for R15 has bit 0 clear"
unfoldable pub landed : Machine → Machine → ℕ → Stepped
landed m next value = if bit 0 value then settled m next else refused 7 m

-- what the code answers for a machine, the next one or why there is none
abbrev pub answered : Machine → Result Machine Refusal → Stepped
answered m (Ok next) = done next
answered m (Err refusal) = refused (number refusal) m

-- the outcome of a step: its answer, and memory after it
pub record Outcome : Type 0 where
  pub answer : Stepped
  pub memory : List ℕ

-- an answer that leaves memory as it was
abbrev pub keeping : Stepped → List ℕ → Outcome
keeping answer bytes = record { answer = answer; memory = bytes }
