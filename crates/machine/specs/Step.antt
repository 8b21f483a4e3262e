-- "A step takes the machine and a record and hands back the next machine." "The lowest number that applies to a step is given."
-- "A refused step writes nothing."
use Rattle.std.specs.Prelude.{ℕ, ◌&&◌, List, Option, Some, None, ◌==◌}
use Rattle.std.specs.Bool.{if◌then◌else◌}
use Rattle.waiting.specs.Waiting.{waiting_count}
use Rattle.setup.specs.declared.Setup.{Setup}
use Rattle.setup.specs.Setup.{fits}
use Rattle.record.specs.declared.Record.{Record}
use Rattle.record.specs.declared.Record.TheVariants.{ShiftedRegister, Constant, RegisterShift, AddNumber, MoveNumber, Unary, Multiply, LongMultiply, Divide, Saturate, BitField, Extend, Access, IndexedAccess, DualAccess, MultipleAccess, Branch, RegisterBranch, CompareBranch, IfThen, Nop, TableBranch, Filler}
use Rattle.reading.specs.Reading.{read_one}
use Rattle.judge.specs.Judge.{refusal}
use Rattle.machine.specs.declared.Machine.{Machine}
use Rattle.machine.specs.Machine.{good, condition_passes, skipped, onward, refused, done, Outcome, keeping}
use Rattle.machine.specs.Compute.{shifted_register_effect, constant_effect, register_shift_effect, add_number_effect, move_number_effect, unary_effect, multiply_effect, long_multiply_effect, divide_effect, saturate_effect, bit_field_effect, extend_effect}
use Rattle.machine.specs.Access.{access_effect, indexed_access_effect, dual_access_effect, multiple_access_effect}
use Rattle.machine.specs.Branch.{branch_effect, register_branch_effect, compare_branch_effect, table_branch_effect}

-- what a record does whose condition passes: m is the machine before, next the machine at the next record
unfoldable pub effect : Machine → Machine → Record → List ℕ → Setup → Outcome
effect m next (ShiftedRegister d) bytes setup = keeping (shifted_register_effect m next d setup) bytes
effect m next (Constant d) bytes setup = keeping (constant_effect m next d setup) bytes
effect m next (RegisterShift d) bytes setup = keeping (register_shift_effect m next d setup) bytes
effect m next (AddNumber d) bytes setup = keeping (add_number_effect m next d setup) bytes
effect m next (MoveNumber d) bytes setup = keeping (move_number_effect m next d setup) bytes
effect m next (Unary d) bytes setup = keeping (unary_effect m next d setup) bytes
effect m next (Multiply d) bytes setup = keeping (multiply_effect m next d setup) bytes
effect m next (LongMultiply d) bytes setup = keeping (long_multiply_effect m next d setup) bytes
effect m next (Divide d) bytes setup = keeping (divide_effect m next d setup) bytes
effect m next (Saturate d) bytes setup = keeping (saturate_effect m next d setup) bytes
effect m next (BitField d) bytes setup = keeping (bit_field_effect m next d setup) bytes
effect m next (Extend d) bytes setup = keeping (extend_effect m next d setup) bytes
effect m next (Access d) bytes setup = access_effect m next d bytes setup
effect m next (IndexedAccess d) bytes setup = indexed_access_effect m next d bytes setup
effect m next (DualAccess d) bytes setup = dual_access_effect m next d bytes setup
effect m next (MultipleAccess d) bytes setup = multiple_access_effect m next d bytes setup
effect m next (Branch d) bytes setup = keeping (branch_effect m next d setup) bytes
effect m next (RegisterBranch d) bytes setup = keeping (register_branch_effect m next d setup) bytes
effect m next (CompareBranch d) bytes setup = keeping (compare_branch_effect m next d setup) bytes
effect m next (IfThen d) bytes setup = keeping (done next) bytes
effect m next (Nop form) bytes setup = keeping (done next) bytes
effect m next (TableBranch d) bytes setup = keeping (table_branch_effect m next d bytes setup) bytes
effect m next (Filler number) bytes setup = keeping (done next) bytes  -- never asked: "stepping a filler alone is 3"

-- the step of a record that 1 to 4 don't apply to; "5 to 7 only when it passes"
unfoldable pub obeyed : Machine → Record → List ℕ → Setup → Outcome
obeyed m r bytes setup =
    if condition_passes m r then effect m (onward m r) r bytes setup else keeping (done (skipped m r)) bytes

-- 2, then 3 and 4
unfoldable pub considered : Machine → Option Record → List ℕ → Setup → Outcome
considered m None bytes setup = keeping (refused 2 m) bytes
considered m (Some r) bytes setup =
    let number = refusal r (waiting_count m.waiting) in
    if number == 0 then obeyed m r bytes setup else keeping (refused number m) bytes

-- 1 first: "machine not good; memory over its limit or past 2^32"
unfoldable pub stepped : Machine → List ℕ → List ℕ → Setup → Outcome
stepped m r bytes setup =
    if good m && fits setup bytes then considered m (read_one r) bytes setup else keeping (refused 1 m) bytes
