-- What a record does to the way through a listing: its length, where it goes, the spots that it may not take, the block that it opens.
use Rattle.std.specs.Prelude.{ℕ, Option, Some, None, ◌+◌, ◌%◌, ◌^◌, Bool, true, false, not, ◌&&◌, ◌||◌, pos, ◌==◌, nat_le}
use Rattle.std.specs.Bool.{if◌then◌else◌}
use Rattle.address.specs.Address.{moved}
use Rattle.register_list.specs.List.{member}
use Rattle.record.specs.Op.{data_code, is_bl, is_blx, is_ldr, is_mul, loads_many}
use Rattle.record.specs.declared.Form.{Form}
use Rattle.record.specs.declared.op.DataOp.{DataOp}
use Rattle.record.specs.declared.Record.{Record}
use Rattle.record.specs.declared.Record.TheVariants.{ShiftedRegister, Constant, RegisterShift, AddNumber, MoveNumber, Unary, Multiply, LongMultiply, Divide, Saturate, BitField, Extend, Access, IndexedAccess, DualAccess, MultipleAccess, Branch, RegisterBranch, CompareBranch, IfThen, Nop, TableBranch, Filler}
use Rattle.waiting.specs.declared.Waiting.{Waiting}
use Rattle.waiting.specs.Waiting.{block, dropped}
use Rattle.flow.specs.declared.Traits.{Traits}
use Rattle.flow.specs.declared.Way.{Way}
use Rattle.flow.specs.declared.Way.TheVariants.{Next, Direct, Taken, Fills}
use Rattle.flow.specs.declared.Block.{Block}

-- "bit 1 set for 4 machine bytes, clear for 2"
abbrev pub form_length : Form → ℕ
form_length form = if form.wide then 4 else 2

-- "MOV or ADD with Rd 15"
abbrev pub to_pc : DataOp → ℕ → Bool
to_pc op rd = rd == 15 && (data_code op == 0 || data_code op == 10)

-- to an address of a register or of memory where the test holds, else on to the next record
abbrev pub taken_if : Bool → Way
taken_if test = if test then Taken else Next

-- a record that may stand anywhere in a block, or last in it if it leaves, with no condition of its own (as if it were AL)
abbrev pub going : Form → Way → Traits
going form way =
    record { length = form_length form; way = way; alone = false; own = 14; opens = None; parts = false }

-- one that only goes on to the next
abbrev pub passing : Form → Traits
passing form = going form Next

-- one that stands alone if the test holds: "only with no conditions waiting"
abbrev pub lone : Bool → Form → Way → Traits
lone test form way =
    record { length = form_length form; way = way; alone = test; own = 14; opens = None; parts = false }

-- one that goes where a register or memory says, and after which a filler may stand if the test holds
abbrev pub parting : Bool → Form → Traits
parting test form =
    record { length = form_length form; way = Taken; alone = false; own = 14; opens = None; parts = test }

-- The traits of each kind. Where it goes: on to the next; directly, by an offset ("B, BL, CBZ and CBNZ are direct"); or where a register or
-- memory says ("BX, BLX, MOV or ADD with Rd 15, LDR with Rt 15, or a load of kind 10 with 15 in its list"). What stands alone: "IT, CBZ, CBNZ,
-- MULS, and B with its own condition (not AL)". Its own condition: "kind 11 outside a block uses its own". The block: "IT sets the list".
-- Order 1: kind 16 "counts as taking its address from memory"; a filler "may stand only after an unconditional B .., after BX .., after kind 16
-- .., after another filler", each outside a block; a filler's length is its number.
unfoldable pub traits : Record → Traits
traits (ShiftedRegister d) = going d.form (taken_if (to_pc d.op d.rd))
traits (Constant d) = going d.form (taken_if (to_pc d.op d.rd))
traits (RegisterShift d) = passing d.form
traits (AddNumber d) = passing d.form
traits (MoveNumber d) = passing d.form
traits (Unary d) = passing d.form
traits (Multiply d) = lone (is_mul d.op && d.form.s) d.form Next
traits (LongMultiply d) = passing d.form
traits (Divide d) = passing d.form
traits (Saturate d) = passing d.form
traits (BitField d) = passing d.form
traits (Extend d) = passing d.form
traits (Access d) = going d.form (taken_if (is_ldr d.op && d.rt == 15))
traits (IndexedAccess d) = going d.form (taken_if (is_ldr d.op && d.rt == 15))
traits (DualAccess d) = passing d.form
traits (MultipleAccess d) = going d.form (taken_if (loads_many d.op && member d.list 15))
traits (Branch d) = record {
  length = form_length d.form;
  way = Direct d.offset;
  alone = not (is_bl d.op) && not (d.condition == 14);
  own = d.condition;
  opens = None;
  parts = not (is_bl d.op) && (d.condition == 14);
}
traits (RegisterBranch d) = parting (not (is_blx d.op)) d.form
traits (CompareBranch d) = lone true d.form (Direct (pos d.offset))
traits (IfThen d) = record {
  length = form_length d.form;
  way = Next;
  alone = true;
  own = 14;
  opens = Some (record { condition = d.condition; count = d.count; elses = d.elses });
  parts = false;
}
traits (Nop form) = passing form
traits (TableBranch d) = parting true d.form
traits (Filler number) = record { length = number; way = Fills; alone = false; own = 14; opens = None; parts = true }

unfoldable pub machine_length : Record → ℕ
machine_length r = (traits r).length

unfoldable pub way : Record → Way
way r = (traits r).way

-- "A direct branch goes to its own address plus 4 plus the offset."
unfoldable pub target : ℕ → Way → ℕ
target address Next = 0
target address (Direct offset) = moved ((address + 4) % 2 ^ 32) offset
target address Taken = 0
target address Fills = 0

-- "Any record that branches, or has R15 as Rd, Rt or in a load's list": any other with R15 as Rd or Rt is restricted
unfoldable pub leaves : Way → Bool
leaves Next = false
leaves (Direct offset) = true
leaves Taken = true
leaves Fills = false

-- is it a filler?
unfoldable pub fills : Way → Bool
fills Next = false
fills (Direct offset) = false
fills Taken = false
fills Fills = true

-- "only with no conditions waiting"; "only with at most one waiting"
unfoldable pub misplaced : Record → ℕ → Bool
misplaced r waiting = (traits r).alone && nat_le 1 waiting || leaves (way r) && nat_le 2 waiting

-- the conditions that wait after a record: of the block that it opens, or with the first used up
unfoldable pub opened : Option Block → Waiting → Waiting
opened None w = dropped w
opened (Some b) w = block b.condition b.count b.elses

unfoldable pub after : Record → Waiting → Waiting
after r = opened (traits r).opens

-- "kind 11 outside a block uses its own"
unfoldable pub own_condition : Record → ℕ
own_condition r = (traits r).own
