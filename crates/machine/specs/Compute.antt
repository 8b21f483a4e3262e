-- What the records of kinds 01 to 0C do: m is the machine before, from which all is read, next the machine at the next record. 7 is for a
-- value for R13 that is no multiple of 4.
use Rattle.std.specs.Prelude.{ℕ, ◌%◌, ◌^◌, Bool, nat_lt}
use Rattle.std.specs.Bool.{if◌then◌else◌}
use Rattle.sum.specs.declared.Sum.{Sum}
use Rattle.shift.specs.declared.Shifted.{Shifted}
use Rattle.product.specs.declared.Long.{Long}
use Rattle.flags.specs.Flags.{signs, all_four, saturating}
use Rattle.record.specs.Op.{data_code}
use Rattle.record.specs.declared.op.DataOp.{DataOp}
use Rattle.record.specs.declared.op.DataOp.TheVariants.{Mov}
use Rattle.record.specs.declared.ShiftedRegisterFields.{ShiftedRegisterFields}
use Rattle.record.specs.declared.ConstantFields.{ConstantFields}
use Rattle.record.specs.declared.RegisterShiftFields.{RegisterShiftFields}
use Rattle.record.specs.declared.AddNumberFields.{AddNumberFields}
use Rattle.record.specs.declared.MoveNumberFields.{MoveNumberFields}
use Rattle.record.specs.declared.UnaryFields.{UnaryFields}
use Rattle.record.specs.declared.MultiplyFields.{MultiplyFields}
use Rattle.record.specs.declared.LongMultiplyFields.{LongMultiplyFields}
use Rattle.record.specs.declared.DivideFields.{DivideFields}
use Rattle.record.specs.declared.SaturateFields.{SaturateFields}
use Rattle.record.specs.declared.BitFieldFields.{BitFieldFields}
use Rattle.record.specs.declared.ExtendFields.{ExtendFields}
use Rattle.operate.specs.Operate.{shifter, constant_operand, operated, added, placed_number, unary_result, multiplied, multiplied_long, divided, saturated, fielded, extended}
use Rattle.setup.specs.declared.Setup.{Setup}
use Rattle.machine.specs.declared.Machine.{Machine}
use Rattle.machine.specs.Machine.{Stepped, operand_value, base_value, written, with_flags, settled}

-- "N, Z, C, V change only with S."
unfoldable pub flagged : Machine → Bool → Sum → Machine
flagged next s result = if s then with_flags next (all_four result next.flags) else next

-- CMP, CMN, TST and TEQ put nothing in a register
unfoldable pub resulting : Machine → DataOp → ℕ → Sum → Machine
resulting next op rd result = if nat_lt (data_code op) 12 then written next rd result.value else next

-- kinds 01 and 02, of Rn and what the shifter or the constant gives
unfoldable pub data_done : Machine → Machine → DataOp → Bool → ℕ → ℕ → Shifted → Machine
data_done m next op s rd x y =
    let result = operated op x y m.flags.c m.flags.v in flagged (resulting next op rd result) s result

-- 01
unfoldable pub shifted_register_effect : Machine → Machine → ShiftedRegisterFields → Setup → Stepped
shifted_register_effect m next d setup =
    let y = shifter d.shift (operand_value m d.rm) d.amount m.flags.c in
    settled m (data_done m next d.op d.form.s d.rd (operand_value m d.rn) y)

-- 02
unfoldable pub constant_effect : Machine → Machine → ConstantFields → Setup → Stepped
constant_effect m next d setup =
    let y = constant_operand d.constant m.flags.c in
    settled m (data_done m next d.op d.form.s d.rd (operand_value m d.rn) y)

-- order 2 of paper 02: "in kind 03 the amount is 0 to 255, the lowest eight bits" of Rs
unfoldable pub register_amount : ℕ → ℕ
register_amount rs = rs % 2 ^ 8

-- 03, a move of what the shifter gives
unfoldable pub register_shift_effect : Machine → Machine → RegisterShiftFields → Setup → Stepped
register_shift_effect m next d setup =
    let amount = register_amount (operand_value m d.rs) in
    let y = shifter d.shift (operand_value m d.rn) amount m.flags.c in
    settled m (data_done m next Mov d.form.s d.rd 0 y)

-- 04
unfoldable pub add_number_effect : Machine → Machine → AddNumberFields → Setup → Stepped
add_number_effect m next d setup = settled m (written next d.rd (added d.op (base_value m d.rn) d.number))

-- 05
unfoldable pub move_number_effect : Machine → Machine → MoveNumberFields → Setup → Stepped
move_number_effect m next d setup =
    settled m (written next d.rd (placed_number d.op (operand_value m d.rd) d.number))

-- 06
unfoldable pub unary_effect : Machine → Machine → UnaryFields → Setup → Stepped
unary_effect m next d setup = settled m (written next d.rd (unary_result d.op (operand_value m d.rm)))

-- 07: "MULS sets N, Z."
unfoldable pub multiply_effect : Machine → Machine → MultiplyFields → Setup → Stepped
multiply_effect m next d setup =
    let value = multiplied d.op (operand_value m d.rn) (operand_value m d.rm) (operand_value m d.ra) in
    let after = written next d.rd value in
    settled m (if d.form.s then with_flags after (signs value after.flags) else after)

-- 08
unfoldable pub long_multiply_effect : Machine → Machine → LongMultiplyFields → Setup → Stepped
long_multiply_effect m next d setup =
    let before : Long = record { low = operand_value m d.low; high = operand_value m d.high } in
    let result = multiplied_long d.op (operand_value m d.rn) (operand_value m d.rm) before in
    settled m (written (written next d.low result.low) d.high result.high)

-- 09
unfoldable pub divide_effect : Machine → Machine → DivideFields → Setup → Stepped
divide_effect m next d setup =
    settled m (written next d.rd (divided d.op (operand_value m d.rn) (operand_value m d.rm)))

-- 0A
unfoldable pub saturate_effect : Machine → Machine → SaturateFields → Setup → Stepped
saturate_effect m next d setup =
    let x = shifter d.shift (operand_value m d.rm) d.amount m.flags.c in
    let result = saturated d.op d.bits x.value in
    let after = written next d.rd result.value in
    settled m (with_flags after (saturating result.saturated after.flags))

-- 0B
unfoldable pub bit_field_effect : Machine → Machine → BitFieldFields → Setup → Stepped
bit_field_effect m next d setup =
    let value = fielded d.op (operand_value m d.rd) (operand_value m d.rn) d.lsb d.width in
    settled m (written next d.rd value)

-- 0C
unfoldable pub extend_effect : Machine → Machine → ExtendFields → Setup → Stepped
extend_effect m next d setup =
    settled m (written next d.rd (extended d.op (operand_value m d.rm) d.rotation))
