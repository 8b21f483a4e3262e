-- What 01 says under "Records" of the fields of each kind; a record with another field is number 2.
use Rattle.std.specs.Prelude.{ℕ, ◌+◌, ◌-◌, ◌%◌, ◌^◌, Bool, true, false, not, ◌&&◌, ◌||◌, leb, ltb, eqb, ℤ, pos, neg_ℤ}
use Rattle.std.specs.Int.Signed.{le_z}
use Rattle.std.specs.Bool.{if◌then◌else◌}
use Rattle.word.specs.Word.{wrapped}
use Rattle.constant.specs.Constant.{constant}
use Rattle.record.specs.Op.{data_code}
use Rattle.record.specs.declared.op.DataOp.{DataOp}
use Rattle.record.specs.declared.op.Shift.{Shift}
use Rattle.record.specs.declared.op.Shift.TheVariants.{Lsl, Lsr, Asr, Ror, Rrx}
use Rattle.record.specs.declared.op.MultiplyOp.{MultiplyOp}
use Rattle.record.specs.declared.op.MultiplyOp.TheVariants.{Mul, Mla, Mls}
use Rattle.record.specs.declared.op.SaturateOp.{SaturateOp}
use Rattle.record.specs.declared.op.SaturateOp.TheVariants.{Ssat, Usat}
use Rattle.record.specs.declared.op.FieldOp.{FieldOp}
use Rattle.record.specs.declared.op.FieldOp.TheVariants.{Bfc, Bfi, Sbfx, Ubfx}
use Rattle.record.specs.declared.op.BranchOp.{BranchOp}
use Rattle.record.specs.declared.op.BranchOp.TheVariants.{B, Bl}
use Rattle.record.specs.declared.op.Mode.{Mode}
use Rattle.record.specs.declared.op.Mode.TheVariants.{Offset, PreIndexed, PostIndexed}
use Rattle.record.specs.declared.Form.{Form}
use Rattle.record.specs.declared.ShiftedRegisterFields.{ShiftedRegisterFields}
use Rattle.record.specs.declared.ConstantFields.{ConstantFields}
use Rattle.record.specs.declared.RegisterShiftFields.{RegisterShiftFields}
use Rattle.record.specs.declared.MultiplyFields.{MultiplyFields}
use Rattle.record.specs.declared.SaturateFields.{SaturateFields}
use Rattle.record.specs.declared.BitFieldFields.{BitFieldFields}
use Rattle.record.specs.declared.ExtendFields.{ExtendFields}
use Rattle.record.specs.declared.AccessFields.{AccessFields}
use Rattle.record.specs.declared.DualAccessFields.{DualAccessFields}
use Rattle.record.specs.declared.BranchFields.{BranchFields}
use Rattle.record.specs.declared.CompareBranchFields.{CompareBranchFields}
use Rattle.record.specs.declared.IfThenFields.{IfThenFields}
use Rattle.record.specs.declared.Record.{Record}
use Rattle.record.specs.declared.Record.TheVariants.{ShiftedRegister, Constant, RegisterShift, AddNumber, MoveNumber, Unary, Multiply, LongMultiply, Divide, Saturate, BitField, Extend, Access, IndexedAccess, DualAccess, MultipleAccess, Branch, RegisterBranch, CompareBranch, IfThen, Nop, TableBranch, Filler}

-- "registers 0 to 15"
abbrev pub register : ℕ → Bool
register n = ltb n 16

-- is z from low to high?
abbrev pub within : ℤ → ℤ → ℤ → Bool
within low high z = le_z low z && le_z z high

-- "Rn is 0 for MOV, MVN; for the last four Rd is 0 and S is 1."
abbrev pub data_operands : DataOp → Form → ℕ → ℕ → Bool
data_operands op form rd rn =
    register rd && register rn && (not (eqb (data_code op) 10 || eqb (data_code op) 11) || eqb rn 0)
    && (not (leb 12 (data_code op)) || eqb rd 0 && form.s)

-- "0 LSL 0 to 31, 1 LSR 1 to 32, 2 ASR 1 to 32, 3 ROR 1 to 31, 4 RRX with n = 0"
abbrev pub shift_amount : Shift → ℕ → Bool
shift_amount Lsl n = leb n 31
shift_amount Lsr n = leb 1 n && leb n 32
shift_amount Asr n = leb 1 n && leb n 32
shift_amount Ror n = leb 1 n && leb n 31
shift_amount Rrx n = eqb n 0

-- "shift 0 to 3" of kind 03
abbrev pub turns : Shift → Bool
turns Lsl = true
turns Lsr = true
turns Asr = true
turns Ror = true
turns Rrx = false

-- "S may be 1 only in 01, 02, 03 and MUL"; "Ra (0 for MUL)"
abbrev pub multiply_accumulates : MultiplyOp → Bool → ℕ → Bool
multiply_accumulates Mul s ra = eqb ra 0
multiply_accumulates Mla s ra = not s
multiply_accumulates Mls s ra = not s

-- "SSAT n is 1 to 32, USAT 0 to 31"
abbrev pub saturated_bits : SaturateOp → ℕ → Bool
saturated_bits Ssat n = leb 1 n && leb n 32
saturated_bits Usat n = leb n 31

-- "kind 0A has only LSL 0 to 31 and ASR 1 to 31"
abbrev pub saturated_shift : Shift → ℕ → Bool
saturated_shift Lsl n = leb n 31
saturated_shift Lsr n = false
saturated_shift Asr n = leb 1 n && leb n 31
saturated_shift Ror n = false
saturated_shift Rrx n = false

-- "Rn (0 for BFC)"
abbrev pub field_source : FieldOp → ℕ → Bool
field_source Bfc rn = eqb rn 0
field_source Bfi rn = true
field_source Sbfx rn = true
field_source Ubfx rn = true

-- "-255 to 4095 in mode 0 (-4095 to 4095 with Rn 15), else -255 to 255"
abbrev pub access_offset : Mode → ℕ → ℤ → Bool
access_offset Offset rn z = if eqb rn 15 then within (neg_ℤ (pos 4095)) (pos 4095) z else within (neg_ℤ (pos 255)) (pos 4095) z
access_offset PreIndexed rn z = within (neg_ℤ (pos 255)) (pos 255) z
access_offset PostIndexed rn z = within (neg_ℤ (pos 255)) (pos 255) z

-- "of 0F multiples of 4, -1020 to 1020"
abbrev pub dual_offset : ℤ → Bool
dual_offset z = within (neg_ℤ (pos 1020)) (pos 1020) z && eqb (wrapped 2 z) 0

-- "B with AL and BL -16777216 to 16777214, other B -1048576 to 1048574; BL has condition 14"; "BL is 4" machine bytes
abbrev pub branch_reach : BranchOp → Bool → ℕ → ℤ → Bool
branch_reach B wide condition z =
    leb condition 14
    && (if eqb condition 14 then within (neg_ℤ (pos 16777216)) (pos 16777214) z else within (neg_ℤ (pos 1048576)) (pos 1048574) z)
branch_reach Bl wide condition z = eqb condition 14 && wide && within (neg_ℤ (pos 16777216)) (pos 16777214) z

-- "IT else bits 0 to 2 are for the second to fourth record, 0 past the count"
abbrev pub elses_fit : ℕ → ℕ → Bool
elses_fit elses count = ltb elses (2 ^ (count - 1))

abbrev pub shifted_register_formed : ShiftedRegisterFields → Bool
shifted_register_formed d = data_operands d.op d.form d.rd d.rn && register d.rm && shift_amount d.shift d.amount

abbrev pub constant_formed : ConstantFields → Bool
constant_formed d = data_operands d.op d.form d.rd d.rn && constant d.constant

abbrev pub register_shift_formed : RegisterShiftFields → Bool
register_shift_formed d = register d.rd && register d.rn && register d.rs && turns d.shift

abbrev pub multiply_formed : MultiplyFields → Bool
multiply_formed d =
    register d.rd && register d.rn && register d.rm && register d.ra && multiply_accumulates d.op d.form.s d.ra

abbrev pub saturate_formed : SaturateFields → Bool
saturate_formed d =
    not d.form.s && register d.rd && register d.rm && saturated_bits d.op d.bits && saturated_shift d.shift d.amount

abbrev pub bit_field_formed : BitFieldFields → Bool
bit_field_formed d =
    not d.form.s && register d.rd && register d.rn && leb 1 d.width && leb (d.lsb + d.width) 32
    && field_source d.op d.rn

abbrev pub extend_formed : ExtendFields → Bool
extend_formed d =
    not d.form.s && register d.rd && register d.rm
    && (eqb d.rotation 0 || eqb d.rotation 8 || eqb d.rotation 16 || eqb d.rotation 24)

abbrev pub access_formed : AccessFields → Bool
access_formed d = not d.form.s && register d.rt && register d.rn && access_offset d.mode d.rn d.offset

abbrev pub dual_access_formed : DualAccessFields → Bool
dual_access_formed d = not d.form.s && register d.rt && register d.rt2 && register d.rn && dual_offset d.offset

abbrev pub branch_formed : BranchFields → Bool
branch_formed d = not d.form.s && eqb (wrapped 1 d.offset) 0 && branch_reach d.op d.form.wide d.condition d.offset

abbrev pub compare_branch_formed : CompareBranchFields → Bool
compare_branch_formed d =
    not d.form.s && not d.form.wide && leb d.rn 7 && leb d.offset 126 && eqb (d.offset % 2) 0

abbrev pub if_then_formed : IfThenFields → Bool
if_then_formed d =
    not d.form.s && not d.form.wide && leb d.condition 14 && leb 1 d.count && leb d.count 4
    && elses_fit d.elses d.count

-- order 1: "a filler of 2 to 65,534 machine bytes, even"
abbrev pub filler_formed : ℕ → Bool
filler_formed number = leb 2 number && leb number 65534 && eqb (number % 2) 0

-- "field not as above": number 2 is given for any other; order 1: kind 16 has "4 machine bytes"
unfoldable pub well_formed : Record → Bool
well_formed (ShiftedRegister d) = shifted_register_formed d
well_formed (Constant d) = constant_formed d
well_formed (RegisterShift d) = register_shift_formed d
well_formed (AddNumber d) = not d.form.s && register d.rd && register d.rn && leb d.number 4095
well_formed (MoveNumber d) = not d.form.s && register d.rd
well_formed (Unary d) = not d.form.s && register d.rd && register d.rm
well_formed (Multiply d) = multiply_formed d
well_formed (LongMultiply d) =
    not d.form.s && register d.low && register d.high && register d.rn && register d.rm
well_formed (Divide d) = not d.form.s && register d.rd && register d.rn && register d.rm
well_formed (Saturate d) = saturate_formed d
well_formed (BitField d) = bit_field_formed d
well_formed (Extend d) = extend_formed d
well_formed (Access d) = access_formed d
well_formed (IndexedAccess d) =
    not d.form.s && register d.rt && register d.rn && register d.rm && leb d.amount 3
well_formed (DualAccess d) = dual_access_formed d
well_formed (MultipleAccess d) = not d.form.s && register d.rn
well_formed (Branch d) = branch_formed d
well_formed (RegisterBranch d) = not d.form.s && not d.form.wide && register d.rm
well_formed (CompareBranch d) = compare_branch_formed d
well_formed (IfThen d) = if_then_formed d
well_formed (Nop form) = not form.s
well_formed (TableBranch d) = not d.form.s && d.form.wide && register d.rn && register d.rm
well_formed (Filler number) = filler_formed number
