-- "Restricted (3)." What is allowed of each kind; anything else is number 3.
use Rattle.std.specs.Prelude.{ℕ, Bool, true, false, not, ◌&&◌, ◌||◌, leb, eqb}
use Rattle.register_list.specs.List.{member}
use Rattle.record.specs.Op.{data_code, is_lsl, loads, loads_dual, loads_many, is_blx, is_offset}
use Rattle.record.specs.declared.op.DataOp.{DataOp}
use Rattle.record.specs.declared.op.AccessOp.{AccessOp}
use Rattle.record.specs.declared.op.AccessOp.TheVariants.{Ldr, Ldrb, Ldrh, Ldrsb, Ldrsh, Str, Strb, Strh}
use Rattle.record.specs.declared.ShiftedRegisterFields.{ShiftedRegisterFields}
use Rattle.record.specs.declared.ConstantFields.{ConstantFields}
use Rattle.record.specs.declared.AddNumberFields.{AddNumberFields}
use Rattle.record.specs.declared.MultiplyFields.{MultiplyFields}
use Rattle.record.specs.declared.LongMultiplyFields.{LongMultiplyFields}
use Rattle.record.specs.declared.AccessFields.{AccessFields}
use Rattle.record.specs.declared.IndexedAccessFields.{IndexedAccessFields}
use Rattle.record.specs.declared.DualAccessFields.{DualAccessFields}
use Rattle.record.specs.declared.MultipleAccessFields.{MultipleAccessFields}
use Rattle.record.specs.declared.Record.{Record}
use Rattle.record.specs.declared.Record.TheVariants.{ShiftedRegister, Constant, RegisterShift, AddNumber, MoveNumber, Unary, Multiply, LongMultiply, Divide, Saturate, BitField, Extend, Access, IndexedAccess, DualAccess, MultipleAccess, Branch, RegisterBranch, CompareBranch, IfThen, Nop, TableBranch, Filler}

-- a register that is not R13 or R15
abbrev pub plain : ℕ → Bool
plain n = not (eqb n 13 || eqb n 15)

-- "ADD, SUB"
abbrev pub adds : DataOp → Bool
adds op = eqb (data_code op) 0 || eqb (data_code op) 2

-- "CMP, CMN"
abbrev pub compares : DataOp → Bool
compares op = eqb (data_code op) 12 || eqb (data_code op) 13

-- "ADD, SUB with Rn 13; .. CMP, CMN with Rn 13"
abbrev pub first_operand : DataOp → ℕ → Bool
first_operand op rn = plain rn || eqb rn 13 && (adds op || compares op)

-- "with Rd 13 if Rn is 13 and any shift is LSL 0 to 3"
abbrev pub result_register : DataOp → ℕ → ℕ → Bool → Bool
result_register op rd rn small = plain rd || eqb rd 13 && adds op && eqb rn 13 && small

-- "MOV register without shift or S, any Rd and Rm; ADD R15, R15, Rm without shift or S, Rm not 13 or 15"
abbrev pub shifted_register_allowed : ShiftedRegisterFields → Bool
shifted_register_allowed d =
    let straight = is_lsl d.shift && eqb d.amount 0 && not d.form.s in
    eqb (data_code d.op) 10 && straight
    || eqb (data_code d.op) 0 && straight && eqb d.rd 15 && eqb d.rn 15 && plain d.rm
    || first_operand d.op d.rn && result_register d.op d.rd d.rn (is_lsl d.shift && leb d.amount 3) && plain d.rm

abbrev pub constant_allowed : ConstantFields → Bool
constant_allowed d = first_operand d.op d.rn && result_register d.op d.rd d.rn true

-- "kind 04 with Rn 13 (then Rd may be 13) or with Rn 15"
abbrev pub add_number_allowed : AddNumberFields → Bool
add_number_allowed d = plain d.rd || eqb d.rd 13 && eqb d.rn 13

-- "MULS wants R0 to R7 and Rd = Rm"
abbrev pub multiply_allowed : MultiplyFields → Bool
multiply_allowed d =
    plain d.rd && plain d.rn && plain d.rm && plain d.ra
    && (not d.form.s || leb d.rd 7 && leb d.rn 7 && leb d.rm 7 && eqb d.rd d.rm)

-- "Long multiplies want RdLo and RdHi different"
abbrev pub long_multiply_allowed : LongMultiplyFields → Bool
long_multiply_allowed d = plain d.low && plain d.high && plain d.rn && plain d.rm && not (eqb d.low d.high)

-- "Rt 13 or 15 only in LDR, Rt 13 in STR"
abbrev pub transferred : AccessOp → ℕ → Bool
transferred Ldr rt = true
transferred Ldrb rt = plain rt
transferred Ldrh rt = plain rt
transferred Ldrsb rt = plain rt
transferred Ldrsh rt = plain rt
transferred Str rt = not (eqb rt 15)
transferred Strb rt = plain rt
transferred Strh rt = plain rt

-- "Rn 15 only in loads 0D and 0F, mode 0. Rn is not Rt or Rt2 in modes 1, 2."
abbrev pub access_allowed : AccessFields → Bool
access_allowed d =
    transferred d.op d.rt && (not (eqb d.rn 15) || loads d.op && is_offset d.mode)
    && (is_offset d.mode || not (eqb d.rn d.rt))

-- "Rm of 0E is not 13 or 15"
abbrev pub indexed_access_allowed : IndexedAccessFields → Bool
indexed_access_allowed d = transferred d.op d.rt && not (eqb d.rn 15) && plain d.rm

-- "In 0F Rt, Rt2 are not 13 or 15, and LDRD wants them different"
abbrev pub dual_access_allowed : DualAccessFields → Bool
dual_access_allowed d =
    plain d.rt && plain d.rt2 && (not (loads_dual d.op) || not (eqb d.rt d.rt2))
    && (not (eqb d.rn 15) || loads_dual d.op && is_offset d.mode)
    && (is_offset d.mode || not (eqb d.rn d.rt) && not (eqb d.rn d.rt2))

-- "list not empty, without 13; stores without 15; loads without 14 and 15 together; no Rn in the list with write-back; Rn not 15"
abbrev pub multiple_access_allowed : MultipleAccessFields → Bool
multiple_access_allowed d =
    not (eqb d.list 0) && not (member d.list 13) && not (member d.list 15 && not (loads_many d.op))
    && not (member d.list 14 && member d.list 15) && not (d.writeback && member d.list d.rn) && not (eqb d.rn 15)

-- "R13 and R15 nowhere in 01 to 0C, except .."; "BLX not 15. IT with AL has no else."
-- Order 1: "Rn not 13, Rm not 13 or 15"; "stepping a filler alone is 3"
unfoldable pub allowed : Record → Bool
allowed (ShiftedRegister d) = shifted_register_allowed d
allowed (Constant d) = constant_allowed d
allowed (RegisterShift d) = plain d.rd && plain d.rn && plain d.rs
allowed (AddNumber d) = add_number_allowed d
allowed (MoveNumber d) = plain d.rd
allowed (Unary d) = plain d.rd && plain d.rm
allowed (Multiply d) = multiply_allowed d
allowed (LongMultiply d) = long_multiply_allowed d
allowed (Divide d) = plain d.rd && plain d.rn && plain d.rm
allowed (Saturate d) = plain d.rd && plain d.rm
allowed (BitField d) = plain d.rd && plain d.rn
allowed (Extend d) = plain d.rd && plain d.rm
allowed (Access d) = access_allowed d
allowed (IndexedAccess d) = indexed_access_allowed d
allowed (DualAccess d) = dual_access_allowed d
allowed (MultipleAccess d) = multiple_access_allowed d
allowed (Branch d) = true
allowed (RegisterBranch d) = not (is_blx d.op && eqb d.rm 15)
allowed (CompareBranch d) = true
allowed (IfThen d) = not (eqb d.condition 14) || eqb d.elses 0
allowed (Nop form) = true
allowed (TableBranch d) = not (eqb d.rn 13) && plain d.rm
allowed (Filler number) = false
