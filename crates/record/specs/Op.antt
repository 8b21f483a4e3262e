-- "Names in a row are ops 0, 1, 2 and on." A number past a row stands for none: the reading refuses it, and the last name is given here.
use Rattle.std.specs.Prelude.{ℕ, Bool, true, false, [], ◌∷◌, get_or}
use Rattle.record.specs.declared.op.DataOp.{DataOp}
use Rattle.record.specs.declared.op.DataOp.TheVariants.{Add, Adc, Sub, Sbc, Rsb, And, Orr, Eor, Bic, Orn, Mov, Mvn, Cmp, Cmn, Tst, Teq}
use Rattle.record.specs.declared.op.Shift.{Shift}
use Rattle.record.specs.declared.op.Shift.TheVariants.{Lsl, Lsr, Asr, Ror, Rrx}
use Rattle.record.specs.declared.op.AddOp.{AddOp}
use Rattle.record.specs.declared.op.AddOp.TheVariants.{Addw, Subw}
use Rattle.record.specs.declared.op.MoveOp.{MoveOp}
use Rattle.record.specs.declared.op.MoveOp.TheVariants.{Movw, Movt}
use Rattle.record.specs.declared.op.UnaryOp.{UnaryOp}
use Rattle.record.specs.declared.op.UnaryOp.TheVariants.{Clz, Rev, Rev16, Revsh, Rbit}
use Rattle.record.specs.declared.op.MultiplyOp.{MultiplyOp}
use Rattle.record.specs.declared.op.MultiplyOp.TheVariants.{Mul, Mla, Mls}
use Rattle.record.specs.declared.op.LongOp.{LongOp}
use Rattle.record.specs.declared.op.LongOp.TheVariants.{Umull, Umlal, Smull, Smlal}
use Rattle.record.specs.declared.op.DivideOp.{DivideOp}
use Rattle.record.specs.declared.op.DivideOp.TheVariants.{Sdiv, Udiv}
use Rattle.record.specs.declared.op.SaturateOp.{SaturateOp}
use Rattle.record.specs.declared.op.SaturateOp.TheVariants.{Ssat, Usat}
use Rattle.record.specs.declared.op.FieldOp.{FieldOp}
use Rattle.record.specs.declared.op.FieldOp.TheVariants.{Bfc, Bfi, Sbfx, Ubfx}
use Rattle.record.specs.declared.op.ExtendOp.{ExtendOp}
use Rattle.record.specs.declared.op.ExtendOp.TheVariants.{Sxtb, Sxth, Uxtb, Uxth}
use Rattle.record.specs.declared.op.AccessOp.{AccessOp}
use Rattle.record.specs.declared.op.AccessOp.TheVariants.{Ldr, Ldrb, Ldrh, Ldrsb, Ldrsh, Str, Strb, Strh}
use Rattle.record.specs.declared.op.DualOp.{DualOp}
use Rattle.record.specs.declared.op.DualOp.TheVariants.{Ldrd, Strd}
use Rattle.record.specs.declared.op.MultipleOp.{MultipleOp}
use Rattle.record.specs.declared.op.MultipleOp.TheVariants.{Ldmia, Ldmdb, Stmia, Stmdb}
use Rattle.record.specs.declared.op.BranchOp.{BranchOp}
use Rattle.record.specs.declared.op.BranchOp.TheVariants.{B, Bl}
use Rattle.record.specs.declared.op.RegisterOp.{RegisterOp}
use Rattle.record.specs.declared.op.RegisterOp.TheVariants.{Bx, Blx}
use Rattle.record.specs.declared.op.CompareOp.{CompareOp}
use Rattle.record.specs.declared.op.CompareOp.TheVariants.{Cbz, Cbnz}
use Rattle.record.specs.declared.op.TableOp.{TableOp}
use Rattle.record.specs.declared.op.TableOp.TheVariants.{Tbb, Tbh}
use Rattle.record.specs.declared.op.Mode.{Mode}
use Rattle.record.specs.declared.op.Mode.TheVariants.{Offset, PreIndexed, PostIndexed}

abbrev pub data_op : ℕ → DataOp
data_op code = get_or (Add ∷ Adc ∷ Sub ∷ Sbc ∷ Rsb ∷ And ∷ Orr ∷ Eor ∷ Bic ∷ Orn ∷ Mov ∷ Mvn ∷ Cmp ∷ Cmn ∷ Tst ∷ []) code Teq

abbrev pub shift : ℕ → Shift
shift code = get_or (Lsl ∷ Lsr ∷ Asr ∷ Ror ∷ []) code Rrx

abbrev pub add_op : ℕ → AddOp
add_op code = get_or (Addw ∷ []) code Subw

abbrev pub move_op : ℕ → MoveOp
move_op code = get_or (Movw ∷ []) code Movt

abbrev pub unary_op : ℕ → UnaryOp
unary_op code = get_or (Clz ∷ Rev ∷ Rev16 ∷ Revsh ∷ []) code Rbit

abbrev pub multiply_op : ℕ → MultiplyOp
multiply_op code = get_or (Mul ∷ Mla ∷ []) code Mls

abbrev pub long_op : ℕ → LongOp
long_op code = get_or (Umull ∷ Umlal ∷ Smull ∷ []) code Smlal

abbrev pub divide_op : ℕ → DivideOp
divide_op code = get_or (Sdiv ∷ []) code Udiv

abbrev pub saturate_op : ℕ → SaturateOp
saturate_op code = get_or (Ssat ∷ []) code Usat

abbrev pub field_op : ℕ → FieldOp
field_op code = get_or (Bfc ∷ Bfi ∷ Sbfx ∷ []) code Ubfx

abbrev pub extend_op : ℕ → ExtendOp
extend_op code = get_or (Sxtb ∷ Sxth ∷ Uxtb ∷ []) code Uxth

abbrev pub access_op : ℕ → AccessOp
access_op code = get_or (Ldr ∷ Ldrb ∷ Ldrh ∷ Ldrsb ∷ Ldrsh ∷ Str ∷ Strb ∷ []) code Strh

abbrev pub dual_op : ℕ → DualOp
dual_op code = get_or (Ldrd ∷ []) code Strd

abbrev pub multiple_op : ℕ → MultipleOp
multiple_op code = get_or (Ldmia ∷ Ldmdb ∷ Stmia ∷ []) code Stmdb

abbrev pub branch_op : ℕ → BranchOp
branch_op code = get_or (B ∷ []) code Bl

abbrev pub register_op : ℕ → RegisterOp
register_op code = get_or (Bx ∷ []) code Blx

abbrev pub compare_op : ℕ → CompareOp
compare_op code = get_or (Cbz ∷ []) code Cbnz

abbrev pub table_op : ℕ → TableOp
table_op code = get_or (Tbb ∷ []) code Tbh

abbrev pub mode : ℕ → Mode
mode code = get_or (Offset ∷ PreIndexed ∷ []) code PostIndexed

-- the number of an operation of kinds 01 and 02
abbrev pub data_code : DataOp → ℕ
data_code Add = 0
data_code Adc = 1
data_code Sub = 2
data_code Sbc = 3
data_code Rsb = 4
data_code And = 5
data_code Orr = 6
data_code Eor = 7
data_code Bic = 8
data_code Orn = 9
data_code Mov = 10
data_code Mvn = 11
data_code Cmp = 12
data_code Cmn = 13
data_code Tst = 14
data_code Teq = 15

abbrev pub is_lsl : Shift → Bool
is_lsl Lsl = true
is_lsl Lsr = false
is_lsl Asr = false
is_lsl Ror = false
is_lsl Rrx = false

abbrev pub is_mul : MultiplyOp → Bool
is_mul Mul = true
is_mul Mla = false
is_mul Mls = false

abbrev pub loads : AccessOp → Bool
loads Ldr = true
loads Ldrb = true
loads Ldrh = true
loads Ldrsb = true
loads Ldrsh = true
loads Str = false
loads Strb = false
loads Strh = false

abbrev pub loads_dual : DualOp → Bool
loads_dual Ldrd = true
loads_dual Strd = false

abbrev pub loads_many : MultipleOp → Bool
loads_many Ldmia = true
loads_many Ldmdb = true
loads_many Stmia = false
loads_many Stmdb = false

abbrev pub is_bl : BranchOp → Bool
is_bl B = false
is_bl Bl = true

abbrev pub is_blx : RegisterOp → Bool
is_blx Bx = false
is_blx Blx = true

abbrev pub is_offset : Mode → Bool
is_offset Offset = true
is_offset PreIndexed = false
is_offset PostIndexed = false

abbrev pub is_ldr : AccessOp → Bool
is_ldr Ldr = true
is_ldr Ldrb = false
is_ldr Ldrh = false
is_ldr Ldrsb = false
is_ldr Ldrsh = false
is_ldr Str = false
is_ldr Strb = false
is_ldr Strh = false
