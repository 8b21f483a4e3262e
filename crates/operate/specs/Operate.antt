-- What the operations of kinds 01 to 0C make of their operands.
use Rattle.std.specs.Prelude.{ℕ, ◌+◌, ◌*◌, ◌%◌, ◌^◌, Bool, true, false}
use Rattle.word.specs.Word.{signed, wrapped}
use Rattle.sum.specs.declared.Sum.{Sum}
use Rattle.sum.specs.Sum.{add_with_carry, subtract_with_carry}
use Rattle.logic.specs.Logic.{AND, ORR, EOR, BIC, ORN, MVN}
use Rattle.shift.specs.declared.Shifted.{Shifted}
use Rattle.shift.specs.Shift.{LSL, LSR, ASR, ROR, RRX}
use Rattle.constant.specs.Constant.{constant_carry}
use Rattle.field.specs.Field.{UBFX, SBFX, BFI, BFC, SXTB, SXTH, UXTB, UXTH}
use Rattle.reverse.specs.Reverse.{CLZ, REV, REV16, REVSH, RBIT}
use Rattle.product.specs.declared.Long.{Long}
use Rattle.product.specs.Product.{MUL, MLA, MLS, UMULL, UMLAL, SMULL, SMLAL}
use Rattle.quotient.specs.Quotient.{UDIV, SDIV}
use Rattle.saturate.specs.declared.Saturated.{Saturated}
use Rattle.saturate.specs.Saturate.{SSAT, USAT}
use Rattle.record.specs.declared.op.DataOp.{DataOp}
use Rattle.record.specs.declared.op.DataOp.TheVariants.{Add, Adc, Sub, Sbc, Rsb, And, Orr, Eor, Bic, Orn, Mov, Mvn, Cmp, Cmn, Tst, Teq}
use Rattle.record.specs.declared.op.Shift.{Shift}
use Rattle.record.specs.declared.op.Shift.TheVariants.{Lsl, Lsr, Asr, Ror, Rrx}
use Rattle.record.specs.declared.op.AddOp.{AddOp}
use Rattle.record.specs.declared.op.AddOp.TheVariants.{Addw, Subw}
use Rattle.record.specs.declared.op.MoveOp.{MoveOp}
use Rattle.record.specs.declared.op.MoveOp.TheVariants.{Movw, Movt}
use Rattle.record.specs.declared.op.UnaryOp.{UnaryOp}
use Rattle.record.specs.declared.op.UnaryOp.TheVariants.{Clz, Rev, Rev16, Revsh, Rbit}
use Rattle.record.specs.declared.op.MultiplyOp.{MultiplyOp}
use Rattle.record.specs.declared.op.MultiplyOp.TheVariants.{Mul, Mla, Mls}
use Rattle.record.specs.declared.op.LongOp.{LongOp}
use Rattle.record.specs.declared.op.LongOp.TheVariants.{Umull, Umlal, Smull, Smlal}
use Rattle.record.specs.declared.op.DivideOp.{DivideOp}
use Rattle.record.specs.declared.op.DivideOp.TheVariants.{Sdiv, Udiv}
use Rattle.record.specs.declared.op.SaturateOp.{SaturateOp}
use Rattle.record.specs.declared.op.SaturateOp.TheVariants.{Ssat, Usat}
use Rattle.record.specs.declared.op.FieldOp.{FieldOp}
use Rattle.record.specs.declared.op.FieldOp.TheVariants.{Bfc, Bfi, Sbfx, Ubfx}
use Rattle.record.specs.declared.op.ExtendOp.{ExtendOp}
use Rattle.record.specs.declared.op.ExtendOp.TheVariants.{Sxtb, Sxth, Uxtb, Uxth}
use Rattle.operate.specs.declared.Saturation.{Saturation}

-- the shifter: a register shifted, and the carry that it gives
unfoldable pub shifter : Shift → ℕ → ℕ → Bool → Shifted
shifter Lsl x amount carry = LSL x amount carry
shifter Lsr x amount carry = LSR x amount carry
shifter Asr x amount carry = ASR x amount carry
shifter Ror x amount carry = ROR x amount carry
shifter Rrx x amount carry = RRX x carry

-- a constant, and the carry that it gives
unfoldable pub constant_operand : ℕ → Bool → Shifted
constant_operand x carry = record { value = x; carry = constant_carry x carry }

-- "Logic, moves and kind 03 set N, Z and C from the shifter, never V"
abbrev pub logical : ℕ → Shifted → Bool → Sum
logical value y overflow = record { value = value; carry = y.carry; overflow = overflow }

-- The result of an operation of kinds 01 and 02, with the carry and the overflow after it: x is Rn, y what the shifter or the
-- constant gives, carry and overflow are C and V before.
unfoldable pub operated : DataOp → ℕ → Shifted → Bool → Bool → Sum
operated Add x y carry overflow = add_with_carry x y.value false
operated Adc x y carry overflow = add_with_carry x y.value carry
operated Sub x y carry overflow = subtract_with_carry x y.value true
operated Sbc x y carry overflow = subtract_with_carry x y.value carry
operated Rsb x y carry overflow = subtract_with_carry y.value x true
operated And x y carry overflow = logical (AND x y.value) y overflow
operated Orr x y carry overflow = logical (ORR x y.value) y overflow
operated Eor x y carry overflow = logical (EOR x y.value) y overflow
operated Bic x y carry overflow = logical (BIC x y.value) y overflow
operated Orn x y carry overflow = logical (ORN x y.value) y overflow
operated Mov x y carry overflow = logical y.value y overflow
operated Mvn x y carry overflow = logical (MVN y.value) y overflow
operated Cmp x y carry overflow = subtract_with_carry x y.value true
operated Cmn x y carry overflow = add_with_carry x y.value false
operated Tst x y carry overflow = logical (AND x y.value) y overflow
operated Teq x y carry overflow = logical (EOR x y.value) y overflow

-- kind 04
unfoldable pub added : AddOp → ℕ → ℕ → ℕ
added Addw x number = (add_with_carry x number false).value
added Subw x number = (subtract_with_carry x number true).value

-- kind 05: MOVT keeps the lower half of Rd
unfoldable pub placed_number : MoveOp → ℕ → ℕ → ℕ
placed_number Movw d number = number
placed_number Movt d number = number * 2 ^ 16 + d % 2 ^ 16

-- kind 06
unfoldable pub unary_result : UnaryOp → ℕ → ℕ
unary_result Clz x = CLZ x
unary_result Rev x = REV x
unary_result Rev16 x = REV16 x
unary_result Revsh x = REVSH x
unary_result Rbit x = RBIT x

-- kind 07: a is Ra
unfoldable pub multiplied : MultiplyOp → ℕ → ℕ → ℕ → ℕ
multiplied Mul x y a = MUL x y
multiplied Mla x y a = MLA x y a
multiplied Mls x y a = MLS x y a

-- kind 08: `before` is RdLo and RdHi
unfoldable pub multiplied_long : LongOp → ℕ → ℕ → Long → Long
multiplied_long Umull x y before = UMULL x y
multiplied_long Umlal x y before = UMLAL x y before
multiplied_long Smull x y before = SMULL x y
multiplied_long Smlal x y before = SMLAL x y before

-- kind 09
unfoldable pub divided : DivideOp → ℕ → ℕ → ℕ
divided Sdiv x y = SDIV x y
divided Udiv x y = UDIV x y

-- a saturated integer as a word
unfoldable pub saturation : Saturated → Saturation
saturation s = record { value = wrapped 32 s.value; saturated = s.saturated }

-- kind 0A: x is what the shifter gives, "its LSL keeps 32 bits before saturating"
unfoldable pub saturated : SaturateOp → ℕ → ℕ → Saturation
saturated Ssat bits x = saturation (SSAT bits (signed x))
saturated Usat bits x = saturation (USAT bits (signed x))

-- kind 0B: d is Rd
unfoldable pub fielded : FieldOp → ℕ → ℕ → ℕ → ℕ → ℕ
fielded Bfc d x lsb width = BFC d lsb width
fielded Bfi d x lsb width = BFI d x lsb width
fielded Sbfx d x lsb width = SBFX x lsb width
fielded Ubfx d x lsb width = UBFX x lsb width

-- kind 0C
unfoldable pub extended : ExtendOp → ℕ → ℕ → ℕ
extended Sxtb x rotation = SXTB x rotation
extended Sxth x rotation = SXTH x rotation
extended Uxtb x rotation = UXTB x rotation
extended Uxth x rotation = UXTH x rotation
