-- The fields of a record that the check has passed: the record is the one that they make, and its registers are 0 to 15.
use Prim.Native.Nat.{ℕ, ◌<◌, ◌+◌}
use mathlib.Core.Bool.{Bool, true, not, ◌&&◌, ◌||◌}
use mathlib.Core.List.{List}
use mathlib.Core.Path.{◌≡◌, sym, ◌∙◌}
use borrow.Author.Tests.{ltb-true}
use lib.Dec.{leb, eqb}
use Rattle.word.proofs.Cases.{both_true}
use Rattle.little.specs.Little.{little}
use Rattle.constant.specs.Constant.{constant}
use Rattle.record.specs.Op.{data_code}
use Rattle.record.specs.declared.Form.{Form}
use Rattle.record.specs.declared.op.DataOp.{DataOp}
use Rattle.record.specs.declared.ShiftedRegisterFields.{ShiftedRegisterFields}
use Rattle.record.specs.declared.ConstantFields.{ConstantFields}
use Rattle.record.specs.declared.RegisterShiftFields.{RegisterShiftFields}
use Rattle.record.specs.declared.AddNumberFields.{AddNumberFields}
use Rattle.record.specs.declared.MoveNumberFields.{MoveNumberFields}
use Rattle.record.specs.declared.UnaryFields.{UnaryFields}
use Rattle.record.specs.declared.MultiplyFields.{MultiplyFields}
use Rattle.record.specs.declared.LongMultiplyFields.{LongMultiplyFields}
use Rattle.record.specs.declared.DivideFields.{DivideFields}
use Rattle.record.specs.declared.SaturateFields.{SaturateFields}
use Rattle.record.specs.declared.BitFieldFields.{BitFieldFields}
use Rattle.record.specs.declared.ExtendFields.{ExtendFields}
use Rattle.record.specs.declared.Record.TheVariants.{ShiftedRegister, Constant, RegisterShift, AddNumber, MoveNumber, Unary, Multiply, LongMultiply, Divide, Saturate, BitField, Extend}
use Rattle.fields.specs.Fields.{register, data_operands, shift_amount, turns, multiply_accumulates, saturated_bits, saturated_shift, field_source, well_formed}
use Rattle.kinds.specs.Kinds.{record_of, shifted_register_from, constant_from, register_shift_from, add_number_from, move_number_from, unary_from, multiply_from, long_multiply_from, divide_from, saturate_from, bit_field_from, extend_from}
use Rattle.lent.specs.Lent.{OfKind, first}
use Rattle.lent.proofs.Laws.{read_as, formed_as}

-- ---- registers that are tested, after something else
one_after : (b : Bool) (n : ℕ) → (b && register n) ≡ true → n < 16
one_after b n h = ltb-true n 16 (both_true b (register n) h).1

two_after : (b : Bool) (m n : ℕ) → (b && register m && register n) ≡ true → (m < 16) × (n < 16)
two_after b m n h = let p = both_true (b && register m) (register n) h in (one_after b m p.0, ltb-true n 16 p.1)

three_after : (b : Bool) (l m n : ℕ) → (b && register l && register m && register n) ≡ true → (l < 16) × (m < 16) × (n < 16)
three_after b l m n h =
    let p = both_true (b && register l && register m) (register n) h in
    let q = two_after b l m p.0 in
    (q.0, q.1, ltb-true n 16 p.1)

four_after : (b : Bool) (k l m n : ℕ) → (b && register k && register l && register m && register n) ≡ true
    → (k < 16) × (l < 16) × (m < 16) × (n < 16)
four_after b k l m n h =
    let p = both_true (b && register k && register l && register m) (register n) h in
    let q = three_after b k l m p.0 in
    (q.0, q.1, q.2, ltb-true n 16 p.1)

-- Rd and Rn of kinds 01 and 02
data_below : (op : DataOp) (form : Form) (rd rn : ℕ) → data_operands op form rd rn ≡ true → (rd < 16) × (rn < 16)
data_below op form rd rn h =
    let named = not (eqb (data_code op) 10 || eqb (data_code op) 11) || eqb rn 0 in
    let compares = not (leb 12 (data_code op)) || eqb rd 0 && form.s in
    let p = both_true (register rd && register rn && named) compares h in
    two_after true rd rn (both_true (register rd && register rn) named p.0).0

-- ---- 01
module _ (r t : List ℕ) (k : OfKind 1 r) (d : ShiftedRegisterFields) (b : t ≡ first 8 r) (h : ShiftedRegister d ≡ shifted_register_from t) where
  pub shifted_register_is : record_of r ≡ ShiftedRegister d
  unfolding shifted_register_from
  shifted_register_is = read_as 1 r k ∙ sym (rw b at h)

  pub shifted_register_below : (d.rd < 16) × (d.rn < 16) × (d.rm < 16)
  unfolding well_formed
  shifted_register_below =
      let p = both_true (data_operands d.op d.form d.rd d.rn && register d.rm) (shift_amount d.shift d.amount) (formed_as 1 r k (ShiftedRegister d) shifted_register_is) in
      let q = both_true (data_operands d.op d.form d.rd d.rn) (register d.rm) p.0 in
      let s = data_below d.op d.form d.rd d.rn q.0 in
      (s.0, s.1, ltb-true d.rm 16 q.1)

-- ---- 02
module _ (r t : List ℕ) (k : OfKind 2 r) (d : ConstantFields) (b : t ≡ first 9 r) (h : Constant d ≡ constant_from t) where
  pub constant_is : record_of r ≡ Constant d
  unfolding constant_from little
  constant_is = read_as 2 r k ∙ sym (rw b at h)

  pub constant_below : (d.rd < 16) × (d.rn < 16)
  unfolding well_formed
  constant_below =
      data_below d.op d.form d.rd d.rn (both_true (data_operands d.op d.form d.rd d.rn) (constant d.constant) (formed_as 2 r k (Constant d) constant_is)).0

-- ---- 03
module _ (r t : List ℕ) (k : OfKind 3 r) (d : RegisterShiftFields) (b : t ≡ first 6 r) (h : RegisterShift d ≡ register_shift_from t) where
  pub register_shift_is : record_of r ≡ RegisterShift d
  unfolding register_shift_from
  register_shift_is = read_as 3 r k ∙ sym (rw b at h)

  pub register_shift_below : (d.rd < 16) × (d.rn < 16) × (d.rs < 16)
  unfolding well_formed
  register_shift_below =
      three_after true d.rd d.rn d.rs (both_true (register d.rd && register d.rn && register d.rs) (turns d.shift) (formed_as 3 r k (RegisterShift d) register_shift_is)).0

-- ---- 04
module _ (r t : List ℕ) (k : OfKind 4 r) (d : AddNumberFields) (b : t ≡ first 7 r) (h : AddNumber d ≡ add_number_from t) where
  pub add_number_is : record_of r ≡ AddNumber d
  unfolding add_number_from little
  add_number_is = read_as 4 r k ∙ sym (rw b at h)

  pub add_number_below : (d.rd < 16) × (d.rn < 16)
  unfolding well_formed
  add_number_below =
      let b = not d.form.s in
      two_after b d.rd d.rn (both_true (b && register d.rd && register d.rn) (leb d.number 4095) (formed_as 4 r k (AddNumber d) add_number_is)).0

-- ---- 05
module _ (r t : List ℕ) (k : OfKind 5 r) (d : MoveNumberFields) (b : t ≡ first 6 r) (h : MoveNumber d ≡ move_number_from t) where
  pub move_number_is : record_of r ≡ MoveNumber d
  unfolding move_number_from little
  move_number_is = read_as 5 r k ∙ sym (rw b at h)

  pub move_number_below : d.rd < 16
  unfolding well_formed
  move_number_below = one_after (not d.form.s) d.rd (formed_as 5 r k (MoveNumber d) move_number_is)

-- ---- 06
module _ (r t : List ℕ) (k : OfKind 6 r) (d : UnaryFields) (b : t ≡ first 5 r) (h : Unary d ≡ unary_from t) where
  pub unary_is : record_of r ≡ Unary d
  unfolding unary_from
  unary_is = read_as 6 r k ∙ sym (rw b at h)

  pub unary_below : (d.rd < 16) × (d.rm < 16)
  unfolding well_formed
  unary_below = two_after (not d.form.s) d.rd d.rm (formed_as 6 r k (Unary d) unary_is)

-- ---- 07
module _ (r t : List ℕ) (k : OfKind 7 r) (d : MultiplyFields) (b : t ≡ first 7 r) (h : Multiply d ≡ multiply_from t) where
  pub multiply_is : record_of r ≡ Multiply d
  unfolding multiply_from
  multiply_is = read_as 7 r k ∙ sym (rw b at h)

  pub multiply_below : (d.rd < 16) × (d.rn < 16) × (d.rm < 16) × (d.ra < 16)
  unfolding well_formed
  multiply_below =
      let all = register d.rd && register d.rn && register d.rm && register d.ra in
      four_after true d.rd d.rn d.rm d.ra (both_true all (multiply_accumulates d.op d.form.s d.ra) (formed_as 7 r k (Multiply d) multiply_is)).0

-- ---- 08
module _ (r t : List ℕ) (k : OfKind 8 r) (d : LongMultiplyFields) (b : t ≡ first 7 r) (h : LongMultiply d ≡ long_multiply_from t) where
  pub long_multiply_is : record_of r ≡ LongMultiply d
  unfolding long_multiply_from
  long_multiply_is = read_as 8 r k ∙ sym (rw b at h)

  pub long_multiply_below : (d.low < 16) × (d.high < 16) × (d.rn < 16) × (d.rm < 16)
  unfolding well_formed
  long_multiply_below =
      four_after (not d.form.s) d.low d.high d.rn d.rm (formed_as 8 r k (LongMultiply d) long_multiply_is)

-- ---- 09
module _ (r t : List ℕ) (k : OfKind 9 r) (d : DivideFields) (b : t ≡ first 6 r) (h : Divide d ≡ divide_from t) where
  pub divide_is : record_of r ≡ Divide d
  unfolding divide_from
  divide_is = read_as 9 r k ∙ sym (rw b at h)

  pub divide_below : (d.rd < 16) × (d.rn < 16) × (d.rm < 16)
  unfolding well_formed
  divide_below = three_after (not d.form.s) d.rd d.rn d.rm (formed_as 9 r k (Divide d) divide_is)

-- ---- 0A
module _ (r t : List ℕ) (k : OfKind 10 r) (d : SaturateFields) (b : t ≡ first 8 r) (h : Saturate d ≡ saturate_from t) where
  pub saturate_is : record_of r ≡ Saturate d
  unfolding saturate_from
  saturate_is = read_as 10 r k ∙ sym (rw b at h)

  pub saturate_below : (d.rd < 16) × (d.rm < 16)
  unfolding well_formed
  saturate_below =
      let b = not d.form.s && register d.rd && register d.rm in
      let p = both_true (b && saturated_bits d.op d.bits) (saturated_shift d.shift d.amount) (formed_as 10 r k (Saturate d) saturate_is) in
      two_after (not d.form.s) d.rd d.rm (both_true b (saturated_bits d.op d.bits) p.0).0

-- ---- 0B
module _ (r t : List ℕ) (k : OfKind 11 r) (d : BitFieldFields) (b : t ≡ first 7 r) (h : BitField d ≡ bit_field_from t) where
  pub bit_field_is : record_of r ≡ BitField d
  unfolding bit_field_from
  bit_field_is = read_as 11 r k ∙ sym (rw b at h)

  pub bit_field_below : (d.rd < 16) × (d.rn < 16)
  unfolding well_formed
  bit_field_below =
      let b = not d.form.s && register d.rd && register d.rn in
      let p = both_true (b && leb 1 d.width && leb (d.lsb + d.width) 32) (field_source d.op d.rn) (formed_as 11 r k (BitField d) bit_field_is) in
      let q = both_true (b && leb 1 d.width) (leb (d.lsb + d.width) 32) p.0 in
      two_after (not d.form.s) d.rd d.rn (both_true b (leb 1 d.width) q.0).0

-- ---- 0C
module _ (r t : List ℕ) (k : OfKind 12 r) (d : ExtendFields) (b : t ≡ first 6 r) (h : Extend d ≡ extend_from t) where
  pub extend_is : record_of r ≡ Extend d
  unfolding extend_from
  extend_is = read_as 12 r k ∙ sym (rw b at h)

  pub extend_below : (d.rd < 16) × (d.rm < 16)
  unfolding well_formed
  extend_below =
      let b = not d.form.s && register d.rd && register d.rm in
      let turned = eqb d.rotation 0 || eqb d.rotation 8 || eqb d.rotation 16 || eqb d.rotation 24 in
      two_after (not d.form.s) d.rd d.rm (both_true b turned (formed_as 12 r k (Extend d) extend_is)).0
