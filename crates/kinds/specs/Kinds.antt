-- The table of kinds: "One byte of kind (hex), then a body whose length the kind fixes. .. Numbers little-endian."
use Rattle.std.specs.Prelude.{ℕ, List, [], ◌∷◌, get_or}
use Rattle.word.specs.Word.{bit, signed, signed_in}
use Rattle.little.specs.Little.{byte, number_at}
use Rattle.record.specs.Op.{access_op, add_op, branch_op, compare_op, data_op, divide_op, dual_op, extend_op, field_op, long_op, mode, move_op, multiple_op, multiply_op, register_op, saturate_op, shift, table_op, unary_op}
use Rattle.record.specs.declared.Form.{Form}
use Rattle.record.specs.declared.Record.{Record}
use Rattle.record.specs.declared.Record.TheVariants.{ShiftedRegister, Constant, RegisterShift, AddNumber, MoveNumber, Unary, Multiply, LongMultiply, Divide, Saturate, BitField, Extend, Access, IndexedAccess, DualAccess, MultipleAccess, Branch, RegisterBranch, CompareBranch, IfThen, Nop, TableBranch, Filler}

-- the bytes of a record of each kind, its kind byte included; 0: there is no such kind
abbrev pub lengths : List ℕ
lengths = 0 ∷ 8 ∷ 9 ∷ 6 ∷ 7 ∷ 6 ∷ 5 ∷ 7 ∷ 7 ∷ 6 ∷ 8 ∷ 7 ∷ 6 ∷ 8 ∷ 7 ∷ 9 ∷ 7 ∷ 8 ∷ 4 ∷ 5 ∷ 5 ∷ 2 ∷ 5 ∷ 3 ∷ []

unfoldable pub listing_length : ℕ → ℕ
listing_length kind = get_or lengths kind 0

-- the names in each row of the table, which its second byte counts
abbrev pub rows : List ℕ
rows = 0 ∷ 16 ∷ 16 ∷ 4 ∷ 2 ∷ 2 ∷ 5 ∷ 3 ∷ 4 ∷ 2 ∷ 2 ∷ 4 ∷ 4 ∷ 8 ∷ 8 ∷ 2 ∷ 4 ∷ 2 ∷ 2 ∷ 2 ∷ 0 ∷ 0 ∷ 2 ∷ []

unfoldable pub names : ℕ → ℕ
names kind = get_or rows kind 0

-- the longest record has nine bytes; after the bytes of a shorter one stand zeros
abbrev pub nine : List ℕ → List ℕ
nine r =
    byte r 0 ∷ byte r 1 ∷ byte r 2 ∷ byte r 3 ∷ byte r 4 ∷ byte r 5 ∷ byte r 6 ∷ byte r 7 ∷ byte r 8 ∷ []

-- numbers of 2 and 4 bytes
abbrev pub half : List ℕ → ℕ → ℕ
half r at = number_at 2 r at

abbrev pub word : List ℕ → ℕ → ℕ
word r at = number_at 4 r at

-- "bit 0 S, bit 1 set for 4 machine bytes"
unfoldable pub form : ℕ → Form
form bits = record { s = bit 0 bits; wide = bit 1 bits }

unfoldable pub shifted_register_from : List ℕ → Record
shifted_register_from r = ShiftedRegister (record {
  op = data_op (byte r 1);
  form = form (byte r 2);
  rd = byte r 3;
  rn = byte r 4;
  rm = byte r 5;
  shift = shift (byte r 6);
  amount = byte r 7;
})

unfoldable pub constant_from : List ℕ → Record
constant_from r = Constant (record {
  op = data_op (byte r 1);
  form = form (byte r 2);
  rd = byte r 3;
  rn = byte r 4;
  constant = word r 5;
})

unfoldable pub register_shift_from : List ℕ → Record
register_shift_from r = RegisterShift (record {
  shift = shift (byte r 1);
  form = form (byte r 2);
  rd = byte r 3;
  rn = byte r 4;
  rs = byte r 5;
})

unfoldable pub add_number_from : List ℕ → Record
add_number_from r = AddNumber (record {
  op = add_op (byte r 1);
  form = form (byte r 2);
  rd = byte r 3;
  rn = byte r 4;
  number = half r 5;
})

unfoldable pub move_number_from : List ℕ → Record
move_number_from r = MoveNumber (record {
  op = move_op (byte r 1);
  form = form (byte r 2);
  rd = byte r 3;
  number = half r 4;
})

unfoldable pub unary_from : List ℕ → Record
unary_from r = Unary (record {
  op = unary_op (byte r 1);
  form = form (byte r 2);
  rd = byte r 3;
  rm = byte r 4;
})

unfoldable pub multiply_from : List ℕ → Record
multiply_from r = Multiply (record {
  op = multiply_op (byte r 1);
  form = form (byte r 2);
  rd = byte r 3;
  rn = byte r 4;
  rm = byte r 5;
  ra = byte r 6;
})

unfoldable pub long_multiply_from : List ℕ → Record
long_multiply_from r = LongMultiply (record {
  op = long_op (byte r 1);
  form = form (byte r 2);
  low = byte r 3;
  high = byte r 4;
  rn = byte r 5;
  rm = byte r 6;
})

unfoldable pub divide_from : List ℕ → Record
divide_from r = Divide (record {
  op = divide_op (byte r 1);
  form = form (byte r 2);
  rd = byte r 3;
  rn = byte r 4;
  rm = byte r 5;
})

unfoldable pub saturate_from : List ℕ → Record
saturate_from r = Saturate (record {
  op = saturate_op (byte r 1);
  form = form (byte r 2);
  rd = byte r 3;
  bits = byte r 4;
  rm = byte r 5;
  shift = shift (byte r 6);
  amount = byte r 7;
})

unfoldable pub bit_field_from : List ℕ → Record
bit_field_from r = BitField (record {
  op = field_op (byte r 1);
  form = form (byte r 2);
  rd = byte r 3;
  rn = byte r 4;
  lsb = byte r 5;
  width = byte r 6;
})

unfoldable pub extend_from : List ℕ → Record
extend_from r = Extend (record {
  op = extend_op (byte r 1);
  form = form (byte r 2);
  rd = byte r 3;
  rm = byte r 4;
  rotation = byte r 5;
})

unfoldable pub access_from : List ℕ → Record
access_from r = Access (record {
  op = access_op (byte r 1);
  form = form (byte r 2);
  rt = byte r 3;
  rn = byte r 4;
  mode = mode (byte r 5);
  offset = signed_in 16 (half r 6);
})

unfoldable pub indexed_access_from : List ℕ → Record
indexed_access_from r = IndexedAccess (record {
  op = access_op (byte r 1);
  form = form (byte r 2);
  rt = byte r 3;
  rn = byte r 4;
  rm = byte r 5;
  amount = byte r 6;
})

unfoldable pub dual_access_from : List ℕ → Record
dual_access_from r = DualAccess (record {
  op = dual_op (byte r 1);
  form = form (byte r 2);
  rt = byte r 3;
  rt2 = byte r 4;
  rn = byte r 5;
  mode = mode (byte r 6);
  offset = signed_in 16 (half r 7);
})

unfoldable pub multiple_access_from : List ℕ → Record
multiple_access_from r = MultipleAccess (record {
  op = multiple_op (byte r 1);
  form = form (byte r 2);
  rn = byte r 3;
  writeback = bit 0 (byte r 4);
  list = half r 5;
})

unfoldable pub branch_from : List ℕ → Record
branch_from r = Branch (record {
  op = branch_op (byte r 1);
  form = form (byte r 2);
  condition = byte r 3;
  offset = signed (word r 4);
})

unfoldable pub register_branch_from : List ℕ → Record
register_branch_from r = RegisterBranch (record {
  op = register_op (byte r 1);
  form = form (byte r 2);
  rm = byte r 3;
})

unfoldable pub compare_branch_from : List ℕ → Record
compare_branch_from r = CompareBranch (record {
  op = compare_op (byte r 1);
  form = form (byte r 2);
  rn = byte r 3;
  offset = byte r 4;
})

unfoldable pub if_then_from : List ℕ → Record
if_then_from r = IfThen (record {
  form = form (byte r 1);
  condition = byte r 2;
  count = byte r 3;
  elses = byte r 4;
})

abbrev pub nop_from : List ℕ → Record
nop_from r = Nop (form (byte r 1))

-- order 1: "kind 16 (TBB, TBH; form, Rn, Rm, ..)"
unfoldable pub table_branch_from : List ℕ → Record
table_branch_from r = TableBranch (record {
  op = table_op (byte r 1);
  form = form (byte r 2);
  rn = byte r 3;
  rm = byte r 4;
})

-- order 1: "kind 17 .. (body: that number, 2 bytes)"
abbrev pub filler_from : List ℕ → Record
filler_from r = Filler (half r 1)

-- how each kind is read
abbrev pub readings : List (List ℕ → Record)
readings =
    nop_from ∷ shifted_register_from ∷ constant_from ∷ register_shift_from ∷ add_number_from ∷ move_number_from ∷ unary_from ∷ multiply_from ∷ long_multiply_from ∷ divide_from ∷ saturate_from ∷ bit_field_from ∷ extend_from ∷ access_from ∷ indexed_access_from ∷ dual_access_from ∷ multiple_access_from ∷ branch_from ∷ register_branch_from ∷ compare_branch_from ∷ if_then_from ∷ nop_from ∷ table_branch_from ∷ filler_from ∷ []

-- the record that the bytes r are, by their kind
unfoldable pub record_of : List ℕ → Record
record_of r = get_or readings (byte r 0) nop_from r
