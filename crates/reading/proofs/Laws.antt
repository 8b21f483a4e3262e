-- The nine bytes that are read stand for the bytes of the record.
use Prim.Native.Nat.{ℕ, zero, suc}
use mathlib.Core.Path.{◌≡◌, refl, sym, ◌∙◌}
use mathlib.Core.Bool.{Bool, ◌&&◌}
use mathlib.Core.List.{List, [], ◌∷◌, map}
use lib.Dec.{eqb}
use lib.ListN.{length, get_or}
use Rattle.little.specs.Little.{byte, little}
use Rattle.kinds.specs.Kinds.{nine, listing_length, readings, nop_from, record_of}
use Rattle.kinds.specs.Kinds.{shifted_register_from, constant_from, register_shift_from, add_number_from, move_number_from, unary_from, multiply_from, long_multiply_from, divide_from, saturate_from, bit_field_from, extend_from, access_from, indexed_access_from, dual_access_from, multiple_access_from, branch_from, register_branch_from, compare_branch_from, if_then_from, table_branch_from}
use Rattle.reading.specs.Reading.{coded, named}

-- a function of a table applied is an entry of the table of its values
getD_apply : {A B : Type 0} (fs : List (A → B)) (k : ℕ) (d : A → B) (x : A) → get_or fs k d x ≡ get_or (map (λ f. f x) fs) k (d x)
getD_apply [] k d x = refl
getD_apply (f ∷ fs) zero d x = refl
getD_apply (f ∷ fs) (suc k) d x = getD_apply fs k d x

pub record_nine : (r : List ℕ) → record_of (nine r) ≡ record_of r
unfolding little record_of shifted_register_from constant_from register_shift_from add_number_from move_number_from unary_from multiply_from long_multiply_from divide_from saturate_from bit_field_from extend_from access_from indexed_access_from dual_access_from multiple_access_from branch_from register_branch_from compare_branch_from if_then_from table_branch_from
record_nine r = getD_apply readings (byte r 0) nop_from (nine r) ∙ sym (getD_apply readings (byte r 0) nop_from r)

-- the test that the bytes are a whole record, as it is made of the nine
pub whole : (r b : List ℕ) (size : ℕ) (n t : Bool) → b ≡ nine r → size ≡ listing_length (byte b 0) → n ≡ named b
    → (eqb (length r) size && n) ≡ t → (eqb (length r) (listing_length (byte r 0)) && named r) ≡ t
unfolding named coded
whole r b size n t e f g h = rw (f, g, e) at h
