-- What all records have in common: the length of a form or of a filler, no block but that of an IT record, and a filler after few.
use Rattle.std.proofs.Common.{◌≡◌, ℕ, ◌%◌, ◌≤◌, Bool, true, false, not, eqb, ◌⊎◌, ℤ, refl, inl, inr, arith, eqb-true}
use mathlib.Core.Bool.{false≢true}
use Rattle.std.specs.Bool.{if◌then◌else◌}
use Rattle.word.proofs.Cases.{cases, yes_or_no, both_true}
use Rattle.record.specs.Op.{is_bl}
use Rattle.record.specs.declared.Form.{Form}
use Rattle.record.specs.declared.BranchFields.{BranchFields}
use Rattle.record.specs.declared.RegisterBranchFields.{RegisterBranchFields}
use Rattle.record.specs.declared.TableBranchFields.{TableBranchFields}
use Rattle.record.specs.declared.IfThenFields.{IfThenFields}
use Rattle.record.specs.declared.Record.{Record}
use Rattle.record.specs.declared.Record.TheVariants.{ShiftedRegister, Constant, RegisterShift, AddNumber, MoveNumber, Unary, Multiply, LongMultiply, Divide, Saturate, BitField, Extend, Access, IndexedAccess, DualAccess, MultipleAccess, Branch, RegisterBranch, CompareBranch, IfThen, Nop, TableBranch, Filler}
use Rattle.waiting.specs.declared.Waiting.{Waiting}
use Rattle.waiting.specs.Waiting.{block, dropped}
use Rattle.flow.specs.declared.Way.{Way}
use Rattle.flow.specs.declared.Way.TheVariants.{Next, Direct, Taken, Fills}
use Rattle.std.specs.Prelude.{None}
use Rattle.flow.specs.Flow.{form_length, traits, machine_length, way, leaves, fills, opened, after}

pub record Opener (r : Record) : Type 0 where
  pub fields : IfThenFields
  pub is : r ≡ IfThen fields

-- the length of a record: by its form, or the number of a filler
pub data Sized (r : Record) : Type 0 where
  Formed : (form : Form) → (traits r).length ≡ form_length form → Sized r
  Filled : (number : ℕ) → r ≡ Filler number → Sized r

-- the records that a filler may stand after
pub data Parting (r : Record) : Type 0 where
  ByOffset : (d : BranchFields) → r ≡ Branch d → d.condition ≡ 14 → Parting r
  ByRegister : (d : RegisterBranchFields) → r ≡ RegisterBranch d → Parting r
  ByTable : (d : TableBranchFields) → r ≡ TableBranch d → Parting r
  ByFiller : (number : ℕ) → r ≡ Filler number → Parting r

pub record Row (r : Record) : Type 0 where
  pub length : Sized r
  pub opens : ((traits r).opens ≡ None) ⊎ Opener r
  pub parts : ((traits r).parts ≡ false) ⊎ Parting r

plain : (r : Record) (form : Form) → (traits r).length ≡ form_length form → (traits r).opens ≡ None → (traits r).parts ≡ false → Row r
plain r form e f g = record { length = Formed form e; opens = inl f; parts = inl g }

parting_row : (r : Record) → Sized r → (traits r).opens ≡ None → ((traits r).parts ≡ true → Parting r) → Row r
parting_row r e f g = record {
  length = e;
  opens = inl f;
  parts = cases (yes_or_no (traits r).parts) (λ t. inr (g t)) (λ t. inl t);
}

pub row : (r : Record) → Row r
unfolding traits
row (ShiftedRegister d) = plain (ShiftedRegister d) d.form refl refl refl
row (Constant d) = plain (Constant d) d.form refl refl refl
row (RegisterShift d) = plain (RegisterShift d) d.form refl refl refl
row (AddNumber d) = plain (AddNumber d) d.form refl refl refl
row (MoveNumber d) = plain (MoveNumber d) d.form refl refl refl
row (Unary d) = plain (Unary d) d.form refl refl refl
row (Multiply d) = plain (Multiply d) d.form refl refl refl
row (LongMultiply d) = plain (LongMultiply d) d.form refl refl refl
row (Divide d) = plain (Divide d) d.form refl refl refl
row (Saturate d) = plain (Saturate d) d.form refl refl refl
row (BitField d) = plain (BitField d) d.form refl refl refl
row (Extend d) = plain (Extend d) d.form refl refl refl
row (Access d) = plain (Access d) d.form refl refl refl
row (IndexedAccess d) = plain (IndexedAccess d) d.form refl refl refl
row (DualAccess d) = plain (DualAccess d) d.form refl refl refl
row (MultipleAccess d) = plain (MultipleAccess d) d.form refl refl refl
row (Branch d) =
    parting_row (Branch d) (Formed d.form refl) refl
    (λ t. ByOffset d refl (eqb-true d.condition 14 (both_true (not (is_bl d.op)) (eqb d.condition 14) t).1))
row (RegisterBranch d) = parting_row (RegisterBranch d) (Formed d.form refl) refl (λ t. ByRegister d refl)
row (CompareBranch d) = plain (CompareBranch d) d.form refl refl refl
row (IfThen d) = record { length = Formed d.form refl; opens = inr (record { fields = d; is = refl }); parts = inl refl }
row (Nop form) = plain (Nop form) form refl refl refl
row (TableBranch d) = parting_row (TableBranch d) (Formed d.form refl) refl (λ t. ByTable d refl)
row (Filler number) = parting_row (Filler number) (Filled number refl) refl (λ t. ByFiller number refl)

-- the machine bytes of a record: at least two, an even number, and no more than a filler can have
pub record Lengths (n : ℕ) : Type 0 where
  pub low : 2 ≤ n
  pub high : n ≤ 65534
  pub even : n % 2 ≡ 0

two_or_four : (t : Bool) → Lengths (if t then 4 else 2)
two_or_four true = record { low = omega arith; high = omega arith; even = refl }
two_or_four false = record { low = omega arith; high = omega arith; even = refl }

pub machine_bytes : (r : Record) → ((number : ℕ) → r ≡ Filler number → Lengths number) → Lengths (machine_length r)
unfolding machine_length traits
machine_bytes r filler = go (row r).length
  where
    go : Sized r → Lengths (traits r).length
    go (Formed form e) = rw e (two_or_four form.wide)
    go (Filled number e) = let n = filler number e in rw e n

-- a record that leaves is no filler
pub leaves_no_filler : (w : Way) → leaves w ≡ true → fills w ≡ false
unfolding leaves fills
leaves_no_filler Next h = absurd (false≢true h)
leaves_no_filler (Direct offset) h = refl
leaves_no_filler Taken h = refl
leaves_no_filler Fills h = absurd (false≢true h)

-- what waits after a record: the block of an IT record, or after any other the rest
pub after_holds : (P : Waiting → Type 0) (r : Record) (w : Waiting) → P (dropped w)
    → ((d : IfThenFields) → r ≡ IfThen d → P (block d.condition d.count d.elses)) → P (after r w)
unfolding after opened traits
after_holds P r w rest opens = cases (row r).opens (λ e. rw e rest) (λ o. rw o.is (opens o.fields o.is))

-- a direct branch opens no block
pub direct_drops : (r : Record) (offset : ℤ) → way r ≡ Direct offset → (w : Waiting) → after r w ≡ dropped w
unfolding way traits
direct_drops r offset e w =
    after_holds (λ x. x ≡ dropped w) r w refl
    (λ d f. let g : Next ≡ Direct offset = rw f at e in let z : ◌≡◌ {A = ℕ} 0 1 = cc in absurd (omega arith))
