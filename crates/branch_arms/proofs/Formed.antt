-- The fields of a record of kinds 11 to 13 and 16 that the check has passed: the record is the one that they make, and its registers are 0 to 15.
use Rattle.std.proofs.Common.{◌≡◌, ℕ, ◌%◌, ◌<◌, not, ◌&&◌, eqb, ltb, leb, List, sym, ◌∙◌, arith, ltb-true, leb-true}
use Rattle.word.proofs.Cases.{both_true}
use Rattle.little.specs.Little.{little}
use Rattle.record.specs.declared.BranchFields.{BranchFields}
use Rattle.record.specs.declared.RegisterBranchFields.{RegisterBranchFields}
use Rattle.record.specs.declared.CompareBranchFields.{CompareBranchFields}
use Rattle.record.specs.declared.TableBranchFields.{TableBranchFields}
use Rattle.record.specs.declared.Record.TheVariants.{Branch, RegisterBranch, CompareBranch, TableBranch}
use Rattle.fields.specs.Fields.{well_formed}
use Rattle.kinds.specs.Kinds.{record_of, branch_from, register_branch_from, compare_branch_from, table_branch_from}
use Rattle.lent.specs.Lent.{OfKind, first}
use Rattle.lent.proofs.Laws.{read_as, formed_as}

-- ---- 11
module _ (r t : List ℕ) (k : OfKind 17 r) (d : BranchFields) (b : t ≡ first 8 r) (h : Branch d ≡ branch_from t) where
  pub branch_is : record_of r ≡ Branch d
  unfolding branch_from little
  branch_is = read_as 17 r k ∙ sym (rw b at h)

-- ---- 12
pub register_bound : (r : List ℕ) → OfKind 18 r → (d : RegisterBranchFields) → record_of r ≡ RegisterBranch d → d.rm < 16
unfolding well_formed
register_bound r k d e =
    let short = not d.form.s && not d.form.wide in
    ltb-true d.rm 16 (both_true short (ltb d.rm 16) (formed_as 18 r k (RegisterBranch d) e)).1

module _ (r t : List ℕ) (k : OfKind 18 r) (d : RegisterBranchFields) (b : t ≡ first 4 r) (h : RegisterBranch d ≡ register_branch_from t) where
  pub register_is : record_of r ≡ RegisterBranch d
  unfolding register_branch_from
  register_is = read_as 18 r k ∙ sym (rw b at h)

  pub register_below : d.rm < 16
  register_below = register_bound r k d register_is

-- ---- 13
pub compare_bound : (r : List ℕ) → OfKind 19 r → (d : CompareBranchFields) → record_of r ≡ CompareBranch d → d.rn < 16
unfolding well_formed
compare_bound r k d e =
    let short = not d.form.s && not d.form.wide in
    let low = leb d.rn 7 in
    let near = leb d.offset 126 in
    let all = both_true (short && low && near) (eqb (d.offset % 2) 0) (formed_as 19 r k (CompareBranch d) e) in
    let bound = leb-true d.rn 7 (both_true short low (both_true (short && low) near all.0).0).1 in
    omega (arith, bound)

module _ (r t : List ℕ) (k : OfKind 19 r) (d : CompareBranchFields) (b : t ≡ first 5 r) (h : CompareBranch d ≡ compare_branch_from t) where
  pub compare_is : record_of r ≡ CompareBranch d
  unfolding compare_branch_from
  compare_is = read_as 19 r k ∙ sym (rw b at h)

  pub compare_below : d.rn < 16
  compare_below = compare_bound r k d compare_is

-- ---- 16
pub table_bounds : (r : List ℕ) → OfKind 22 r → (d : TableBranchFields) → record_of r ≡ TableBranch d → (d.rn < 16) × (d.rm < 16)
unfolding well_formed
table_bounds r k d e =
    let wide = not d.form.s && d.form.wide in
    let all = both_true (wide && ltb d.rn 16) (ltb d.rm 16) (formed_as 22 r k (TableBranch d) e) in
    (ltb-true d.rn 16 (both_true wide (ltb d.rn 16) all.0).1, ltb-true d.rm 16 all.1)

module _ (r t : List ℕ) (k : OfKind 22 r) (d : TableBranchFields) (b : t ≡ first 5 r) (h : TableBranch d ≡ table_branch_from t) where
  pub table_is : record_of r ≡ TableBranch d
  unfolding table_branch_from
  table_is = read_as 22 r k ∙ sym (rw b at h)

  pub table_below : (d.rn < 16) × (d.rm < 16)
  table_below = table_bounds r k d table_is
