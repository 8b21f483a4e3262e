-- The bytes of a record that the check has passed, by its kind: the record that they are, and that its registers are below 16.
use Rattle.std.proofs.Common.{◌≡◌, ℕ, ◌<◌, ◌≤◌, Bool, true, not, ◌&&◌, leb, List, [], ◌∷◌, length, sym, ◌∙◌, arith, ltb-true}
use Rattle.word.proofs.Cases.{both_true}
use Rattle.little.specs.Little.{little, byte}
use Rattle.record.specs.declared.AccessFields.{AccessFields}
use Rattle.record.specs.declared.IndexedAccessFields.{IndexedAccessFields}
use Rattle.record.specs.declared.DualAccessFields.{DualAccessFields}
use Rattle.record.specs.declared.MultipleAccessFields.{MultipleAccessFields}
use Rattle.record.specs.declared.Record.TheVariants.{Access, IndexedAccess, DualAccess, MultipleAccess}
use Rattle.fields.specs.Fields.{register, well_formed, access_offset, dual_offset}
use Rattle.kinds.specs.Kinds.{record_of, access_from, indexed_access_from, dual_access_from, multiple_access_from}
use Rattle.lent.specs.Lent.{OfKind, first}
use Rattle.lent.proofs.Laws.{read_as, formed_as}

middle : (a b c d e : Bool) → (a && b && c && d && e) ≡ true → (b ≡ true) × (c ≡ true) × (d ≡ true)
middle a b c d e h =
    let p = both_true (a && b && c && d) e h in
    let q = both_true (a && b && c) d p.0 in
    let s = both_true (a && b) c q.0 in
    ((both_true a b s.0).1, s.1, q.1)

-- a first byte that is not 0 stands there
pub begins : (r : List ℕ) → 13 ≤ byte r 0 → 0 < length r
begins [] h = omega arith
begins (x ∷ xs) h = omega arith

-- ---- 0D
pub access_registers : (r : List ℕ) (d : AccessFields) → OfKind 13 r → record_of r ≡ Access d → (d.rt < 16) × (d.rn < 16)
unfolding well_formed
access_registers r d k e =
    let p = both_true (not d.form.s && register d.rt && register d.rn) (access_offset d.mode d.rn d.offset) (formed_as 13 r k (Access d) e) in
    let q = both_true (not d.form.s && register d.rt) (register d.rn) p.0 in
    (ltb-true d.rt 16 (both_true (not d.form.s) (register d.rt) q.0).1, ltb-true d.rn 16 q.1)

module _ (r t : List ℕ) (k : OfKind 13 r) (d : AccessFields) (b : t ≡ first 8 r) (h : Access d ≡ access_from t) where
  pub access_is : record_of r ≡ Access d
  unfolding access_from little
  access_is = read_as 13 r k ∙ sym (rw b at h)

  pub access_below : (d.rt < 16) × (d.rn < 16)
  access_below = access_registers r d k access_is

-- ---- 0E
pub indexed_registers : (r : List ℕ) (d : IndexedAccessFields) → OfKind 14 r → record_of r ≡ IndexedAccess d
    → (d.rt < 16) × (d.rn < 16) × (d.rm < 16)
unfolding well_formed
indexed_registers r d k e =
    let p = middle (not d.form.s) (register d.rt) (register d.rn) (register d.rm) (leb d.amount 3) (formed_as 14 r k (IndexedAccess d) e) in
    (ltb-true d.rt 16 p.0, ltb-true d.rn 16 p.1, ltb-true d.rm 16 p.2)

module _ (r t : List ℕ) (k : OfKind 14 r) (d : IndexedAccessFields) (b : t ≡ first 7 r) (h : IndexedAccess d ≡ indexed_access_from t) where
  pub indexed_is : record_of r ≡ IndexedAccess d
  unfolding indexed_access_from
  indexed_is = read_as 14 r k ∙ sym (rw b at h)

  pub indexed_below : (d.rt < 16) × (d.rn < 16) × (d.rm < 16)
  indexed_below = indexed_registers r d k indexed_is

-- ---- 0F
pub dual_registers : (r : List ℕ) (d : DualAccessFields) → OfKind 15 r → record_of r ≡ DualAccess d
    → (d.rn < 16) × (d.rt < 16) × (d.rt2 < 16)
unfolding well_formed
dual_registers r d k e =
    let p = middle (not d.form.s) (register d.rt) (register d.rt2) (register d.rn) (dual_offset d.offset) (formed_as 15 r k (DualAccess d) e) in
    (ltb-true d.rn 16 p.2, ltb-true d.rt 16 p.0, ltb-true d.rt2 16 p.1)

module _ (r t : List ℕ) (k : OfKind 15 r) (d : DualAccessFields) (b : t ≡ first 9 r) (h : DualAccess d ≡ dual_access_from t) where
  pub dual_is : record_of r ≡ DualAccess d
  unfolding dual_access_from little
  dual_is = read_as 15 r k ∙ sym (rw b at h)

  pub dual_below : (d.rn < 16) × (d.rt < 16) × (d.rt2 < 16)
  dual_below = dual_registers r d k dual_is

-- ---- 10
pub multiple_register : (r : List ℕ) (d : MultipleAccessFields) → OfKind 16 r → record_of r ≡ MultipleAccess d → d.rn < 16
unfolding well_formed
multiple_register r d k e =
    ltb-true d.rn 16 (both_true (not d.form.s) (register d.rn) (formed_as 16 r k (MultipleAccess d) e)).1

module _ (r t : List ℕ) (k : OfKind 16 r) (d : MultipleAccessFields) (b : t ≡ first 7 r) (h : MultipleAccess d ≡ multiple_access_from t) where
  pub multiple_is : record_of r ≡ MultipleAccess d
  unfolding multiple_access_from little
  multiple_is = read_as 16 r k ∙ sym (rw b at h)

  pub multiple_below : d.rn < 16
  multiple_below = multiple_register r d k multiple_is
