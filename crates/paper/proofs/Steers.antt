-- Which records write R15, and with what: of those that may stand, one that goes on to the next doesn't; a direct branch writes its
-- target; the others are those that take their next address from a register or from memory.
use Prim.Native.Nat.{ℕ}
use mathlib.Core.Bool.{Bool, true, false, true≢false, false≢true, not, ◌&&◌, ◌||◌}
use mathlib.Core.Logic.{◌⊎◌, inl, inr}
use mathlib.Core.Path.{◌≡◌, refl, sym, ◌∙◌}
use native.Mathlib.Omega.{arith}
use lib.Dec.{eqb, leb}
use Rattle.word.proofs.Cases.{both_true, neither}
use Rattle.register_list.specs.List.{member}
use Rattle.record.specs.Op.{data_code, is_lsl, loads, loads_dual, loads_many, is_ldr, is_offset}
use Rattle.record.specs.declared.op.AccessOp.{AccessOp}
use Rattle.record.specs.declared.op.AccessOp.TheVariants.{Ldr, Ldrb, Ldrh, Ldrsb, Ldrsh, Str, Strb, Strh}
use Rattle.record.specs.declared.ShiftedRegisterFields.{ShiftedRegisterFields}
use Rattle.record.specs.declared.Record.{Record}
use Rattle.record.specs.declared.Record.TheVariants.{ShiftedRegister, Constant, RegisterShift, AddNumber, MoveNumber, Unary, Multiply, LongMultiply, Divide, Saturate, BitField, Extend, Access, IndexedAccess, DualAccess, MultipleAccess, Branch, RegisterBranch, CompareBranch, IfThen, Nop, TableBranch, Filler}
use Rattle.restricted.specs.Restricted.{allowed, plain, first_operand, transferred}
use Rattle.flow.specs.Flow.{traits, way, target, to_pc, taken_if}
use Rattle.flow.specs.declared.Way.{Way}
use Rattle.flow.specs.declared.Way.TheVariants.{Next, Direct, Taken, Fills}
use Rattle.machine.specs.declared.Machine.{Machine}
use Rattle.machine.specs.Machine.{PC, held}
use Rattle.machine.specs.Branch.{direct_target}
use Rattle.paper.proofs.Writes.{Each}

-- the values that a record may put in R15, by where it goes
abbrev pub Goes : Machine → Way → ℕ → Type 0
Goes m Next v = ⊥
Goes m (Direct offset) v = v ≡ target (held m PC) (Direct offset)
Goes m Taken v = Unit {0}
Goes m Fills v = ⊥

-- another register, or such a value
abbrev pub Steers : Machine → Way → ℕ → ℕ → Type 0
Steers m w k v = (k ≡ PC → ⊥) ⊎ Goes m w v

-- ---- the tests of `allowed`, one by one
first : (a b : Bool) → (a && b) ≡ true → a ≡ true
first a b h = (both_true a b h).0

second : (a b : Bool) → (a && b) ≡ true → b ≡ true
second a b h = (both_true a b h).1

plain_off : (n : ℕ) → plain n ≡ true → n ≡ PC → ⊥
plain_off n h e = false≢true (rw e at h)

not_off : (n : ℕ) → not (eqb n 15) ≡ true → n ≡ PC → ⊥
not_off n h e = false≢true (rw e at h)

taken_or : (m : Machine) (t : Bool) (k v : ℕ) → (t ≡ false → k ≡ PC → ⊥) → Steers m (taken_if t) k v
taken_or m true k v f = inr tt
taken_or m false k v f = inl (f refl)

load_off : (op : AccessOp) (rt : ℕ) → loads op ≡ true → (is_ldr op && eqb rt 15) ≡ false → transferred op rt ≡ true → rt ≡ PC → ⊥
load_off Ldr rt l n h e = true≢false (rw e at n)
load_off Ldrb rt l n h e = plain_off rt h e
load_off Ldrh rt l n h e = plain_off rt h e
load_off Ldrsb rt l n h e = plain_off rt h e
load_off Ldrsh rt l n h e = plain_off rt h e
load_off Str rt l n h e = false≢true l
load_off Strb rt l n h e = false≢true l
load_off Strh rt l n h e = false≢true l

base_off : (rn : ℕ) (l o : Bool) → (not (eqb rn 15) || l && o) ≡ true → o ≡ false → rn ≡ PC → ⊥
base_off rn l o h n e =
    let f : (l && o) ≡ true = rw e at h in
    false≢true (sym n ∙ second l o f)

third : (a b c : Bool) → a ≡ false → b ≡ false → (a || b || c) ≡ true → c ≡ true
third a b c e f h = rw (e, f) at h

shifted_off : (d : ShiftedRegisterFields) → allowed (ShiftedRegister d) ≡ true → to_pc d.op d.rd ≡ false → d.rd ≡ PC → ⊥
unfolding allowed
shifted_off d h n e =
    let f : (eqb (data_code d.op) 0 || eqb (data_code d.op) 10) ≡ false = rw e at n in
    let g = neither (eqb (data_code d.op) 0) (eqb (data_code d.op) 10) f in
    let small = is_lsl d.shift && leb d.amount 3 in
    let straight = is_lsl d.shift && eqb d.amount 0 && not d.form.s in
    let ten = eqb (data_code d.op) 10 in
    let zero = eqb (data_code d.op) 0 in
    let other : (zero && straight && eqb d.rd 15 && eqb d.rn 15 && plain d.rm) ≡ false = rw g.0 in
    let move : (ten && straight) ≡ false = rw g.1 in
    let k = third (ten && straight) (zero && straight && eqb d.rd 15 && eqb d.rn 15 && plain d.rm) _ move other h in
    let l = second (first_operand d.op d.rn) _ (first _ (plain d.rm) k) in
    false≢true (rw e at l)

-- the test of the list of kind 10
abbrev few : ℕ → Bool → Bool
few list l =
    not (eqb list 0) && not (member list 13) && not (member list 15 && not l) && not (member list 14 && member list 15)

pub steered : (m : Machine) (r : Record) → allowed r ≡ true → Each m (Steers m (way r)) r
unfolding allowed way traits direct_target
steered m (ShiftedRegister d) h = λ l v. taken_or m (to_pc d.op d.rd) d.rd v (shifted_off d h)
steered m (Constant d) h = λ l v. inl (λ e. false≢true (rw e at (second (first_operand d.op d.rn) _ h)))
steered m (RegisterShift d) h = λ v. inl (plain_off d.rd (first _ _ (first _ _ h)))
steered m (AddNumber d) h = λ v. inl (λ e. false≢true (rw e at h))
steered m (MoveNumber d) h = λ v. inl (plain_off d.rd h)
steered m (Unary d) h = λ v. inl (plain_off d.rd (first _ _ h))
steered m (Multiply d) h = λ v. inl (plain_off d.rd (first _ _ (first _ _ (first _ _ (first _ _ h)))))
steered m (LongMultiply d) h =
    let both : (plain d.low && plain d.high) ≡ true = first _ _ (first _ _ (first _ _ h)) in
    let t = both_true (plain d.low) (plain d.high) both in
    (λ v. inl (plain_off d.low t.0), λ v. inl (plain_off d.high t.1))
steered m (Divide d) h = λ v. inl (plain_off d.rd (first _ _ (first _ _ h)))
steered m (Saturate d) h = λ v. inl (plain_off d.rd (first _ _ h))
steered m (BitField d) h = λ v. inl (plain_off d.rd (first _ _ h))
steered m (Extend d) h = λ v. inl (plain_off d.rd (first _ _ h))
steered m (Access d) h =
    let given = transferred d.op d.rt in
    let base = not (eqb d.rn 15) || loads d.op && is_offset d.mode in
    let both : (given && base) ≡ true = first _ _ h in
    let t = both_true given base both in (
      λ l v. taken_or m (is_ldr d.op && eqb d.rt 15) d.rt v (λ n. load_off d.op d.rt l n t.0),
      λ o v. inl (base_off d.rn (loads d.op) (is_offset d.mode) t.1 o),
    )
steered m (IndexedAccess d) h =
    λ l v. taken_or m (is_ldr d.op && eqb d.rt 15) d.rt v (λ n. load_off d.op d.rt l n (first _ _ (first _ _ h)))
steered m (DualAccess d) h =
    let differ = not (loads_dual d.op) || not (eqb d.rt d.rt2) in
    let base = not (eqb d.rn 15) || loads_dual d.op && is_offset d.mode in
    let front : (plain d.rt && plain d.rt2 && differ && base) ≡ true = first _ _ h in
    let f = both_true (plain d.rt && plain d.rt2 && differ) base front in
    let t = both_true (plain d.rt) (plain d.rt2) (first (plain d.rt && plain d.rt2) differ f.0) in (
      λ v. inl (plain_off d.rt t.0),
      λ v. inl (plain_off d.rt2 t.1),
      λ o v. inl (base_off d.rn (loads_dual d.op) (is_offset d.mode) f.1 o),
    )
steered m (MultipleAccess d) h = (
  λ l k i v. taken_or m (loads_many d.op && member d.list 15) k v (λ n e. true≢false (sym (rw e at i) ∙ (rw l at n))),
  λ b v. inl (not_off d.rn (second (few d.list (loads_many d.op) && not (d.writeback && member d.list d.rn)) _ h)),
)
steered m (Branch d) h = (λ v. inl (λ e. omega arith), inr refl)
steered m (RegisterBranch d) h = (λ v. inl (λ e. omega arith), λ v. inr tt)
steered m (CompareBranch d) h = inr refl
steered m (IfThen d) h = tt
steered m (Nop form) h = tt
steered m (TableBranch d) h = λ v. inr tt
steered m (Filler number) h = tt
