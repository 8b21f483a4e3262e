-- A record that a filler may stand after, outside a block: the machine that its step makes is where the record goes, and never just at
-- the next address.
use Prim.Native.Nat.{ℕ}
use mathlib.Core.Bool.{true, false, true≢false}
use mathlib.Core.List.{List}
use mathlib.Core.Path.{◌≡◌, refl, sym, ◌∙◌}
use native.Mathlib.Omega.{arith}
use borrow.Author.Tests.{eq-eqb}
use lib.Dec.{eqb}
use lib.ListN.{length, length-set}
use Rattle.std.specs.Prelude.{Some}
use Rattle.word.specs.Word.{bit}
use Rattle.word.proofs.Cases.{chosen}
use Rattle.waiting.specs.Waiting.{none, waiting_count}
use Rattle.waiting.proofs.Laws.{first_none}
use Rattle.setup.specs.declared.Setup.{Setup}
use Rattle.setup.specs.Setup.{fits}
use Rattle.record.specs.Op.{is_bl, is_blx}
use Rattle.record.specs.declared.BranchFields.{BranchFields}
use Rattle.record.specs.declared.RegisterBranchFields.{RegisterBranchFields}
use Rattle.record.specs.declared.TableBranchFields.{TableBranchFields}
use Rattle.record.specs.declared.Record.{Record}
use Rattle.record.specs.declared.Record.TheVariants.{Branch, RegisterBranch, TableBranch}
use Rattle.flow.specs.Flow.{traits, way, fills, own_condition}
use Rattle.flow.proofs.Laws.{Parting, ByOffset, ByRegister, ByTable, ByFiller}
use Rattle.reading.specs.Reading.{read_one}
use Rattle.judge.specs.Judge.{refusal}
use Rattle.transfer.specs.Transfer.{access_refusal, entry_width, entry_address}
use Rattle.transfer.specs.declared.Alignment.TheVariants.{Byte}
use Rattle.machine.specs.declared.Machine.{Machine}
use Rattle.machine.specs.Machine.{Stepped}
use Rattle.machine.specs.Machine.{PC, held, operand_value, kept, written, with_flags, with_waiting, good, ruling, condition_passes, advanced, onward, refused, done, steady, settled, landed}
use Rattle.machine.specs.Branch.{direct_target, branch_effect, register_branch_effect, table_branch_effect}
use Rattle.machine.specs.Step.{effect, obeyed, considered, stepped}
use Rattle.paper.proofs.Registers.{held_written}
use Rattle.paper.proofs.Writes.{Kept, linking_kept}
use Rattle.paper.proofs.Steers.{Goes}
use Rattle.paper.proofs.Came.{always, Arrived}

abbrev Sixteen : Machine → Type 0
Sixteen x = length x.registers ≡ 16

keeps_sixteen : Kept Sixteen (λ k v. Unit {0})
unfolding written with_flags
keeps_sixteen = record { write = λ x k v w q. length-set x.registers k (kept k v) ∙ q; flag = λ x f q. q }

-- where nothing waits, a record without a condition of its own passes
free_passes : (m : Machine) (r : Record) → waiting_count m.waiting ≡ 0 → own_condition r ≡ 14 → condition_passes m r ≡ true
unfolding condition_passes ruling
free_passes m r z e = rw (eq-eqb m.waiting.first none (first_none m.waiting z), e) (always m.flags)

module _ (m : Machine) (r : Record) (passed : condition_passes m r ≡ true) where
  -- done only where the record goes
  abbrev Gone : Stepped → Type 0
  Gone a = a.number ≡ 0 → Arrived m r (held a.machine PC)

  arrives : (x : Machine) (v : ℕ) → Sixteen x → Goes m (way r) v → Gone (done (written x PC v))
  unfolding done
  arrives x v s g = λ z. record { value = v; goes = g; at = held_written x v s; passed = passed }

  stops : (n : ℕ) → (n ≡ 0 → ⊥) → Gone (refused n m)
  unfolding refused
  stops n h = λ z. absurd (h z)

  lands : (x : Machine) (v : ℕ) → Sixteen x → Goes m (way r) v → Gone (landed m (written x PC v) v)
  unfolding landed settled
  lands x v s g =
      chosen Gone (bit 0 v) _ _
      (λ e. chosen Gone (steady (written x PC v)) _ _ (λ f. arrives x v s g) (λ f. stops 7 (λ z. omega arith)))
      (λ e. stops 7 (λ z. omega arith))

module _ (m : Machine) (sixteen : Sixteen m) (bytes : List ℕ) (setup : Setup) where
  onward_sixteen : (r : Record) → Sixteen (onward m r)
  unfolding onward advanced with_waiting written
  onward_sixteen r = length-set m.registers PC _ ∙ sixteen

  by_offset : (d : BranchFields) (t : condition_passes m (Branch d) ≡ true) → Gone m (Branch d) t (obeyed m (Branch d) bytes setup).answer
  unfolding obeyed effect branch_effect direct_target way traits
  by_offset d t =
      rw t
      (arrives m (Branch d) t _ _
      (linking_kept Sixteen _ keeps_sixteen (onward m (Branch d)) (is_bl d.op) (λ v. tt) (onward_sixteen (Branch d))) refl)

  by_register : (d : RegisterBranchFields) (t : condition_passes m (RegisterBranch d) ≡ true)
      → Gone m (RegisterBranch d) t (obeyed m (RegisterBranch d) bytes setup).answer
  unfolding obeyed effect register_branch_effect way traits
  by_register d t =
      rw t
      (lands m (RegisterBranch d) t _ _
      (linking_kept Sixteen _ keeps_sixteen (onward m (RegisterBranch d)) (is_blx d.op) (λ v. tt) (onward_sixteen (RegisterBranch d))) tt)

  by_table : (d : TableBranchFields) (t : condition_passes m (TableBranch d) ≡ true)
      → Gone m (TableBranch d) t (obeyed m (TableBranch d) bytes setup).answer
  unfolding obeyed effect table_branch_effect way traits
  by_table d t =
      let at = entry_address d.op (operand_value m d.rn) (held m d.rm) in
      let n = access_refusal Byte (entry_width d.op) setup (length bytes) at in
      rw t
      (chosen (Gone m (TableBranch d) t) (eqb n 0) _ _
      (λ e. arrives m (TableBranch d) t _ _ (onward_sixteen (TableBranch d)) tt)
      (λ e. stops m (TableBranch d) t n (λ z. true≢false (sym (eq-eqb n 0 z) ∙ e))))

  pub parts_gone : (r : Record) → Parting r → fills (way r) ≡ false → waiting_count m.waiting ≡ 0
      → (obeyed m r bytes setup).answer.number ≡ 0 → Arrived m r (held (obeyed m r bytes setup).answer.machine PC)
  unfolding own_condition fills way traits
  parts_gone r (ByOffset d e c) s z = rw e (by_offset d (free_passes m (Branch d) z c))
  parts_gone r (ByRegister d e) s z = rw e (by_register d (free_passes m (RegisterBranch d) z refl))
  parts_gone r (ByTable d e) s z = rw e (by_table d (free_passes m (TableBranch d) z refl))
  parts_gone r (ByFiller number e) s z = absurd (true≢false (rw e at s))

-- the same of a step on the record's bytes
pub step_parts : (m : Machine) (bytes memory : List ℕ) (setup : Setup) (r : Record) → good m ≡ true → fits setup memory ≡ true
    → length m.registers ≡ 16 → read_one bytes ≡ Some r → refusal r (waiting_count m.waiting) ≡ 0
    → Parting r → fills (way r) ≡ false → waiting_count m.waiting ≡ 0
    → (stepped m bytes memory setup).answer.number ≡ 0 → Arrived m r (held (stepped m bytes memory setup).answer.machine PC)
unfolding stepped considered
step_parts m bytes memory setup r g f sixteen e n p s z = rw (g, f, e, n) (parts_gone m sixteen memory setup r p s z)
