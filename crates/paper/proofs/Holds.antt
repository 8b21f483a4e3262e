-- One case principle over the step of a record: it is refused with 5, 6 or 7, or done with a machine that is made of the one at the
-- next record by writes of the record's registers.
use Prim.Native.Nat.{ℕ, ◌%◌, ◌≤◌}
use mathlib.Core.Bool.{Bool, true, false, not}
use mathlib.Core.List.{List}
use mathlib.Core.Path.{◌≡◌, refl, ◌∙◌}
use native.Mathlib.Omega.{arith}
use lib.Dec.{eqb}
use lib.ListN.{length}
use Rattle.std.specs.Bool.{if◌then◌else◌}
use Rattle.word.specs.Word.{bit}
use Rattle.word.proofs.Cases.{chosen}
use Rattle.setup.specs.declared.Setup.{Setup}
use Rattle.memory.specs.Memory.{inside, loaded}
use Rattle.memory.proofs.Laws.{stored_length}
use Rattle.register_list.specs.List.{member}
use Rattle.record.specs.Op.{loads, loads_dual, loads_many, is_bl, is_blx}
use Rattle.record.specs.declared.op.AccessOp.{AccessOp}
use Rattle.record.specs.declared.AccessFields.{AccessFields}
use Rattle.record.specs.declared.IndexedAccessFields.{IndexedAccessFields}
use Rattle.record.specs.declared.DualAccessFields.{DualAccessFields}
use Rattle.record.specs.declared.MultipleAccessFields.{MultipleAccessFields}
use Rattle.record.specs.declared.BranchFields.{BranchFields}
use Rattle.record.specs.declared.RegisterBranchFields.{RegisterBranchFields}
use Rattle.record.specs.declared.CompareBranchFields.{CompareBranchFields}
use Rattle.record.specs.declared.TableBranchFields.{TableBranchFields}
use Rattle.record.specs.declared.Record.{Record}
use Rattle.record.specs.declared.Record.TheVariants.{ShiftedRegister, Constant, RegisterShift, AddNumber, MoveNumber, Unary, Multiply, LongMultiply, Divide, Saturate, BitField, Extend, Access, IndexedAccess, DualAccess, MultipleAccess, Branch, RegisterBranch, CompareBranch, IfThen, Nop, TableBranch, Filler}
use Rattle.transfer.specs.declared.Alignment.{Alignment}
use Rattle.transfer.specs.declared.Alignment.TheVariants.{Byte, Word}
use Rattle.transfer.specs.Transfer.{width, multiple, alignment, access_refusal, entry_width, entry_address, table_target}
use Rattle.transfer.proofs.Lengths.{after_store_length, list_stored_length}
use Rattle.machine.specs.declared.Machine.{Machine}
use Rattle.machine.specs.Machine.{Stepped}
use Rattle.machine.specs.Machine.{PC, held, operand_value, written, condition_passes, onward, skipped, refused, done, steady, settled, Outcome, keeping, landed}
use Rattle.machine.specs.Access.{storing, arriving, access_made, access_done, access_effect, indexed_access_effect, dual_made, dual_access_effect, list_arriving, multiple_made, multiple_access_effect}
use Rattle.machine.specs.Branch.{direct_target, branch_effect, register_branch_effect, branches, compare_branch_effect, table_branch_effect}
use Rattle.machine.specs.Compute.{shifted_register_effect, constant_effect, register_shift_effect, add_number_effect, move_number_effect, unary_effect, multiply_effect, long_multiply_effect, divide_effect, saturate_effect, bit_field_effect, extend_effect}
use Rattle.machine.specs.Step.{effect, obeyed}
use Rattle.paper.proofs.Registers.{steady_written, steady_onward, steady_linking}
use Rattle.paper.proofs.Writes.{Each, Kept, data_kept, based_kept, list_kept, linking_kept}

-- P holds of a refusal with 5, 6 or 7; and of a step that is done with a machine of which Q holds, R13 a multiple of 4 and memory as long
pub record Ends (m : Machine) (bytes : List ℕ) (P : Outcome → Type 0) (Q : Machine → Type 0) : Type 0 where
  pub stop : (n : ℕ) → (5 ≤ n) × (n ≤ 7) → P (keeping (refused n m) bytes)
  pub went : (x : Machine) (after : List ℕ) → Q x → steady x ≡ true → length after ≡ length bytes
      → P (record { answer = done x; memory = after })

keeping_if : (t : Bool) (a b : Stepped) (bytes : List ℕ) → keeping (if t then a else b) bytes ≡ (if t then keeping a bytes else keeping b bytes)
keeping_if true a b bytes = refl
keeping_if false a b bytes = refl

module _
    (m : Machine) (bytes : List ℕ) (setup : Setup) (P : Outcome → Type 0) (Q : Machine → Type 0) (W : ℕ → ℕ → Type 0)
    (ends : Ends m bytes P Q) (keeps : Kept Q W) (firm : steady m ≡ true)
  where
    abbrev Answer : Stepped → Type 0
    Answer answer = P (keeping answer bytes)

    seven : Answer (refused 7 m)
    seven = ends.stop 7 (omega arith, omega arith)

    of_settled : (x : Machine) → Q x → Answer (settled m x)
    unfolding settled
    of_settled x q = chosen Answer (steady x) _ _ (λ e. ends.went x bytes q e refl) (λ e. seven)

    of_landed : (x : Machine) (value : ℕ) → Q x → Answer (landed m x value)
    unfolding landed
    of_landed x value q = chosen Answer (bit 0 value) _ _ (λ e. of_settled x q) (λ e. seven)

    of_storing : (x : Machine) (after : List ℕ) → Q x → length after ≡ length bytes → P (storing m x bytes after)
    unfolding storing
    of_storing x after q l = chosen P (steady x) _ _ (λ e. ends.went x after q e l) (λ e. seven)

    of_refusal : (wanted : Alignment) (count address : ℕ) (a : Outcome) → P a
        → let n = access_refusal wanted count setup (length bytes) address in P (if eqb n 0 then a else keeping (refused n m) bytes)
    unfolding access_refusal
    of_refusal wanted count address a p = go (not (eqb (address % multiple wanted) 0)) (inside count setup (length bytes) address)
      where
        go : (t u : Bool) → let n : ℕ = if t then 5 else (if u then 0 else 6) in P (if eqb n 0 then a else keeping (refused n m) bytes)
        go true u = ends.stop 5 (omega arith, omega arith)
        go false true = p
        go false false = ends.stop 6 (omega arith, omega arith)

    of_arriving : (back : Machine) (rt value : ℕ) → W rt value → Q back → Answer (arriving m back rt value)
    unfolding arriving
    of_arriving back rt value w q =
        let to = keeps.write back rt value w q in
        chosen Answer (eqb rt PC) _ _ (λ e. of_landed (written back rt value) value to) (λ e. of_settled (written back rt value) to)

    of_access_done : (back : Machine) (op : AccessOp) (rt address : ℕ) → (loads op ≡ true → (v : ℕ) → W rt v) → Q back
        → P (access_done m back op rt address bytes setup)
    unfolding access_done access_made
    of_access_done back op rt address w q =
        of_refusal (alignment op (eqb rt PC)) (width op) address _
        (chosen P (loads op) _ _
        (λ e. of_arriving back rt _ (w e _) q)
        (λ e. of_storing back _ q (after_store_length op setup bytes address (held m rt))))

    of_access : (next : Machine) (d : AccessFields) → Each m W (Access d) → Q next → P (access_effect m next d bytes setup)
    unfolding access_effect
    of_access next d w q = of_access_done _ d.op d.rt _ w.0 (based_kept Q W keeps next d.mode d.rn _ w.1 q)

    of_indexed : (next : Machine) (d : IndexedAccessFields) → Each m W (IndexedAccess d) → Q next → P (indexed_access_effect m next d bytes setup)
    unfolding indexed_access_effect
    of_indexed next d w q = of_access_done next d.op d.rt _ w q

    of_dual : (next : Machine) (d : DualAccessFields) → Each m W (DualAccess d) → Q next → P (dual_access_effect m next d bytes setup)
    unfolding dual_access_effect dual_made
    of_dual next d w q =
        let back = based_kept Q W keeps next d.mode d.rn _ w.2 q in
        of_refusal Word 8 _ _
        (chosen P (loads_dual d.op) _ _
        (λ e. of_settled _ (keeps.write _ d.rt2 _ (w.1 _) (keeps.write _ d.rt _ (w.0 _) back)))
        (λ e. of_storing _ _ back (stored_length 4 setup _ _ _ ∙ stored_length 4 setup bytes _ _)))

    of_multiple : (next : Machine) (d : MultipleAccessFields) → Each m W (MultipleAccess d) → Q next → P (multiple_access_effect m next d bytes setup)
    unfolding multiple_access_effect multiple_made list_arriving
    of_multiple next d w q =
        let back = chosen Q d.writeback _ _ (λ e. keeps.write next d.rn _ (w.1 e _) q) (λ e. q) in
        of_refusal Word _ _ _
        (chosen P (loads_many d.op) _ _
        (λ e.
        let next = list_kept Q W keeps 16 _ d.list _ bytes setup (w.0 e) back in
        chosen Answer (member d.list PC) _ _ (λ f. of_landed _ _ next) (λ f. of_settled _ next))
        (λ e. of_storing _ _ back (list_stored_length 16 setup bytes m.registers d.list _)))

    of_register_branch : (next : Machine) (d : RegisterBranchFields) → Each m W (RegisterBranch d) → Q next → Answer (register_branch_effect m next d setup)
    unfolding register_branch_effect
    of_register_branch next d w q = of_landed _ _ (keeps.write _ PC _ (w.1 _) (linking_kept Q W keeps next (is_blx d.op) w.0 q))

    of_branch : (next : Machine) (d : BranchFields) → Each m W (Branch d) → steady next ≡ true → Q next → Answer (branch_effect m next d setup)
    unfolding branch_effect
    of_branch next d w s q =
        ends.went _ bytes (keeps.write _ PC _ w.1 (linking_kept Q W keeps next (is_bl d.op) w.0 q))
        (steady_written _ PC _ (λ e. omega arith) ∙ (steady_linking next (is_bl d.op) ∙ s)) refl

    of_compare : (next : Machine) (d : CompareBranchFields) → Each m W (CompareBranch d) → steady next ≡ true → Q next → Answer (compare_branch_effect m next d setup)
    unfolding compare_branch_effect
    of_compare next d w s q = go (branches d.op (held m d.rn))
      where
        go : (t : Bool) → P (keeping (done (if t then written next PC (direct_target m (CompareBranch d)) else next)) bytes)
        go true = ends.went _ bytes (keeps.write next PC _ w q) (steady_written next PC _ (λ e. omega arith) ∙ s) refl
        go false = ends.went next bytes q s refl

    of_table : (next : Machine) (d : TableBranchFields) → Each m W (TableBranch d) → steady next ≡ true → Q next
        → Answer (table_branch_effect m next d bytes setup)
    unfolding table_branch_effect
    of_table next d w s q =
        let at = entry_address d.op (operand_value m d.rn) (held m d.rm) in
        let n = access_refusal Byte (entry_width d.op) setup (length bytes) at in
        let to = written next PC (table_target (held m PC) (loaded (entry_width d.op) setup bytes at)) in
        rw (keeping_if (eqb n 0) (done to) (refused n m) bytes)
        (of_refusal Byte (entry_width d.op) at _
        (ends.went _ bytes (keeps.write next PC _ (w _) q) (steady_written next PC _ (λ e. omega arith) ∙ s) refl))

    of_effect : (next : Machine) (r : Record) → Each m W r → steady next ≡ true → Q next → P (effect m next r bytes setup)
    unfolding effect shifted_register_effect constant_effect register_shift_effect add_number_effect move_number_effect unary_effect multiply_effect long_multiply_effect divide_effect saturate_effect bit_field_effect extend_effect
    of_effect next (ShiftedRegister d) w s q = of_settled _ (data_kept Q W keeps m next d.op d.form.s d.rd _ _ w q)
    of_effect next (Constant d) w s q = of_settled _ (data_kept Q W keeps m next d.op d.form.s d.rd _ _ w q)
    of_effect next (RegisterShift d) w s q = of_settled _ (data_kept Q W keeps m next _ d.form.s d.rd _ _ (λ e. w) q)
    of_effect next (AddNumber d) w s q = of_settled _ (keeps.write next d.rd _ (w _) q)
    of_effect next (MoveNumber d) w s q = of_settled _ (keeps.write next d.rd _ (w _) q)
    of_effect next (Unary d) w s q = of_settled _ (keeps.write next d.rd _ (w _) q)
    of_effect next (Multiply d) w s q =
        let to = keeps.write next d.rd _ (w _) q in of_settled _ (chosen Q d.form.s _ _ (λ e. keeps.flag _ _ to) (λ e. to))
    of_effect next (LongMultiply d) w s q = of_settled _ (keeps.write _ d.high _ (w.1 _) (keeps.write next d.low _ (w.0 _) q))
    of_effect next (Divide d) w s q = of_settled _ (keeps.write next d.rd _ (w _) q)
    of_effect next (Saturate d) w s q = of_settled _ (keeps.flag _ _ (keeps.write next d.rd _ (w _) q))
    of_effect next (BitField d) w s q = of_settled _ (keeps.write next d.rd _ (w _) q)
    of_effect next (Extend d) w s q = of_settled _ (keeps.write next d.rd _ (w _) q)
    of_effect next (Access d) w s q = of_access next d w q
    of_effect next (IndexedAccess d) w s q = of_indexed next d w q
    of_effect next (DualAccess d) w s q = of_dual next d w q
    of_effect next (MultipleAccess d) w s q = of_multiple next d w q
    of_effect next (Branch d) w s q = of_branch next d w s q
    of_effect next (RegisterBranch d) w s q = of_register_branch next d w q
    of_effect next (CompareBranch d) w s q = of_compare next d w s q
    of_effect next (IfThen d) w s q = ends.went next bytes q s refl
    of_effect next (Nop form) w s q = ends.went next bytes q s refl
    of_effect next (TableBranch d) w s q = of_table next d w s q
    of_effect next (Filler number) w s q = ends.went next bytes q s refl

    -- Q holds at the next record where the condition passes, and P where it fails
    pub obeyed_holds : (r : Record) → Each m W r → (condition_passes m r ≡ true → Q (onward m r))
        → (condition_passes m r ≡ false → P (keeping (done (skipped m r)) bytes)) → P (obeyed m r bytes setup)
    unfolding obeyed
    obeyed_holds r w first missed =
        chosen P (condition_passes m r) _ _ (λ e. of_effect (onward m r) r w (steady_onward m r ∙ firm) (first e)) missed
