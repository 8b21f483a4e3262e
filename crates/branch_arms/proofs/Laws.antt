-- What the definitions of kinds 11 to 13 and 16 make of a machine that is put together from its parts.
use Rattle.std.proofs.Common.{◌≡◌, ℕ, ◌+◌, ◌%◌, ◌^◌, Bool, true, false, eqb, List, length, get_or, set, Result, Ok, Err, IsErrAnd, refl, ap, arith, get_or-set_other, set-set}
use Rattle.std.specs.Bool.{if◌then◌else◌}
use Rattle.std.proofs.lemmas.Result.{err_from_is_err_and}
use Rattle.refusal.specs.declared.Refusal.{Refusal}
use Rattle.refusal.specs.Refusal.{number_of}
use Rattle.refusal.proofs.Laws.{some_number}
use Rattle.word.specs.Word.{bit, wrapped}
use Rattle.address.specs.Address.{linked, moved}
use Rattle.flags.specs.declared.Flags.{Flags}
use Rattle.waiting.specs.declared.Waiting.{Waiting}
use Rattle.setup.specs.declared.Setup.{Setup}
use Rattle.memory.specs.Memory.{loaded}
use Rattle.transfer.specs.declared.Alignment.TheVariants.{Byte}
use Rattle.transfer.specs.Transfer.{access_refusal, entry_width, entry_address, table_target}
use Rattle.record.specs.Op.{is_bl, is_blx}
use Rattle.record.specs.declared.BranchFields.{BranchFields}
use Rattle.record.specs.declared.RegisterBranchFields.{RegisterBranchFields}
use Rattle.record.specs.declared.CompareBranchFields.{CompareBranchFields}
use Rattle.record.specs.declared.TableBranchFields.{TableBranchFields}
use Rattle.record.specs.declared.Record.TheVariants.{Branch, RegisterBranch, CompareBranch, TableBranch}
use Rattle.flow.specs.Flow.{target, way, traits}
use Rattle.machine.specs.declared.Machine.{Machine}
use Rattle.machine.specs.Machine.{PC, LR, kept, held, operand_value, written, done, refused, settled, landed, keeping}
use Rattle.machine.specs.Branch.{linking, direct_target, branches, branch_effect, register_branch_effect, compare_branch_effect, table_branch_effect}
use Rattle.machine.specs.Step.{effect}
use Rattle.lent.specs.Lent.{assembled, put_in, operand_in, steady_in, Settled, came}
use Rattle.lent.proofs.Laws.{settled_so}
use Rattle.branch_arms.specs.Link.{link_in}

-- ---- R13 is as it was after a link and a branch
link_steady : (x : List ℕ) (links : Bool) (a b k : ℕ)
    → steady_in (set (if links then set (set x 15 a) 14 b else set x 15 a) 15 k) ≡ steady_in x
link_steady x true a b k =
    rw (get_or-set_other (set (set x 15 a) 14 b) 15 13 k 0 (λ e. omega arith), get_or-set_other (set x 15 a) 14 13 b 0 (λ e. omega arith), get_or-set_other x 15 13 a 0 (λ e. omega arith))
link_steady x false a b k =
    rw (get_or-set_other (set x 15 a) 15 13 k 0 (λ e. omega arith), get_or-set_other x 15 13 a 0 (λ e. omega arith))

pub link_told : (e : List ℕ) (ahead : ℕ) (links : Bool) (to : ℕ) → steady_in (put_in (link_in e ahead links) PC to) ≡ steady_in e
link_told e ahead links to = link_steady e links (kept PC ahead) (kept LR (linked (get_or (put_in e PC ahead) PC 0))) (kept PC to)

linking_parts : (x : List ℕ) (f : Flags) (v : Waiting) (links : Bool)
    → linking (assembled x f v) links ≡ assembled (if links then put_in x LR (linked (get_or x PC 0)) else x) f v
unfolding linking written held
linking_parts x f v true = refl
linking_parts x f v false = refl

-- ---- what each kind does: e are the registers before
module _ (e : List ℕ) (f : Flags) (w v : Waiting) (ahead : ℕ) (bytes : List ℕ) (setup : Setup) where
  abbrev m : Machine
  m = assembled e f w

  abbrev next : Machine
  next = assembled (put_in e PC ahead) f v

  pub branch_parts : (d : BranchFields) (x : List ℕ)
      → x ≡ put_in (link_in e ahead (is_bl d.op)) PC (moved ((get_or e PC 0 + 4) % 2 ^ 32) d.offset)
      → keeping (came 0 x f w v) bytes ≡ effect m next (Branch d) bytes setup
  unfolding effect branch_effect direct_target target way traits done held written
  branch_parts d x h = rw (h, linking_parts (put_in e PC ahead) f v (is_bl d.op))

  pub register_parts : (d : RegisterBranchFields)
      → let to = operand_in e d.rm in
      effect m next (RegisterBranch d) bytes setup
      ≡ keeping (if bit 0 to then settled m (assembled (put_in (link_in e ahead (is_blx d.op)) PC to) f v) else refused 7 m) bytes
  unfolding effect register_branch_effect landed operand_value held written
  register_parts d = rw (linking_parts (put_in e PC ahead) f v (is_blx d.op))

  module _ (d : RegisterBranchFields) (to : ℕ) (held_there : to ≡ operand_in e d.rm) where
    pub register_goes : (links : Bool) → links ≡ is_blx d.op → bit 0 to ≡ true
        → (x : List ℕ) (a : Result Unit Refusal) → Settled e (put_in (link_in e ahead links) PC to) x a
        → keeping (came (number_of a) x f w v) bytes ≡ effect m next (RegisterBranch d) bytes setup
    unfolding effect register_branch_effect landed operand_value held written
    register_goes links l odd x a s =
        rw (linking_parts (put_in e PC ahead) f v (is_blx d.op), ← held_there, odd, ← l)
        (ap (λ k. keeping k bytes) (settled_so e (put_in (link_in e ahead links) PC to) x a s f w v))

    pub register_lost : bit 0 to ≡ false → keeping (came 7 e f w v) bytes ≡ effect m next (RegisterBranch d) bytes setup
    unfolding effect register_branch_effect landed operand_value held written refused
    register_lost even = rw (← held_there, even)

  pub compare_goes : (d : CompareBranchFields) (x : List ℕ) → branches d.op (get_or e d.rn 0) ≡ true
      → x ≡ put_in e PC (((get_or e PC 0 + 4) % 2 ^ 32 + d.offset) % 2 ^ 32)
      → keeping (came 0 x f w v) bytes ≡ effect m next (CompareBranch d) bytes setup
  unfolding effect compare_branch_effect direct_target target way traits moved wrapped done held written
  compare_goes d x t h =
      let to = ((get_or e PC 0 + 4) % 2 ^ 32 + d.offset) % 2 ^ 32 in
      rw (t, h, set-set e PC (kept PC ahead) (kept PC to))

  pub compare_stays : (d : CompareBranchFields) (x : List ℕ) → branches d.op (get_or e d.rn 0) ≡ false
      → x ≡ put_in e PC ahead
      → keeping (came 0 x f w v) bytes ≡ effect m next (CompareBranch d) bytes setup
  unfolding effect compare_branch_effect done held
  compare_stays d x t h = rw (t, h)

  pub table_parts : (d : TableBranchFields)
      → let at = entry_address d.op (operand_in e d.rn) (get_or e d.rm 0) in
      let refusal = access_refusal Byte (entry_width d.op) setup (length bytes) at in
      effect m next (TableBranch d) bytes setup
      ≡ keeping (if eqb refusal 0 then done (assembled (put_in e PC (table_target (get_or e PC 0) (loaded (entry_width d.op) setup bytes at))) f v) else refused refusal m) bytes
  unfolding effect table_branch_effect operand_value held written
  table_parts d =
      let at = entry_address d.op (operand_in e d.rn) (get_or e d.rm 0) in
      let to = table_target (get_or e PC 0) (loaded (entry_width d.op) setup bytes at) in
      rw (set-set e PC (kept PC ahead) (kept PC to))

  module _ (d : TableBranchFields) where
    abbrev at : ℕ
    at = entry_address d.op (operand_in e d.rn) (get_or e d.rm 0)

    -- the entry is asked for
    module _ (a : Result Unit Refusal) (asked : number_of a ≡ access_refusal Byte (entry_width d.op) setup (length bytes) at) where
      pub table_goes : (u : Unit) → a ≡ Ok u → (x : List ℕ)
          → x ≡ put_in e PC (table_target (get_or e PC 0) (loaded (entry_width d.op) setup bytes at))
          → keeping (came 0 x f w v) bytes ≡ effect m next (TableBranch d) bytes setup
      unfolding effect table_branch_effect operand_value held written done
      table_goes u t x h =
          let to = table_target (get_or e PC 0) (loaded (entry_width d.op) setup bytes at) in
          rw (← asked, t, h, set-set e PC (kept PC ahead) (kept PC to))

      pub table_stays : (k : Refusal) → a ≡ Err k → (q : Result Unit Refusal) → IsErrAnd q (λ e. e ≡ k)
          → keeping (came (number_of q) e f w v) bytes ≡ effect m next (TableBranch d) bytes setup
      unfolding effect table_branch_effect operand_value held written refused
      table_stays k t q on =
          let p = err_from_is_err_and q on in rw (p.1, p.2, ← asked, t, some_number k)
