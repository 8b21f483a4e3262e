-- The registers that a record writes; and what every such write keeps, the machine that a record makes has too.
use Prim.Native.Nat.{ℕ, zero, suc}
use mathlib.Core.Bool.{Bool, true, false}
use mathlib.Core.List.{List}
use mathlib.Core.Path.{◌≡◌}
use lib.Dec.{ltb}
use Rattle.word.proofs.Cases.{chosen}
use Rattle.flags.specs.declared.Flags.{Flags}
use Rattle.shift.specs.declared.Shifted.{Shifted}
use Rattle.setup.specs.declared.Setup.{Setup}
use Rattle.register_list.specs.List.{member}
use Rattle.record.specs.Op.{data_code, loads, loads_many, is_offset}
use Rattle.record.specs.declared.op.DataOp.{DataOp}
use Rattle.record.specs.declared.op.Mode.{Mode}
use Rattle.record.specs.declared.Record.{Record}
use Rattle.record.specs.declared.Record.TheVariants.{ShiftedRegister, Constant, RegisterShift, AddNumber, MoveNumber, Unary, Multiply, LongMultiply, Divide, Saturate, BitField, Extend, Access, IndexedAccess, DualAccess, MultipleAccess, Branch, RegisterBranch, CompareBranch, IfThen, Nop, TableBranch, Filler}
use Rattle.machine.specs.declared.Machine.{Machine}
use Rattle.machine.specs.Machine.{LR, PC, written, with_flags}
use Rattle.machine.specs.Compute.{flagged, resulting, data_done}
use Rattle.machine.specs.Access.{based, list_loaded}
use Rattle.machine.specs.Branch.{linking, direct_target}

-- W holds of each register that a record may write, with the value: the target for R15 by a direct branch, else any
abbrev pub Each : Machine → (ℕ → ℕ → Type 0) → Record → Type 0
Each m W (ShiftedRegister d) = ltb (data_code d.op) 12 ≡ true → (v : ℕ) → W d.rd v
Each m W (Constant d) = ltb (data_code d.op) 12 ≡ true → (v : ℕ) → W d.rd v
Each m W (RegisterShift d) = (v : ℕ) → W d.rd v
Each m W (AddNumber d) = (v : ℕ) → W d.rd v
Each m W (MoveNumber d) = (v : ℕ) → W d.rd v
Each m W (Unary d) = (v : ℕ) → W d.rd v
Each m W (Multiply d) = (v : ℕ) → W d.rd v
Each m W (LongMultiply d) = ((v : ℕ) → W d.low v) × ((v : ℕ) → W d.high v)
Each m W (Divide d) = (v : ℕ) → W d.rd v
Each m W (Saturate d) = (v : ℕ) → W d.rd v
Each m W (BitField d) = (v : ℕ) → W d.rd v
Each m W (Extend d) = (v : ℕ) → W d.rd v
Each m W (Access d) = (loads d.op ≡ true → (v : ℕ) → W d.rt v) × (is_offset d.mode ≡ false → (v : ℕ) → W d.rn v)
Each m W (IndexedAccess d) = loads d.op ≡ true → (v : ℕ) → W d.rt v
Each m W (DualAccess d) =
    ((v : ℕ) → W d.rt v) × ((v : ℕ) → W d.rt2 v) × (is_offset d.mode ≡ false → (v : ℕ) → W d.rn v)
Each m W (MultipleAccess d) =
    (loads_many d.op ≡ true → (k : ℕ) → member d.list k ≡ true → (v : ℕ) → W k v)
    × (d.writeback ≡ true → (v : ℕ) → W d.rn v)
Each m W (Branch d) = ((v : ℕ) → W LR v) × W PC (direct_target m (Branch d))
Each m W (RegisterBranch d) = ((v : ℕ) → W LR v) × ((v : ℕ) → W PC v)
Each m W (CompareBranch d) = W PC (direct_target m (CompareBranch d))
Each m W (IfThen d) = Unit {0}
Each m W (Nop form) = Unit {0}
Each m W (TableBranch d) = (v : ℕ) → W PC v
Each m W (Filler number) = Unit {0}

-- what holds of every register and value
pub each : (m : Machine) (W : ℕ → ℕ → Type 0) → ((k v : ℕ) → W k v) → (r : Record) → Each m W r
each m W w (ShiftedRegister d) = λ e v. w _ v
each m W w (Constant d) = λ e v. w _ v
each m W w (RegisterShift d) = λ v. w _ v
each m W w (AddNumber d) = λ v. w _ v
each m W w (MoveNumber d) = λ v. w _ v
each m W w (Unary d) = λ v. w _ v
each m W w (Multiply d) = λ v. w _ v
each m W w (LongMultiply d) = (λ v. w _ v, λ v. w _ v)
each m W w (Divide d) = λ v. w _ v
each m W w (Saturate d) = λ v. w _ v
each m W w (BitField d) = λ v. w _ v
each m W w (Extend d) = λ v. w _ v
each m W w (Access d) = (λ e v. w _ v, λ e v. w _ v)
each m W w (IndexedAccess d) = λ e v. w _ v
each m W w (DualAccess d) = (λ v. w _ v, λ v. w _ v, λ e v. w _ v)
each m W w (MultipleAccess d) = (λ e k i v. w _ v, λ e v. w _ v)
each m W w (Branch d) = (λ v. w _ v, w _ _)
each m W w (RegisterBranch d) = (λ v. w _ v, λ v. w _ v)
each m W w (CompareBranch d) = w _ _
each m W w (IfThen d) = tt
each m W w (Nop form) = tt
each m W w (TableBranch d) = λ v. w _ v
each m W w (Filler number) = tt

-- Q is kept by each write of which W holds, and by a change of flags
pub record Kept (Q : Machine → Type 0) (W : ℕ → ℕ → Type 0) : Type 0 where
  pub write : (x : Machine) (k v : ℕ) → W k v → Q x → Q (written x k v)
  pub flag : (x : Machine) (f : Flags) → Q x → Q (with_flags x f)

module _ (Q : Machine → Type 0) (W : ℕ → ℕ → Type 0) (keeps : Kept Q W) where
  pub data_kept : (m next : Machine) (op : DataOp) (s : Bool) (rd x : ℕ) (y : Shifted)
      → (ltb (data_code op) 12 ≡ true → (v : ℕ) → W rd v) → Q next → Q (data_done m next op s rd x y)
  unfolding data_done flagged resulting
  data_kept m next op s rd x y w q =
      let to = chosen Q (ltb (data_code op) 12) _ _ (λ e. keeps.write next rd _ (w e _) q) (λ e. q) in
      chosen Q s _ _ (λ e. keeps.flag _ _ to) (λ e. to)

  pub based_kept : (next : Machine) (mode : Mode) (rn to : ℕ) → (is_offset mode ≡ false → (v : ℕ) → W rn v) → Q next → Q (based next mode rn to)
  unfolding based
  based_kept next mode rn to w q = chosen Q (is_offset mode) _ _ (λ e. q) (λ e. keeps.write next rn to (w e to) q)

  pub list_kept : (n : ℕ) (back : Machine) (list low : ℕ) (bytes : List ℕ) (setup : Setup)
      → ((k : ℕ) → member list k ≡ true → (v : ℕ) → W k v) → Q back → Q (list_loaded n back list low bytes setup)
  unfolding list_loaded
  list_kept zero back list low bytes setup w q = q
  list_kept (suc n) back list low bytes setup w q =
      let rest = list_kept n back list low bytes setup w q in
      chosen Q (member list n) _ _ (λ e. keeps.write _ n _ (w n e _) rest) (λ e. rest)

  pub linking_kept : (next : Machine) (links : Bool) → ((v : ℕ) → W LR v) → Q next → Q (linking next links)
  unfolding linking
  linking_kept next links w q = chosen Q links _ _ (λ e. keeps.write next LR _ (w _) q) (λ e. q)
