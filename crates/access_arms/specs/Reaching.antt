-- For the code: where an access of kinds 0D and 0E reaches, which one function then makes for both; registers with a base written back,
-- and with a list loaded.
use Rattle.std.specs.Prelude.{◌≡◌, ℕ, zero, suc, ◌≤◌, Bool, ◌&&◌, List, Option, None, Some}
use Rattle.std.specs.Bool.{if◌then◌else◌}
use Rattle.word.specs.Word.{bit}
use Rattle.little.specs.Little.{byte}
use Rattle.flags.specs.declared.Flags.{Flags}
use Rattle.waiting.specs.declared.Waiting.{Waiting}
use Rattle.kinds.specs.Kinds.{record_of}
use Rattle.register_list.specs.List.{member}
use Rattle.setup.specs.declared.Setup.{Setup}
use Rattle.memory.specs.Memory.{loaded}
use Rattle.transfer.specs.Transfer.{slot}
use Rattle.machine.specs.declared.Machine.{Machine}
use Rattle.machine.specs.Machine.{PC, written}
use Rattle.machine.specs.Access.{access_done}
use Rattle.machine.specs.Step.{effect}
use Rattle.lent.specs.Lent.{assembled, put_in, steady_in, Formed}
use Rattle.access_arms.specs.declared.reach.Back.{Back}
use Rattle.access_arms.specs.declared.reach.Reach.{Reach}

-- a record of one of the two kinds
pub record Accesses (r : List ℕ) : Type 0 where
  pub least : 13 ≤ byte r 0
  pub most : byte r 0 ≤ 14
  pub sound : Formed r

-- the base written back, where one is
abbrev pub backed : Machine → Option Back → Machine
backed next None = next
backed next (Some b) = written next b.rn b.to

-- the same of registers, at the next record
abbrev pub back_in : List ℕ → ℕ → Option Back → List ℕ
back_in registers ahead None = put_in registers PC ahead
back_in registers ahead (Some b) = put_in (put_in registers PC ahead) b.rn b.to

-- where the record reaches: it does what `access_done` says of it
pub record Reaches (registers : List ℕ) (r : List ℕ) (d : Reach) : Type 0 where
  pub means : (f : Flags) (w : Waiting) (next : Machine) (bytes : List ℕ) (setup : Setup)
      → let m = assembled registers f w in
      effect m next (record_of r) bytes setup
      ≡ access_done m (backed next d.back) d.op d.rt d.address bytes setup

-- registers with those of a list below r loaded, as `list_loaded` has it
unfoldable pub loaded_in : ℕ → List ℕ → ℕ → ℕ → List ℕ → Setup → List ℕ
loaded_in zero registers list low bytes setup = registers
loaded_in (suc r) registers list low bytes setup =
    let rest = loaded_in r registers list low bytes setup in
    if member list r then put_in rest r (loaded 4 setup bytes (slot list low r)) else rest

-- a list was loaded, and it is told whether the machine may go on there
pub record Arrives (before : List ℕ) (list low : ℕ) (bytes : List ℕ) (setup : Setup) (after : List ℕ) (r : Bool) : Type 0 where
  pub left : after ≡ loaded_in 16 before list low bytes setup
  pub told : r ≡ (if member list PC then bit 0 (loaded 4 setup bytes (slot list low PC)) && steady_in after else steady_in after)
