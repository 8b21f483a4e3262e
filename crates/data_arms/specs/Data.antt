-- For the code: what kinds 01, 02 and 03 operate on, which one function then does for all three.
use Rattle.std.specs.Prelude.{ℕ, ◌<◌, ◌≤◌, List, ◌≡◌}
use Rattle.little.specs.Little.{byte}
use Rattle.flags.specs.declared.Flags.{Flags}
use Rattle.waiting.specs.declared.Waiting.{Waiting}
use Rattle.kinds.specs.Kinds.{record_of}
use Rattle.setup.specs.declared.Setup.{Setup}
use Rattle.machine.specs.declared.Machine.{Machine}
use Rattle.machine.specs.Machine.{settled, keeping}
use Rattle.machine.specs.Compute.{data_done}
use Rattle.machine.specs.Step.{effect}
use Rattle.lent.specs.Lent.{assembled, Formed}
use Rattle.data_arms.specs.declared.Operands.{Operands}

-- a record of one of the three kinds
pub record Operates (r : List ℕ) : Type 0 where
  pub least : 1 ≤ byte r 0
  pub most : byte r 0 ≤ 3
  pub sound : Formed r

-- the operands of a record: it does what `data_done` says of them
pub record Prepared (registers : List ℕ) (flags : Flags) (r : List ℕ) (o : Operands) : Type 0 where
  pub rd_small : o.rd < 16
  pub means : (w : Waiting) (next : Machine) (bytes : List ℕ) (setup : Setup)
      → let m = assembled registers flags w in
      effect m next (record_of r) bytes setup ≡ keeping (settled m (data_done m next o.op o.s o.rd o.x o.y)) bytes
