-- For the code of a run: the registers at the next record, with a link behind them.
use Rattle.std.specs.Prelude.{ℕ, Bool, List, slice_index}
use Rattle.std.specs.Bool.{if◌then◌else◌}
use Rattle.address.specs.Address.{linked}
use Rattle.machine.specs.Machine.{PC, LR}
use Rattle.lent.specs.Lent.{put_in}

-- at the next record, with R14 behind it where the record links
abbrev pub link_in : List ℕ → ℕ → Bool → List ℕ
link_in registers ahead links =
    let x = put_in registers PC ahead in if links then put_in x LR (linked (slice_index x PC)) else x
