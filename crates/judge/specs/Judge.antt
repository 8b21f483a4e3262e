-- "The lowest number that applies" of 2, 3 and 4 to a record by itself, where so many conditions wait; 0: none of them.
use Rattle.std.specs.Prelude.{ℕ, Option, Some, None}
use Rattle.std.specs.Bool.{if◌then◌else◌}
use Rattle.record.specs.declared.Record.{Record}
use Rattle.restricted.specs.Restricted.{allowed}
use Rattle.flow.specs.Flow.{misplaced}

unfoldable pub refusal : Record → ℕ → ℕ
refusal r waiting = if allowed r then (if misplaced r waiting then 4 else 0) else 3

unfoldable pub judged : Option Record → ℕ → ℕ
judged (Some r) waiting = refusal r waiting
judged None waiting = 2
