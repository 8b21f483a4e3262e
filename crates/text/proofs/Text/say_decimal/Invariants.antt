use mathlib.Core.Path.{◌≡◌}
use mathlib.Core.List.{◌++◌}
use lib.ListN.{length, drop}
use Rattle.text.specs.Text.{decimal, decimal_within}
use Rattle.text.proofs.Text.say_decimal.Given as goal

abbrev pub invariant-loop-at : goal.invariant-loop-at
invariant-loop-at l = (length l.digits ≡ 10) × (decimal_within l.at l.rest ++ drop l.at l.digits ≡ decimal l.number)
