use mathlib.Core.Path.{ap, ◌∙◌}
use Rattle.run.proofs.Rounds.{ending_of, outcome_fresh}
use Rattle.run.proofs.run.Goals as goal

pub returns : goal.returns
returns c = ap ending_of c.begin-halted.ensures ∙ outcome_fresh _ _ _
