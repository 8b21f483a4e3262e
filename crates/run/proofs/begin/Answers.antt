use mathlib.Core.Path.{ap, ◌∙◌}
use Rattle.run.specs.Place.{halt}
use Rattle.run.proofs.Rounds.{proceeded_fresh}
use Rattle.run.proofs.begin.Goals as goal

pub returns : goal.returns
returns c = c.proceed.ensures ∙ ap halt (proceeded_fresh _ _ _)
