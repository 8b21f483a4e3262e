use mathlib.Core.Path.{ap, ◌∙◌}
use Rattle.run.specs.Place.{halt}
use Rattle.run.proofs.Rounds.{proceeded_resumed}
use Rattle.run.proofs.resume.Goals as goal

pub returns : goal.returns
returns c = c.proceed.ensures ∙ ap halt (proceeded_resumed _ _ _ _)
