use mathlib.Core.Path.{◌∙◌}
use Rattle.quotient.proofs.Laws.{quotient_or_zero}
use Rattle.quotient.proofs.udiv.Goals as goal

pub returns : goal.returns
returns c = c.unwrap_or.ensures ∙ quotient_or_zero c.checked_div.result c.args.x c.args.y c.checked_div.ensures
