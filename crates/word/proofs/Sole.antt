-- A promise that equates the outcome with a definition allows one outcome.
use mathlib.Core.Path.{sym, ◌∙◌}
use Rattle.word.specs.Sole.{Sole}

pub one_outcome : {A : Type 0} (definition : A) → Sole definition
one_outcome definition first second a b = a ∙ sym b
