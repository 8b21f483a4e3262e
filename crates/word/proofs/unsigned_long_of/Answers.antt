use mathlib.Core.Path.{ap, ◌∙◌}
use mir.Facts.{to_z-of_z}
use mir.Syntax.{w64}
use mir.Val.{of_z}
use Rattle.word.proofs.Integers.{wrapped_bits}
use Rattle.word.proofs.unsigned_long_of.Goals as goal

pub returns : goal.returns
returns c =
    let f = c.ranges.long in
    c.cast_unsigned.ensures ∙ ap (of_z w64) (to_z-of_z f) ∙ wrapped_bits c.args.long f
