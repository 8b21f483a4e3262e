use native.Mathlib.Omega.{arith}
use mathlib.Core.Path.{◌∙◌}
use mir.Facts.{to_z-of_z}
use mir.Syntax.{w16}
use Rattle.word.proofs.Integers.{signed_bits}
use Rattle.word.proofs.signed_half_of.Goals as goal

pub returns : goal.returns
returns c =
    to_z-of_z {w = w16} (record { sfits = c.cast_signed.type_inv }) ∙ c.cast_signed.ensures
    ∙ signed_bits w16 c.args.half (omega arith)
