use lib.Bits.{and_mask}
use mir.Syntax.{w16, w32}
use mir.Facts.{to_z-of_z, sfits_widen}
use Rattle.word.proofs.Integers.{wrapped_low}
use Rattle.fields.proofs.parts.dual_offset_of.Goals as goal

pub overflow_cast-offset : goal.overflow_cast-offset
overflow_cast-offset c = rw (to_z-of_z c.ranges.offset) (sfits_widen tt c.ranges.offset)

pub returns : goal.returns
returns c =
    let f = c.ranges.offset in
    let wide = to_z-of_z (sfits_widen {w = w16} {w' = w32} tt f) in
    rw (and_mask c.unsigned_of.result 2, c.unsigned_of.ensures, to_z-of_z f, wide, wrapped_low 30 2 c.args.offset)
