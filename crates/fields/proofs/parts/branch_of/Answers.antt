use lib.Bits.{and_mask}
use mir.Syntax.{w32}
use mir.Facts.{to_z-of_z}
use Rattle.word.proofs.Integers.{wrapped_low}
use Rattle.fields.proofs.parts.branch_of.Goals as goal

pub returns : goal.returns
returns c =
    let z = c.args.d.offset in
    let read = to_z-of_z {w = w32} {z = z} (record { sfits = c.struct_told-1.given.1.1.1.0.1 }) in
    rw (c.reach_of.ensures, and_mask c.unsigned_of.result 1, c.unsigned_of.ensures, read, wrapped_low 31 1 z)
