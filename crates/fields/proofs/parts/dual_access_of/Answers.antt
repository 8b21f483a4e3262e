use mir.Syntax.{w16}
use mir.Facts.{to_z-of_z}
use Rattle.fields.proofs.parts.dual_access_of.Goals as goal

pub returns : goal.returns
returns c =
    let z = c.args.d.offset in
    rw (c.dual_offset_of.ensures, to_z-of_z {w = w16} {z = z} (record { sfits = c.struct_told-1.given.1.1.1.1.1.1.0.1 }))
