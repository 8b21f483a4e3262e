use Rattle.listing.proofs.Branches.{astray_by}
use Rattle.listing.proofs.branch.is_astray.Goals as goal

pub returns-in-Some : goal.returns-in-Some
returns-in-Some c =
    let a = c.args in
    rw c.in-Some.is at (astray_by _ c.requires a.w a.address.0 _ _ _ c.target-to.ensures c.in-Direct.is c.last_in_table.ensures)

pub returns-in-None : goal.returns-in-None
returns-in-None c =
    let a = c.args in
    rw c.in-None.is at (astray_by _ c.requires a.w a.address.0 _ _ _ c.target-to.ensures c.in-Direct.is c.last_in_table.ensures)
