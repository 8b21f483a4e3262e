use Rattle.std.proofs.Common.{to_z-of_z, w32, rules}
use Rattle.kinds.specs.Kinds.{listing_length}
use Rattle.lent.proofs.Laws.{long_as}
use Rattle.branch_arms.proofs.Formed.{branch_is}
use Rattle.branch_arms.proofs.Laws.{branch_parts}
use Rattle.branch_arms.proofs.branch_off.Goals as goal

pub first-requires : goal.first-requires
unfolding listing_length
first-requires c = long_as 17 c.args.r.now c.requires

pub returns : goal.returns
returns c =
    λ f bytes setup w v. let a = c.args in
    rw (branch_is _ _ c.requires _ c.first.ensures c.branch_from-d.ensures)
    (branch_parts a.registers.now f w v a.ahead bytes setup c.branch_from-d.result _
    (rw (
      c.put.ensures,
      c.link.ensures,
      c.offset_by-to.ensures,
      to_z-of_z {w = w32} {z = c.branch_from-d.result.offset} (record { sfits = search rules }),
      c.read-near.ensures,
      c.is_bl.ensures,
    )))
