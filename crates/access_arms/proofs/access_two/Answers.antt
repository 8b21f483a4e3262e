use Rattle.std.proofs.Common.{to_z-of_z, w16, rules}
use Rattle.kinds.specs.Kinds.{listing_length}
use Rattle.machine.specs.Access.{dual_access_effect}
use Rattle.machine.specs.Machine.{base_value, operand_value, held}
use Rattle.machine.specs.Step.{effect}
use Rattle.lent.proofs.Laws.{long_as}
use Rattle.access_arms.proofs.Formed.{dual_is, dual_below}
use Rattle.access_arms.proofs.Laws.{granted, declined}
use Rattle.access_arms.proofs.access_two.Goals as goal

pub first-requires : goal.first-requires
unfolding listing_length
first-requires c = long_as 15 c.args.r.now c.requires

pub base-from-requires : goal.base-from-requires
base-from-requires c = (dual_below _ _ c.requires _ c.first.ensures c.dual_access_from-d.ensures).0

pub make_two-requires : goal.make_two-requires
make_two-requires c = dual_below _ _ c.requires _ c.first.ensures c.dual_access_from-d.ensures

pub returns-in_err-refusal_of : goal.returns-in_err-refusal_of
unfolding effect dual_access_effect base_value operand_value held
returns-in_err-refusal_of c =
    λ f w v. let moves = rw (to_z-of_z {w = w16} {z = c.dual_access_from-d.result.offset} (record { sfits = search rules })) at c.moved_by-to.ensures in
    rw (dual_is _ _ c.requires _ c.first.ensures c.dual_access_from-d.ensures, ← c.base-from.ensures, ← moves, ← c.reached_of-address.ensures)
    (declined _ _ c.refusal_of.ensures _ c.in_err-refusal_of.was _ c.from_residual.ensures.1 _ _ f w v _)

pub returns : goal.returns
unfolding effect dual_access_effect base_value operand_value held
returns c =
    λ f w v. let moves = rw (to_z-of_z {w = w16} {z = c.dual_access_from-d.result.offset} (record { sfits = search rules })) at c.moved_by-to.ensures in
    rw (dual_is _ _ c.requires _ c.first.ensures c.dual_access_from-d.ensures, ← c.base-from.ensures, ← moves, ← c.reached_of-address.ensures)
    (granted _ _ c.refusal_of.ensures _ c.in_ok-refusal_of.was _ _ _ (c.make_two.ensures f w v))
