use Rattle.kinds.specs.Kinds.{listing_length}
use Rattle.machine.specs.Access.{multiple_access_effect}
use Rattle.machine.specs.Machine.{held}
use Rattle.machine.specs.Step.{effect}
use Rattle.lent.proofs.Laws.{long_as}
use Rattle.access_arms.proofs.Formed.{multiple_is, multiple_below}
use Rattle.access_arms.proofs.Laws.{granted, declined}
use Rattle.access_arms.proofs.many.access_many.Goals as goal

pub first-requires : goal.first-requires
unfolding listing_length
first-requires c = long_as 16 c.args.r.now c.requires

pub read-from-requires : goal.read-from-requires
read-from-requires c = multiple_below _ _ c.requires _ c.first.ensures c.multiple_access_from-d.ensures

pub make_many-requires : goal.make_many-requires
make_many-requires c = multiple_below _ _ c.requires _ c.first.ensures c.multiple_access_from-d.ensures

pub returns-in_err-refusal_of : goal.returns-in_err-refusal_of
unfolding effect multiple_access_effect held
returns-in_err-refusal_of c =
    λ f w v. rw (
      multiple_is _ _ c.requires _ c.first.ensures c.multiple_access_from-d.ensures,
      ← c.read-from.ensures,
      ← c.list_size_of-size.ensures,
      ← c.lowest_address_of-low.ensures,
    ) (declined _ _ c.refusal_of.ensures _ c.in_err-refusal_of.was _ c.from_residual.ensures.1 _ _ f w v _)

pub returns : goal.returns
unfolding effect multiple_access_effect held
returns c =
    λ f w v. rw (
      multiple_is _ _ c.requires _ c.first.ensures c.multiple_access_from-d.ensures,
      ← c.read-from.ensures,
      ← c.list_size_of-size.ensures,
      ← c.lowest_address_of-low.ensures,
      ← c.new_base_of-to.ensures,
    ) (granted _ _ c.refusal_of.ensures _ c.in_ok-refusal_of.was _ _ _ (c.make_many.ensures f w v))
