use Rattle.std.proofs.Common.{to_z-of_z, w16, rules}
use Rattle.kinds.specs.Kinds.{listing_length}
use Rattle.machine.specs.Access.{access_effect, based}
use Rattle.machine.specs.Machine.{base_value, operand_value, held}
use Rattle.machine.specs.Step.{effect}
use Rattle.lent.proofs.Laws.{long_as}
use Rattle.access_arms.proofs.Formed.{access_is, access_below}
use Rattle.access_arms.proofs.Laws.{backed_unless}
use Rattle.access_arms.proofs.offset_reach_of.Goals as goal

pub first-requires : goal.first-requires
unfolding listing_length
first-requires c = long_as 13 c.args.r.now c.requires

pub base-from-requires : goal.base-from-requires
base-from-requires c = (access_below _ _ c.requires _ c.first.ensures c.access_from-d.ensures).1

pub invariant_of-base : goal.invariant_of-base
invariant_of-base c = record { rn_small = (access_below _ _ c.requires _ c.first.ensures c.access_from-d.ensures).1 }

pub invariant_of-result : goal.invariant_of-result
invariant_of-result c = record { rt_small = (access_below _ _ c.requires _ c.first.ensures c.access_from-d.ensures).0 }

pub returns : goal.returns
unfolding effect access_effect based base_value operand_value held
returns c =
    record {
      means = λ f w next bytes setup. rw (
        access_is _ _ c.requires _ c.first.ensures c.access_from-d.ensures,
        c.reached_of.ensures,
        ← backed_unless c.is_offset.result _ _ c.then_some.ensures next,
        c.is_offset.ensures,
        c.moved_by-to.ensures,
        to_z-of_z {w = w16} {z = c.access_from-d.result.offset} (record { sfits = search rules }),
        c.base-from.ensures,
      );
    }
