use Rattle.kinds.specs.Kinds.{listing_length}
use Rattle.machine.specs.Access.{indexed_access_effect}
use Rattle.machine.specs.Machine.{base_value, operand_value, held}
use Rattle.machine.specs.Step.{effect}
use Rattle.lent.proofs.Laws.{long_as}
use Rattle.access_arms.proofs.Formed.{indexed_is, indexed_below}
use Rattle.access_arms.proofs.indexed_reach_of.Goals as goal

pub first-requires : goal.first-requires
unfolding listing_length
first-requires c = long_as 14 c.args.r.now c.requires

pub operand-requires : goal.operand-requires
operand-requires c = (indexed_below _ _ c.requires _ c.first.ensures c.indexed_access_from-d.ensures).2

pub base-requires : goal.base-requires
base-requires c = (indexed_below _ _ c.requires _ c.first.ensures c.indexed_access_from-d.ensures).1

pub invariant_of-result : goal.invariant_of-result
invariant_of-result c = record { rt_small = (indexed_below _ _ c.requires _ c.first.ensures c.indexed_access_from-d.ensures).0 }

pub returns : goal.returns
unfolding effect indexed_access_effect base_value operand_value held
returns c =
    record {
      means = λ f w next bytes setup. rw (
        indexed_is _ _ c.requires _ c.first.ensures c.indexed_access_from-d.ensures,
        c.base.ensures,
        c.lsl-offset.ensures,
        c.from.ensures,
        c.operand.ensures,
      );
    }
