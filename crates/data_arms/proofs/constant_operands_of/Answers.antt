use native.Mathlib.Omega.{arith}
use Rattle.kinds.specs.Kinds.{listing_length}
use Rattle.machine.specs.Machine.{held, operand_value}
use Rattle.machine.specs.Compute.{constant_effect}
use Rattle.machine.specs.Step.{effect}
use Rattle.lent.proofs.Laws.{long_as}
use Rattle.data_arms.proofs.Formed.{constant_is, constant_below}
use Rattle.data_arms.proofs.constant_operands_of.Goals as goal

pub first-requires : goal.first-requires
unfolding listing_length
first-requires c = long_as 2 c.args.r.now c.requires

pub operand-x-requires : goal.operand-x-requires
operand-x-requires c = omega (arith, constant_below _ _ c.requires _ c.first.ensures c.constant_from-d.ensures)

pub returns : goal.returns
unfolding effect constant_effect operand_value held
returns c =
    record {
      rd_small = (constant_below _ _ c.requires _ c.first.ensures c.constant_from-d.ensures).0;
      means = λ w next bytes setup. rw (constant_is _ _ c.requires _ c.first.ensures c.constant_from-d.ensures, c.constant_operand_of-y.ensures, c.operand-x.ensures);
    }
