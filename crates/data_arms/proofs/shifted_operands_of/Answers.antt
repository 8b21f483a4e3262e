use native.Mathlib.Omega.{arith}
use Rattle.kinds.specs.Kinds.{listing_length}
use Rattle.machine.specs.Machine.{held, operand_value}
use Rattle.machine.specs.Compute.{shifted_register_effect}
use Rattle.machine.specs.Step.{effect}
use Rattle.lent.proofs.Laws.{long_as}
use Rattle.data_arms.proofs.Formed.{shifted_register_is, shifted_register_below}
use Rattle.data_arms.proofs.shifted_operands_of.Goals as goal

pub first-requires : goal.first-requires
unfolding listing_length
first-requires c = long_as 1 c.args.r.now c.requires

pub operand-x-requires : goal.operand-x-requires
operand-x-requires c = omega (arith, shifted_register_below _ _ c.requires _ c.first.ensures c.shifted_register_from-d.ensures)

pub operand-rm-requires : goal.operand-rm-requires
operand-rm-requires c = omega (arith, shifted_register_below _ _ c.requires _ c.first.ensures c.shifted_register_from-d.ensures)

pub returns : goal.returns
unfolding effect shifted_register_effect operand_value held
returns c =
    record {
      rd_small = (shifted_register_below _ _ c.requires _ c.first.ensures c.shifted_register_from-d.ensures).0;
      means = λ w next bytes setup. rw (shifted_register_is _ _ c.requires _ c.first.ensures c.shifted_register_from-d.ensures, c.shifter_of-y.ensures, c.from.ensures, c.operand-rm.ensures, c.operand-x.ensures);
    }
