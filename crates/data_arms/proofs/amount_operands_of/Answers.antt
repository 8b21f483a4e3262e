use native.Mathlib.Omega.{arith}
use Rattle.kinds.specs.Kinds.{listing_length}
use Rattle.machine.specs.Machine.{held, operand_value}
use Rattle.machine.specs.Compute.{register_shift_effect, register_amount}
use Rattle.machine.specs.Step.{effect}
use Rattle.lent.proofs.Laws.{long_as}
use Rattle.data_arms.proofs.Formed.{register_shift_is, register_shift_below}
use Rattle.data_arms.proofs.amount_operands_of.Goals as goal

pub first-requires : goal.first-requires
unfolding listing_length
first-requires c = long_as 3 c.args.r.now c.requires

pub operand-amount-requires : goal.operand-amount-requires
operand-amount-requires c = omega (arith, register_shift_below _ _ c.requires _ c.first.ensures c.register_shift_from-d.ensures)

pub operand-rn-requires : goal.operand-rn-requires
operand-rn-requires c = omega (arith, register_shift_below _ _ c.requires _ c.first.ensures c.register_shift_from-d.ensures)

pub returns : goal.returns
unfolding effect register_shift_effect register_amount operand_value held
returns c =
    record {
      rd_small = (register_shift_below _ _ c.requires _ c.first.ensures c.register_shift_from-d.ensures).0;
      means = λ w next bytes setup. rw (register_shift_is _ _ c.requires _ c.first.ensures c.register_shift_from-d.ensures, c.shifter_of-y.ensures, c.operand-rn.ensures, c.operand-amount.ensures);
    }
