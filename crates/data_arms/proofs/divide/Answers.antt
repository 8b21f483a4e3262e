use native.Mathlib.Omega.{arith}
use Rattle.kinds.specs.Kinds.{listing_length}
use Rattle.machine.specs.Machine.{held, operand_value, written}
use Rattle.machine.specs.Compute.{divide_effect}
use Rattle.machine.specs.Step.{effect}
use Rattle.lent.proofs.Laws.{long_as}
use Rattle.data_arms.proofs.Formed.{divide_is, divide_below}
use Rattle.data_arms.proofs.Laws.{obeys_so}
use Rattle.data_arms.proofs.divide.Goals as goal

pub first-requires : goal.first-requires
unfolding listing_length
first-requires c = long_as 9 c.args.r.now c.requires

pub operand-x-requires : goal.operand-x-requires
operand-x-requires c = omega (arith, divide_below _ _ c.requires _ c.first.ensures c.divide_from-d.ensures)

pub operand-y-requires : goal.operand-y-requires
operand-y-requires c = omega (arith, divide_below _ _ c.requires _ c.first.ensures c.divide_from-d.ensures)

pub settle-requires : goal.settle-requires
settle-requires c = omega (arith, divide_below _ _ c.requires _ c.first.ensures c.divide_from-d.ensures)

pub returns : goal.returns
unfolding effect divide_effect operand_value held written
returns c = obeys_so _ _ _ _ c.settle.ensures _ _ (λ f bytes setup w v. rw (divide_is _ _ c.requires _ c.first.ensures c.divide_from-d.ensures, c.divide-value.ensures, c.operand-y.ensures, c.operand-x.ensures))
