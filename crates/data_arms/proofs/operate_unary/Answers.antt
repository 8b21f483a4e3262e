use native.Mathlib.Omega.{arith}
use Rattle.kinds.specs.Kinds.{listing_length}
use Rattle.machine.specs.Machine.{held, operand_value, written}
use Rattle.machine.specs.Compute.{unary_effect}
use Rattle.machine.specs.Step.{effect}
use Rattle.lent.proofs.Laws.{long_as}
use Rattle.data_arms.proofs.Formed.{unary_is, unary_below}
use Rattle.data_arms.proofs.Laws.{obeys_so}
use Rattle.data_arms.proofs.operate_unary.Goals as goal

pub first-requires : goal.first-requires
unfolding listing_length
first-requires c = long_as 6 c.args.r.now c.requires

pub operand-requires : goal.operand-requires
operand-requires c = omega (arith, unary_below _ _ c.requires _ c.first.ensures c.unary_from-d.ensures)

pub settle-requires : goal.settle-requires
settle-requires c = omega (arith, unary_below _ _ c.requires _ c.first.ensures c.unary_from-d.ensures)

pub returns : goal.returns
unfolding effect unary_effect operand_value held written
returns c = obeys_so _ _ _ _ c.settle.ensures _ _ (λ f bytes setup w v. rw (unary_is _ _ c.requires _ c.first.ensures c.unary_from-d.ensures, c.unary-value.ensures, c.operand.ensures))
