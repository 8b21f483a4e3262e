use native.Mathlib.Omega.{arith}
use Rattle.kinds.specs.Kinds.{listing_length}
use Rattle.machine.specs.Machine.{held, operand_value, written}
use Rattle.machine.specs.Compute.{extend_effect}
use Rattle.machine.specs.Step.{effect}
use Rattle.lent.proofs.Laws.{long_as}
use Rattle.data_arms.proofs.Formed.{extend_is, extend_below}
use Rattle.data_arms.proofs.Laws.{obeys_so}
use Rattle.data_arms.proofs.extend.Goals as goal

pub first-requires : goal.first-requires
unfolding listing_length
first-requires c = long_as 12 c.args.r.now c.requires

pub operand-requires : goal.operand-requires
operand-requires c = omega (arith, extend_below _ _ c.requires _ c.first.ensures c.extend_from-d.ensures)

pub settle-requires : goal.settle-requires
settle-requires c = omega (arith, extend_below _ _ c.requires _ c.first.ensures c.extend_from-d.ensures)

pub returns : goal.returns
unfolding effect extend_effect operand_value held written
returns c = obeys_so _ _ _ _ c.settle.ensures _ _ (λ f bytes setup w v. rw (extend_is _ _ c.requires _ c.first.ensures c.extend_from-d.ensures, c.extend-value.ensures, c.from.ensures, c.operand.ensures))
