use native.Mathlib.Omega.{arith}
use Rattle.kinds.specs.Kinds.{listing_length}
use Rattle.machine.specs.Machine.{held, operand_value, written}
use Rattle.machine.specs.Compute.{move_number_effect}
use Rattle.machine.specs.Step.{effect}
use Rattle.lent.proofs.Laws.{long_as}
use Rattle.data_arms.proofs.Formed.{move_number_is, move_number_below}
use Rattle.data_arms.proofs.Laws.{obeys_so}
use Rattle.data_arms.proofs.move_a_number.Goals as goal

pub first-requires : goal.first-requires
unfolding listing_length
first-requires c = long_as 5 c.args.r.now c.requires

pub operand-requires : goal.operand-requires
operand-requires c = omega (arith, move_number_below _ _ c.requires _ c.first.ensures c.move_number_from-d.ensures)

pub settle-requires : goal.settle-requires
settle-requires c = omega (arith, move_number_below _ _ c.requires _ c.first.ensures c.move_number_from-d.ensures)

pub returns : goal.returns
unfolding effect move_number_effect operand_value held written
returns c = obeys_so _ _ _ _ c.settle.ensures _ _ (λ f bytes setup w v. rw (move_number_is _ _ c.requires _ c.first.ensures c.move_number_from-d.ensures, c.place_number-value.ensures, c.operand.ensures))
