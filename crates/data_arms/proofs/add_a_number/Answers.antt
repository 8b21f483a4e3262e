use native.Mathlib.Omega.{arith}
use Rattle.kinds.specs.Kinds.{listing_length}
use Rattle.machine.specs.Machine.{held, base_value, operand_value, written}
use Rattle.machine.specs.Compute.{add_number_effect}
use Rattle.machine.specs.Step.{effect}
use Rattle.lent.proofs.Laws.{long_as}
use Rattle.data_arms.proofs.Formed.{add_number_is, add_number_below}
use Rattle.data_arms.proofs.Laws.{obeys_so}
use Rattle.data_arms.proofs.add_a_number.Goals as goal

pub first-requires : goal.first-requires
unfolding listing_length
first-requires c = long_as 4 c.args.r.now c.requires

pub base-requires : goal.base-requires
base-requires c = omega (arith, add_number_below _ _ c.requires _ c.first.ensures c.add_number_from-d.ensures)

pub settle-requires : goal.settle-requires
settle-requires c = omega (arith, add_number_below _ _ c.requires _ c.first.ensures c.add_number_from-d.ensures)

pub returns : goal.returns
unfolding effect add_number_effect base_value operand_value held written
returns c = obeys_so _ _ _ _ c.settle.ensures _ _ (λ f bytes setup w v. rw (add_number_is _ _ c.requires _ c.first.ensures c.add_number_from-d.ensures, c.add-value.ensures, c.from.ensures, c.base.ensures))
