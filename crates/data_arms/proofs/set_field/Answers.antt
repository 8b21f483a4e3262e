use native.Mathlib.Omega.{arith}
use Rattle.kinds.specs.Kinds.{listing_length}
use Rattle.machine.specs.Machine.{held, operand_value, written}
use Rattle.machine.specs.Compute.{bit_field_effect}
use Rattle.machine.specs.Step.{effect}
use Rattle.lent.proofs.Laws.{long_as}
use Rattle.data_arms.proofs.Formed.{bit_field_is, bit_field_below}
use Rattle.data_arms.proofs.Laws.{obeys_so}
use Rattle.data_arms.proofs.set_field.Goals as goal

pub first-requires : goal.first-requires
unfolding listing_length
first-requires c = long_as 11 c.args.r.now c.requires

pub operand-before-requires : goal.operand-before-requires
operand-before-requires c = omega (arith, bit_field_below _ _ c.requires _ c.first.ensures c.bit_field_from-d.ensures)

pub operand-x-requires : goal.operand-x-requires
operand-x-requires c = omega (arith, bit_field_below _ _ c.requires _ c.first.ensures c.bit_field_from-d.ensures)

pub settle-requires : goal.settle-requires
settle-requires c = omega (arith, bit_field_below _ _ c.requires _ c.first.ensures c.bit_field_from-d.ensures)

pub returns : goal.returns
unfolding effect bit_field_effect operand_value held written
returns c = obeys_so _ _ _ _ c.settle.ensures _ _ (λ f bytes setup w v. rw (bit_field_is _ _ c.requires _ c.first.ensures c.bit_field_from-d.ensures, c.set_field-value.ensures, c.from-2.ensures, c.from.ensures, c.operand-x.ensures, c.operand-before.ensures))
