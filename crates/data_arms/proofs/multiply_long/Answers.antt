use native.Mathlib.Omega.{arith}
use Rattle.kinds.specs.Kinds.{listing_length}
use Rattle.lent.proofs.Laws.{long_as}
use Rattle.data_arms.proofs.Formed.{long_multiply_is, long_multiply_below}
use Rattle.data_arms.proofs.Laws.{long_multiply_does, obeys_so}
use Rattle.data_arms.proofs.multiply_long.Goals as goal

pub first-requires : goal.first-requires
unfolding listing_length
first-requires c = long_as 8 c.args.r.now c.requires

pub operand-requires : goal.operand-requires
operand-requires c = omega (arith, long_multiply_below _ _ c.requires _ c.first.ensures c.long_multiply_from-d.ensures)

pub operand-requires-2 : goal.operand-requires-2
operand-requires-2 c = omega (arith, long_multiply_below _ _ c.requires _ c.first.ensures c.long_multiply_from-d.ensures)

pub operand-x-requires : goal.operand-x-requires
operand-x-requires c = omega (arith, long_multiply_below _ _ c.requires _ c.first.ensures c.long_multiply_from-d.ensures)

pub operand-y-requires : goal.operand-y-requires
operand-y-requires c = omega (arith, long_multiply_below _ _ c.requires _ c.first.ensures c.long_multiply_from-d.ensures)

pub settle_two-requires : goal.settle_two-requires
settle_two-requires c = let b = long_multiply_below _ _ c.requires _ c.first.ensures c.long_multiply_from-d.ensures in (b.0, b.1)

pub returns : goal.returns
returns c =
    let value = rw (c.operand-y.ensures, c.operand-x.ensures, c.operand-2.ensures, c.operand.ensures) at c.multiply_long-result.ensures in
    obeys_so _ _ _ _ c.settle_two.ensures _ _ (λ f. long_multiply_does _ f _ _ _ _ (long_multiply_is _ _ c.requires _ c.first.ensures c.long_multiply_from-d.ensures) value)
