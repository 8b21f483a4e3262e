use native.Mathlib.Omega.{arith}
use Rattle.kinds.specs.Kinds.{listing_length}
use Rattle.lent.proofs.Laws.{long_as}
use Rattle.data_arms.proofs.Formed.{multiply_is, multiply_below}
use Rattle.data_arms.proofs.Laws.{multiply_does, obeys_fine, obeys_back}
use Rattle.data_arms.proofs.multiply.Goals as goal

pub first-requires : goal.first-requires
unfolding listing_length
first-requires c = long_as 7 c.args.r.now c.requires

pub operand-x-requires : goal.operand-x-requires
operand-x-requires c = omega (arith, multiply_below _ _ c.requires _ c.first.ensures c.multiply_from-d.ensures)

pub operand-y-requires : goal.operand-y-requires
operand-y-requires c = omega (arith, multiply_below _ _ c.requires _ c.first.ensures c.multiply_from-d.ensures)

pub operand-a-requires : goal.operand-a-requires
operand-a-requires c = omega (arith, multiply_below _ _ c.requires _ c.first.ensures c.multiply_from-d.ensures)

pub settle-requires : goal.settle-requires
settle-requires c = omega (arith, multiply_below _ _ c.requires _ c.first.ensures c.multiply_from-d.ensures)

pub returns-in_err-settle : goal.returns-in_err-settle
returns-in_err-settle c =
    let value = rw (c.operand-a.ensures, c.operand-y.ensures, c.operand-x.ensures) at c.multiply-value.ensures in
    let does = multiply_does _ _ _ _ _ _ (multiply_is _ _ c.requires _ c.first.ensures c.multiply_from-d.ensures) value in
    obeys_back _ _ _ _ c.settle.ensures _ _ _ _ does _ c.in_err-settle.was _ c.from_residual.ensures.1

pub returns-then-d : goal.returns-then-d
returns-then-d c =
    let value = rw (c.operand-a.ensures, c.operand-y.ensures, c.operand-x.ensures) at c.multiply-value.ensures in
    let does = multiply_does _ _ _ _ _ _ (multiply_is _ _ c.requires _ c.first.ensures c.multiply_from-d.ensures) value in
    obeys_fine _ _ _ _ c.settle.ensures _ _ _ _ does _ c.in_ok-settle.was _ (rw c.if-d.true c.with_signs.ensures)

pub returns-else-d : goal.returns-else-d
returns-else-d c =
    let value = rw (c.operand-a.ensures, c.operand-y.ensures, c.operand-x.ensures) at c.multiply-value.ensures in
    let does = multiply_does _ _ _ _ _ _ (multiply_is _ _ c.requires _ c.first.ensures c.multiply_from-d.ensures) value in
    obeys_fine _ _ _ _ c.settle.ensures _ _ _ _ does _ c.in_ok-settle.was _ (rw c.if-d.false)
