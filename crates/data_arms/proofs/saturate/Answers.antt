use native.Mathlib.Omega.{arith}
use Rattle.kinds.specs.Kinds.{listing_length}
use Rattle.lent.proofs.Laws.{long_as}
use Rattle.data_arms.proofs.Formed.{saturate_is, saturate_below}
use Rattle.data_arms.proofs.Laws.{saturate_does, obeys_fine, obeys_back}
use Rattle.data_arms.proofs.saturate.Goals as goal

pub first-requires : goal.first-requires
unfolding listing_length
first-requires c = long_as 10 c.args.r.now c.requires

pub operand-rm-requires : goal.operand-rm-requires
operand-rm-requires c = omega (arith, saturate_below _ _ c.requires _ c.first.ensures c.saturate_from-d.ensures)

pub settle-requires : goal.settle-requires
settle-requires c = omega (arith, saturate_below _ _ c.requires _ c.first.ensures c.saturate_from-d.ensures)

pub returns-in_err-settle : goal.returns-in_err-settle
returns-in_err-settle c =
    let value = rw (c.from-2.ensures, c.shifter_of-x.ensures, c.from.ensures, c.operand-rm.ensures) at c.saturate-result.ensures in
    let does = saturate_does _ _ _ _ _ _ (saturate_is _ _ c.requires _ c.first.ensures c.saturate_from-d.ensures) value in
    obeys_back _ _ _ _ c.settle.ensures _ _ _ _ does _ c.in_err-settle.was _ c.from_residual.ensures.1

pub returns : goal.returns
returns c =
    let value = rw (c.from-2.ensures, c.shifter_of-x.ensures, c.from.ensures, c.operand-rm.ensures) at c.saturate-result.ensures in
    let does = saturate_does _ _ _ _ _ _ (saturate_is _ _ c.requires _ c.first.ensures c.saturate_from-d.ensures) value in
    obeys_fine _ _ _ _ c.settle.ensures _ _ _ _ does _ c.in_ok-settle.was _ c.with_saturation.ensures
