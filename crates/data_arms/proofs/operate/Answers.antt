use Rattle.data_arms.proofs.Laws.{operate_does, obeys_fine, obeys_back}
use Rattle.data_arms.proofs.operate.Goals as goal

pub returns-in_err-settle_data : goal.returns-in_err-settle_data
returns-in_err-settle_data c =
    let does = operate_does _ _ _ _ _ _ c.operands_of-o.ensures c.operate-result.ensures in
    obeys_back _ _ _ _ c.settle_data.ensures _ _ _ _ does _ c.in_err-settle_data.was _ c.from_residual.ensures.1

pub returns-then-o : goal.returns-then-o
returns-then-o c =
    let does = operate_does _ _ _ _ _ _ c.operands_of-o.ensures c.operate-result.ensures in
    obeys_fine _ _ _ _ c.settle_data.ensures _ _ _ _ does _ c.in_ok-settle_data.was _ (rw c.if-o.true c.with_all.ensures)

pub returns-else-o : goal.returns-else-o
returns-else-o c =
    let does = operate_does _ _ _ _ _ _ c.operands_of-o.ensures c.operate-result.ensures in
    obeys_fine _ _ _ _ c.settle_data.ensures _ _ _ _ does _ c.in_ok-settle_data.was _ (rw c.if-o.false)
