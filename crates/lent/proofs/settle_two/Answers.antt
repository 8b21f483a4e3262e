use Rattle.lent.proofs.Laws.{stood, fell, back_three}
use Rattle.lent.proofs.settle_two.Goals as goal

pub returns-then-is_steady : goal.returns-then-is_steady
returns-then-is_steady c =
    stood _ _ _ _ (rw (c.put-2.ensures, c.put.ensures) at c.put-3.ensures) c.is_steady.ensures c.if-is_steady.true

pub returns : goal.returns
returns c =
    fell _ _ _ _ (rw (c.put-2.ensures, c.put.ensures) at c.put-3.ensures) c.is_steady.ensures _ c.if-is_steady.false
    (back_three _ _ _ _ _ _ _ 15 _ _ _ _ _ _ _ _ c.put.ensures c.read-first.ensures c.put-2.ensures
    c.read-second.ensures c.put-3.ensures c.lay.ensures c.lay-2.ensures c.read-pc.ensures c.lay-3.ensures)
