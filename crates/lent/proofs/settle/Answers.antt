use Rattle.lent.proofs.Laws.{stood, fell, back_two}
use Rattle.lent.proofs.settle.Goals as goal

pub returns-then-is_steady : goal.returns-then-is_steady
returns-then-is_steady c = stood _ _ _ _ (rw c.put.ensures at c.put-2.ensures) c.is_steady.ensures c.if-is_steady.true

pub returns : goal.returns
returns c =
    fell _ _ _ _ (rw c.put.ensures at c.put-2.ensures) c.is_steady.ensures _ c.if-is_steady.false
    (back_two _ _ _ _ _ 15 _ _ _ _ _ c.put.ensures c.read-old.ensures c.put-2.ensures
    c.lay.ensures c.read-pc.ensures c.lay-2.ensures)
