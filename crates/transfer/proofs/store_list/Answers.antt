use Rattle.std.proofs.Common.{rules, refl}
use Rattle.transfer.proofs.Laws.{slot_next, stored_next}
use Rattle.transfer.proofs.store_list.Goals as goal
use Rattle.transfer.proofs.store_list.Goals.{then-listed, else-listed}

pub loop-i-preserved : goal.loop-i-preserved
loop-i-preserved c =
    let a = c.args in
    let l = c.loop-i in
    let listed = rw c.from.ensures at c.holds-listed.ensures in (
      elim c.if-listed.branch [
        | then-listed w ↦ search rules
        | else-listed w ↦ search rules
      ],
      rw (← slot_next a.list a.lowest l.i, ← listed, ← l.invariant.1) c.next_slot-address.ensures,
      rw (← stored_next a.setup a.memory.now a.registers a.list a.lowest l.i, ← listed, ← l.invariant.1, ← l.invariant.2)
          (elim c.if-listed.branch [
            | then-listed w ↦ rw (w.if-listed.true, w.memory-is, w.store_word.ensures, w.from-then-listed.ensures) refl
            | else-listed w ↦ rw (w.if-listed.false, w.memory-is) refl
          ]),
    )
