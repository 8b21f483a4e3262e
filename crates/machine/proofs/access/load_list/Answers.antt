use Rattle.std.proofs.Common.{refl}
use Rattle.transfer.proofs.Laws.{slot_next}
use Rattle.machine.proofs.Laws.{loaded_next}
use Rattle.machine.proofs.access.load_list.Goals as goal
use Rattle.machine.proofs.access.load_list.Goals.{then-listed, else-listed}

pub loop-i-preserved : goal.loop-i-preserved
loop-i-preserved c =
    let a = c.args in
    let l = c.loop-i in
    let listed = rw c.from.ensures at c.holds-listed.ensures in (
      rw (← slot_next a.list a.low l.i, ← listed, ← l.invariant.0) c.next_slot-address.ensures,
      rw (← loaded_next a.back a.list a.low a.memory.now a.setup l.i, ← listed, ← l.invariant.0, ← l.invariant.1)
          (elim c.if-listed.branch [
            | then-listed w ↦ rw (w.if-listed.true, w.machine-is, w.write-machine.ensures, w.load_word.ensures) refl
            | else-listed w ↦ rw (w.if-listed.false, w.machine-is) refl
          ]),
    )
