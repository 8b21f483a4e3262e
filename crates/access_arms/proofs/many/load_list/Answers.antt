use Rattle.std.proofs.Common.{refl, arith}
use Rattle.transfer.proofs.Laws.{slot_first, slot_next}
use Rattle.access_arms.specs.Reaching.{loaded_in}
use Rattle.access_arms.proofs.Laws.{loaded_next}
use Rattle.access_arms.proofs.many.load_list.Goals as goal
use Rattle.access_arms.proofs.many.load_list.Goals.{then-listed, else-listed}

pub loop-i-init : goal.loop-i-init
unfolding loaded_in
loop-i-init c = (slot_first c.args.list c.args.low (omega arith), refl)

pub loop-i-preserved : goal.loop-i-preserved
loop-i-preserved c =
    let a = c.args in
    let l = c.loop-i in
    let listed = rw c.from.ensures at c.holds-listed.ensures in (
      rw (← slot_next a.list a.low l.i, ← listed, ← l.invariant.0) c.next_slot-address.ensures,
      rw (← loaded_next a.registers.now a.list a.low a.memory.now a.setup l.i, ← listed, ← l.invariant.0, ← l.invariant.1)
          (elim c.if-listed.branch [
            | then-listed w ↦ rw (w.if-listed.true, w.registers-is, w.put.ensures, w.load_word-value.ensures) refl
            | else-listed w ↦ rw (w.if-listed.false, w.registers-is) refl
          ]),
    )
