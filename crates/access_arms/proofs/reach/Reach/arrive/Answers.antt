use Rattle.std.proofs.Common.{◌≡◌, true, sym, ◌∙◌}
use Rattle.word.specs.Word.{bit}
use Rattle.machine.specs.Machine.{written}
use Rattle.lent.proofs.Laws.{settled_so}
use Rattle.access_arms.proofs.Laws.{backed_parts, arrives}
use Rattle.access_arms.proofs.reach.Reach.arrive.Goals as goal
use Rattle.access_arms.proofs.reach.Reach.arrive.Goals.{else-self-eq-PC-via-then-self-eq-PC+else-not-bit_of, else-self-eq-PC-via-else-self-eq-PC}

pub returns : goal.returns
unfolding written
returns c =
    λ f w v. let a = c.args in
    let odd : a.self.rt ≡ 15 → bit 0 a.value ≡ true =
    elim c.else-self-eq-PC.branch [
      | else-self-eq-PC-via-then-self-eq-PC+else-not-bit_of w ↦ λ e. sym w.bit_of.ensures ∙ w.if-not-bit_of.false
      | else-self-eq-PC-via-else-self-eq-PC w ↦ λ e. absurd (w.if-self-eq-PC.false e)
    ] in
    rw (arrives _ _ _ _ odd, backed_parts a.registers.now a.ahead f v a.self.back) (settled_so _ _ _ _ c.settle_load.ensures f w v)
