use Rattle.std.proofs.Common.{ap}
use Rattle.machine.specs.Access.{based, dual_made}
use Rattle.machine.specs.Machine.{held, keeping, written}
use Rattle.lent.proofs.Laws.{settled_so, storing_fine, storing_back}
use Rattle.access_arms.proofs.Laws.{backed_unless, backed_parts}
use Rattle.access_arms.proofs.make_two.Goals as goal

pub returns-then-loads : goal.returns-then-loads
unfolding dual_made based written
returns-then-loads c =
    λ f w v. let a = c.args in
    let settled = ap (λ s. keeping s a.memory.now) (settled_so _ _ _ _ c.settle_dual.ensures f w v) in
    rw (
      ← c.loads.ensures,
      c.if-loads.true,
      ← c.is_offset.ensures,
      backed_unless c.is_offset.result _ _ c.then_some-back.ensures,
      backed_parts a.registers.now a.ahead f v c.then_some-back.result,
    ) (rw (c.load_word-high.ensures, c.load_word-low.ensures) at settled)

pub returns-in_err-settle : goal.returns-in_err-settle
unfolding dual_made based
returns-in_err-settle c =
    λ f w v. let a = c.args in
    rw (
      ← c.loads.ensures,
      c.if-loads.false,
      ← c.is_offset.ensures,
      backed_unless c.is_offset.result _ _ c.then_some-back.ensures,
      backed_parts a.registers.now a.ahead f v c.then_some-back.result,
    ) (storing_back _ _ _ _ c.settle.ensures _ c.in_err-settle.was _ c.from_residual.ensures.1 _ _ f w v)

pub returns : goal.returns
unfolding dual_made based held
returns c =
    λ f w v. let a = c.args in
    rw (
      ← c.loads.ensures,
      c.if-loads.false,
      ← c.is_offset.ensures,
      backed_unless c.is_offset.result _ _ c.then_some-back.ensures,
      backed_parts a.registers.now a.ahead f v c.then_some-back.result,
      c.store_word-2.ensures,
      c.store_word.ensures,
      c.read-high.ensures,
      c.read-low.ensures,
    ) (storing_fine _ _ _ _ c.settle.ensures _ c.in_ok-settle.was _ _ f w v)
