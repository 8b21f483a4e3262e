use Rattle.machine.specs.Access.{access_made}
use Rattle.machine.specs.Machine.{held}
use Rattle.lent.proofs.Laws.{storing_fine}
use Rattle.access_arms.proofs.Laws.{backed_parts}
use Rattle.access_arms.proofs.reach.Reach.make.Goals as goal

pub returns : goal.returns
unfolding access_made held
returns c =
    λ f w v. let a = c.args in
    rw (
      ← c.loads.ensures,
      c.if-loads.false,
      backed_parts a.registers.now a.ahead f v a.self.back,
      c.store.ensures,
      c.read-value.ensures,
    ) (storing_fine _ _ _ _ c.settle.ensures _ c.in_ok-settle.was _ _ f w v)
