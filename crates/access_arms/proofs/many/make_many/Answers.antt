use Rattle.std.proofs.Common.{Err, refl}
use Rattle.refusal.specs.declared.Refusal.TheVariants.{Unsteady}
use Rattle.machine.specs.Access.{multiple_made}
use Rattle.lent.proofs.Laws.{stood, fell, storing_fine, storing_back}
use Rattle.access_arms.proofs.Laws.{backed_where, backed_parts}
use Rattle.access_arms.proofs.many.make_many.Goals as goal

pub returns-then-is_steady : goal.returns-then-is_steady
unfolding multiple_made
returns-then-is_steady c =
    λ f w v. let a = c.args in
    let stands = stood a.registers.now _ _ _ c.write_back.ensures c.is_steady.ensures c.if-is_steady.true in
    rw (
      ← c.loads.ensures,
      c.if-loads.false,
      backed_where a.d.writeback _ _ c.then_some.ensures,
      backed_parts a.registers.now a.ahead f v c.then_some.result,
      c.store_list.ensures,
    ) (storing_fine _ _ _ _ stands _ refl _ _ f w v)

pub returns : goal.returns
unfolding multiple_made
returns c =
    λ f w v. let a = c.args in
    let falls = fell a.registers.now _ _ _ c.write_back.ensures c.is_steady.ensures _ c.if-is_steady.false refl in
    rw (
      ← c.loads.ensures,
      c.if-loads.false,
      backed_where a.d.writeback _ _ c.then_some.ensures,
      backed_parts a.registers.now a.ahead f v c.then_some.result,
    ) (storing_back _ _ _ _ falls _ refl (Err Unsteady) refl _ _ f w v)
