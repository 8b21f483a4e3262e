use Prim.Native.Nat.{◌+◌, ◌^◌, ◌<◌}
use native.Mathlib.Omega.{arith}
use borrow.Author.Rules.{rules}
use Rattle.word.specs.Word.{one_if}
use Rattle.sum.specs.Sum.{add_with_carry}
use Rattle.word.proofs.Numbers.{one_if_le}
use Rattle.sum.proofs.Laws.{overflow_by_signs, carried, as_number}
use Rattle.sum.proofs.add_with_carry.Goals as goal

pub returns : goal.returns
unfolding add_with_carry
returns c =
    let a = c.args in
    let s = c.carrying_add-value in
    let i = one_if a.carry in
    let bound : s.result.0 < 2 ^ 32 = search rules in
    let k = carried s.result.0 (a.x + a.y + i) s.result.1 bound (rw (as_number a.carry) at s.ensures) in
    rw (k.0, k.1, overflow_by_signs a.x a.y i (omega arith) (omega arith) (one_if_le a.carry))
