use native.Mathlib.Omega.{arith}
use Rattle.sum.proofs.Laws.{difference_is_sum}
use Rattle.sum.proofs.subtract_with_carry.Goals as goal

pub returns : goal.returns
returns c =
    let a = c.args in
    rw c.add_with_carry.ensures (difference_is_sum a.x a.y a.carry (omega arith) (omega arith))
