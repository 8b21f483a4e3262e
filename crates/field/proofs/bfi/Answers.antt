use native.Mathlib.Omega.{arith}
use Rattle.field.proofs.Laws.{put_in, put_none}
use Rattle.field.proofs.bfi.Goals as goal

pub returns-then-lsb-ge32 : goal.returns-then-lsb-ge32
returns-then-lsb-ge32 c = let a = c.args in put_none a.d a.x a.lsb a.width (omega arith) (omega arith)

pub returns : goal.returns
returns c =
    let a = c.args in
    rw c.ones.ensures (put_in a.d a.x a.lsb a.width (omega arith))
