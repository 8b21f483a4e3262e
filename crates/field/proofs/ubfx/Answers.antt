use Prim.Native.Nat.{◌/◌, ◌^◌}
use native.Mathlib.Omega.{arith}
use native.Mathlib.Nat.{zero-mod}
use lib.Pow.{shr_le}
use Rattle.word.proofs.Numbers.{none_above}
use Rattle.field.specs.Field.{UBFX}
use Rattle.field.proofs.Laws.{taken}
use Rattle.field.proofs.ubfx.Goals as goal

pub returns-then-lsb-ge32 : goal.returns-then-lsb-ge32
unfolding UBFX
returns-then-lsb-ge32 c =
    let a = c.args in
    rw (none_above {x = a.x} a.lsb 32 (omega arith) (omega arith), zero-mod (2 ^ a.width))

pub returns : goal.returns
unfolding UBFX
returns c =
    let a = c.args in
    rw c.ones.ensures (taken (a.x / 2 ^ a.lsb) a.width (omega (arith, shr_le a.x a.lsb)))
