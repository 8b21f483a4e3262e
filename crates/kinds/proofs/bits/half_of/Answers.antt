use Prim.Native.Nat.{◌*◌, ◌%◌, ◌^◌}
use mathlib.Core.List.{[], ◌∷◌}
use mathlib.Core.Path.{◌≡◌, sym}
use native.Mathlib.Omega.{arith}
use Rattle.little.proofs.Laws.{joined_at, one_byte}
use Rattle.kinds.proofs.bits.half_of.Goals as goal

pub returns : goal.returns
returns c =
    let a = c.args in
    let xs = a.low ∷ a.high ∷ [] in
    let e : a.high * 2 ^ 8 % 2 ^ 16 ≡ a.high * 2 ^ 8 = omega arith in
    rw e (joined_at 1 xs 0 a.low a.high (sym (one_byte xs 0)) (sym (one_byte xs 1)) (omega arith))
