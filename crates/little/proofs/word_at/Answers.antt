use Prim.Native.Nat.{◌*◌, ◌%◌, ◌^◌}
use mathlib.Core.Path.{◌≡◌, sym}
use native.Mathlib.Omega.{arith}
use Rattle.little.proofs.Laws.{past, joined_at}
use Rattle.little.proofs.word_at.Goals as goal

pub returns-then-xs-at : goal.returns-then-xs-at
returns-then-xs-at c = let a = c.args in sym (past 4 a.xs.now a.at c.if-xs-at.true)

pub returns : goal.returns
returns c =
    let a = c.args in
    let high = c.half_at.result in
    let low = c.half_at-2.result in
    let e : high * 2 ^ 16 % 2 ^ 32 ≡ high * 2 ^ 16 = omega arith in
    rw (c.from.ensures, c.from-2.ensures, e) (joined_at 2 a.xs.now a.at low high c.half_at-2.ensures c.half_at.ensures (omega arith))
