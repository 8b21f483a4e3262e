use mathlib.Core.Path.{sym}
use Rattle.little.proofs.Laws.{past, two_bytes}
use Rattle.little.proofs.half_at.Goals as goal

pub returns-then-xs-at : goal.returns-then-xs-at
returns-then-xs-at c = let a = c.args in sym (past 2 a.xs.now a.at c.if-xs-at.true)

pub returns : goal.returns
returns c =
    let a = c.args in
    rw (c.from_le_bytes.ensures, c.byte_at.ensures, c.byte_at-2.ensures) (sym (two_bytes a.xs.now a.at))
