use Rattle.std.proofs.Common.{length, sym}
use Rattle.memory.proofs.Laws.{quick_inside}
use Rattle.memory.proofs.is_inside.Goals as goal

pub returns-then-at-count : goal.returns-then-at-count
returns-then-at-count c =
    let a = c.args in
    sym (quick_inside a.count a.setup (length a.memory.now) a.address c.offset_of-at.result c.offset_of-at.ensures.1 c.if-at-count.true)
