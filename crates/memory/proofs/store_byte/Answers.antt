use Rattle.std.proofs.Common.{add-zero, div-one, arith}
use Rattle.memory.proofs.Laws.{quick_stored, laid}
use Rattle.memory.proofs.store_byte.Goals as goal

pub returns-then-at-size : goal.returns-then-at-size
unfolding laid
returns-then-at-size c =
    let a = c.args in
    let at = c.offset_of-at.result in
    rw (quick_stored 1 a.setup a.memory.now a.address at a.number c.offset_of-at.ensures.1 (omega arith), add-zero at, div-one a.number)
