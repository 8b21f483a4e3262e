use Rattle.std.proofs.Common.{add-zero, div-one}
use Rattle.memory.proofs.Laws.{quick_stored, laid}
use Rattle.memory.proofs.store_half.Goals as goal

pub returns-then-at-size : goal.returns-then-at-size
unfolding laid
returns-then-at-size c =
    let a = c.args in
    let at = c.offset_of-at.result in
    rw (quick_stored 2 a.setup a.memory.now a.address at a.number c.offset_of-at.ensures.1 c.if-at-size.true, add-zero at, div-one a.number)
    c.put_half_in.ensures
