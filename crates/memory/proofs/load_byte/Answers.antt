use Rattle.std.proofs.Common.{sym, ◌∙◌, arith}
use Rattle.little.proofs.Laws.{one_byte}
use Rattle.memory.proofs.Laws.{quick_loaded}
use Rattle.memory.proofs.load_byte.Goals as goal

pub returns-then-at-memory : goal.returns-then-at-memory
returns-then-at-memory c =
    let a = c.args in
    let at = c.offset_of-at.result in
    sym (quick_loaded 1 a.setup a.memory.now a.address at c.offset_of-at.ensures.1 (omega arith) ∙ one_byte a.memory.now at)
