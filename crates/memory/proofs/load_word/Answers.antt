use Rattle.std.proofs.Common.{◌≡◌, ◌*◌, ◌%◌, ◌^◌, sym, ap, ◌∙◌, arith}
use lib.Bits.{bit_or}
use Rattle.little.proofs.Laws.{joined_at}
use Rattle.memory.proofs.Laws.{quick_loaded}
use Rattle.memory.proofs.load_word.Goals as goal

pub returns-then-at-memory : goal.returns-then-at-memory
returns-then-at-memory c =
    let a = c.args in
    let at = c.offset_of-at.result in
    let high = c.half_in.result in
    let e : high * 2 ^ 16 % 2 ^ 32 ≡ high * 2 ^ 16 = omega arith in
    ap (λ x. bit_or x c.half_in-then-at-memory.result) e
    ∙ joined_at 2 a.memory.now at c.half_in-then-at-memory.result high c.half_in-then-at-memory.ensures c.half_in.ensures (omega arith)
    ∙ sym (quick_loaded 4 a.setup a.memory.now a.address at c.offset_of-at.ensures.1 c.if-at-memory.true)
