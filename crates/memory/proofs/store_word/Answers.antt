use Rattle.std.proofs.Common.{◌≡◌, ◌+◌, ◌/◌, ◌^◌, add-zero, div-one, arith}
use Rattle.memory.proofs.Laws.{quick_stored, laid}
use Rattle.memory.proofs.store_word.Goals as goal

pub returns-then-at-size : goal.returns-then-at-size
unfolding laid
returns-then-at-size c =
    let p = c.before.before.before.before.before.before in
    let a = c.args in
    let at = c.offset_of-at.result in
    let on : at + 3 ≡ at + 2 + 1 = omega arith in
    let top : a.number / 2 ^ 24 ≡ a.number / 2 ^ 16 / 2 ^ 8 = omega arith in
    rw (
      quick_stored 4 a.setup a.memory.now a.address at a.number c.offset_of-at.ensures.1 c.if-at-size.true,
      add-zero at,
      div-one a.number,
      ← c.put_half_in.ensures,
      on,
      top,
    )
    c.put_half_in-then-at-size.ensures
