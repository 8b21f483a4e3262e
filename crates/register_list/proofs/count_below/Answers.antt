use mathlib.Core.Path.{sym}
use native.Mathlib.Omega.{arith}
use Prim.Native.Nat.{min}
use lib.Bits.{and_mask}
use Rattle.word.proofs.Numbers.{ones_mod, mod_min}
use Rattle.register_list.proofs.Laws.{members_are_ones}
use Rattle.register_list.proofs.count_below.Goals as goal

pub returns : goal.returns
returns c =
    let a = c.args in
    rw (
      c.ones.ensures,
      c.from.ensures,
      ones_mod a.register 32,
      and_mask a.list (min a.register 32),
      mod_min a.list a.register 32 (omega arith),
    )
    (sym (members_are_ones a.register a.list))
