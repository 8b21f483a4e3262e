use mathlib.Core.Path.{sym, ap, ◌∙◌}
use native.Mathlib.Nat.{mod-eq_of_lt}
use native.Mathlib.Omega.{arith}
use lib.Count.{ones}
use Rattle.register_list.proofs.Laws.{members_are_ones}
use Rattle.register_list.proofs.count.Goals as goal

pub returns : goal.returns
returns c =
    let list = c.args.list in
    sym (members_are_ones 16 list ∙ ap ones (mod-eq_of_lt (omega arith)))
