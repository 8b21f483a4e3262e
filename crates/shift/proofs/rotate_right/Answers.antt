use native.Mathlib.Omega.{arith}
use Prim.Native.Nat.{◌%◌}
use mathlib.Core.Path.{◌∙◌}
use Rattle.shift.proofs.Laws.{turned_round}
use Rattle.shift.proofs.rotate_right.Goals as goal

pub returns : goal.returns
returns c = c.rotate_right.ensures ∙ turned_round c.args.x (c.args.amount % 32) (omega arith) (omega arith)
