use mathlib.Core.Path.{sym}
use native.Mathlib.Omega.{arith}
use Rattle.reverse.specs.Reverse.{CLZ}
use Rattle.reverse.proofs.Laws.{leading}
use Rattle.reverse.proofs.clz.Goals as goal

pub returns : goal.returns
unfolding CLZ
returns c = sym (leading 32 c.args.x (omega arith))
