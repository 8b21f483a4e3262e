use Rattle.std.proofs.Common.{◌≡◌, true}
use Rattle.memory.specs.Memory.{inside}
use Rattle.memory.proofs.is_each_inside.Given as goal

abbrev pub invariant-loop-i : goal.invariant-loop-i
invariant-loop-i l = inside l.i l.setup l.size l.address ≡ true
