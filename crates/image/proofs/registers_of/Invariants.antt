use Rattle.std.proofs.Common.{◌≡◌}
use Rattle.image.specs.Image.{words}
use Rattle.image.proofs.registers_of.Given as goal

abbrev pub invariant-loop-i : goal.invariant-loop-i
invariant-loop-i l = l.registers ≡ words l.i l.image
