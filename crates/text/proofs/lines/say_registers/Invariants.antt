use mathlib.Core.Path.{◌≡◌}
use Rattle.text.specs.Text.{register_lines}
use Rattle.text.specs.Code.{appended}
use Rattle.text.proofs.lines.say_registers.Given as goal

abbrev pub invariant-loop-i : goal.invariant-loop-i
invariant-loop-i l = l.more ≡ appended l.initial.more (register_lines l.i l.registers)
