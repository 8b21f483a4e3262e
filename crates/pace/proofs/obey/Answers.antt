use Rattle.std.proofs.Common.{sym, ◌∙◌}
use Rattle.machine.specs.Machine.{held, written, with_waiting, ruling, condition_passes, advanced, skipped, onward, done}
use Rattle.machine.specs.Step.{obeyed}
use Rattle.pace.proofs.Passing.{skipped_waits}
use Rattle.pace.proofs.obey.Goals as goal

pub returns-then-is_passed : goal.returns-then-is_passed
unfolding obeyed condition_passes ruling onward advanced with_waiting written held
returns-then-is_passed c =
    rw (← c.is_passed.ensures, c.if-is_passed.true, ← c.requires.1) (c.take_effect.ensures _ _)

pub returns : goal.returns
unfolding obeyed condition_passes ruling skipped advanced with_waiting written held done
returns c =
    let a = c.args in
    let passed = c.is_passed in
    let waits = skipped_waits a.r.now a.waiting a.flags.now c.requires.0 (sym passed.ensures ∙ c.if-is_passed.false) in
    rw (← passed.ensures, c.if-is_passed.false, c.put.ensures, ← c.requires.1, waits)
