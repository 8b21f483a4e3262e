use Rattle.std.proofs.Common.{◌≡◌}
use Rattle.transfer.specs.Transfer.{slot}
use Rattle.access_arms.specs.Reaching.{loaded_in}
use Rattle.access_arms.proofs.many.load_list.Given as goal

abbrev pub invariant-loop-i : goal.invariant-loop-i
invariant-loop-i l = (l.address ≡ slot l.list l.low l.i) × (l.registers ≡ loaded_in l.i l.initial.registers l.list l.low l.memory l.setup)
