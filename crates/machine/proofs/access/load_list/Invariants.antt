use Rattle.std.proofs.Common.{◌≡◌}
use Rattle.transfer.specs.Transfer.{slot}
use Rattle.machine.specs.Access.{list_loaded}
use Rattle.machine.proofs.access.load_list.Given as goal

abbrev pub invariant-loop-i : goal.invariant-loop-i
invariant-loop-i l = (l.address ≡ slot l.list l.low l.i) × (l.machine ≡ list_loaded l.i l.initial.machine l.list l.low l.memory l.setup)
