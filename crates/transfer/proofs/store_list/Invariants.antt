use Rattle.std.proofs.Common.{◌≡◌, length}
use Rattle.transfer.specs.Transfer.{slot, list_stored}
use Rattle.transfer.proofs.store_list.Given as goal

abbrev pub invariant-loop-i : goal.invariant-loop-i
invariant-loop-i l = (length l.memory ≡ length l.initial.memory) × (l.address ≡ slot l.list l.lowest l.i) × (l.memory ≡ list_stored l.i l.setup l.initial.memory l.registers l.list l.lowest)
