use Prim.Native.Nat.{◌-◌}
use lib.ListN.{length}
use Rattle.landing.specs.Code.{by_halves}
use Rattle.landing.proofs.Halves.{Halving}
use Rattle.landing.proofs.Entries.{addresses_of}
use Rattle.landing.proofs.landings_to.Given as goal

abbrev pub invariant-loop-from : goal.invariant-loop-from
invariant-loop-from l =
    let n = length l.landings in
    Halving (addresses_of l.landings) n l.address l.from l.to (by_halves n l.landings l.address 0 n)

abbrev pub decreases-loop-from : goal.decreases-loop-from
decreases-loop-from l = l.to - l.from
