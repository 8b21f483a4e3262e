use Prim.Native.Nat.{◌-◌}
use Rattle.landing.specs.Code.{addresses_by_halves}
use Rattle.landing.proofs.Halves.{Halving}
use Rattle.landing.proofs.entries_to.Given as goal

abbrev pub invariant-loop-low : goal.invariant-loop-low
invariant-loop-low l = Halving l.addresses l.count l.address l.low l.high (addresses_by_halves l.count l.addresses l.address 0 l.count)

abbrev pub decreases-loop-low : goal.decreases-loop-low
decreases-loop-low l = l.high - l.low
