use Prim.Native.Nat.{◌-◌}
use lib.ListN.{length}
use Rattle.run.specs.Code.{Ahead}
use Rattle.run.proofs.chart.Chart.seek.Given as goal

abbrev pub invariant-loop-point : goal.invariant-loop-point
invariant-loop-point l = Ahead l.self.listing.now l.self.base l.address l.point

abbrev pub decreases-loop-point : goal.decreases-loop-point
decreases-loop-point l = length l.self.listing.now - l.point.place.0
