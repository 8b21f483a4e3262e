use Prim.Native.Nat.{◌-◌, ◌≤◌}
use mathlib.Core.Path.{◌≡◌}
use lib.ListN.{length}
use Rattle.run.specs.Run.{rehearsal, rounds}
use Rattle.run.specs.Code.{Fit, parts_of, At, counted}
use Rattle.run.proofs.race.race.Given as goal

abbrev pub invariant-loop-count : goal.invariant-loop-count
invariant-loop-count l = let h = rehearsal l.chart.listing.now l.chart.base l.setup in
    let s = parts_of l.registers l.flags l.waiting l.memory in
    (l.count ≤ l.budget) × (length l.memory ≡ length l.initial.memory) × Fit h s × At h s.machine l.place l.kind
    × (counted h l.count (rounds (l.budget - l.count) h s) ≡ counted h 0 (rounds l.budget h (parts_of l.initial.registers l.initial.flags l.initial.waiting l.initial.memory)))

abbrev pub decreases-loop-count : goal.decreases-loop-count
decreases-loop-count l = l.budget - l.count
