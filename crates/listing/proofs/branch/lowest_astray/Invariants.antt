use mathlib.Core.Path.{◌≡◌}
use Prim.Native.Nat.{◌-◌}
use Rattle.layout.proofs.Members.{On}
use Rattle.layout.specs.Layout.{meets, walk}
use Rattle.listing.specs.Check.{lowest, branch_fault, second_pass}
use Rattle.listing.proofs.branch.lowest_astray.Given as goal

abbrev pub invariant-loop : goal.invariant-loop
invariant-loop l = record {
  on : On l.listing l.base l.point;
  same : lowest (λ p. branch_fault l.listing l.base (meets l.listing p) p) (walk (l.end - l.counter) l.listing l.point) ≡ second_pass l.listing l.base;
}
