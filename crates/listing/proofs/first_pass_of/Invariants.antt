use mathlib.Core.Path.{◌≡◌}
use Prim.Native.Nat.{◌-◌}
use Rattle.layout.proofs.Points.{Within}
use Rattle.layout.specs.Layout.{meets, walk}
use Rattle.listing.specs.Check.{fault, lowest, first_pass}
use Rattle.listing.proofs.first_pass_of.Given as goal

abbrev pub invariant-loop : goal.invariant-loop
invariant-loop l = record {
  within : Within l.listing l.base l.point;
  same : lowest (λ p. fault (meets l.listing p) p) (walk (l.end - l.counter) l.listing l.point) ≡ first_pass l.listing l.base;
}
