use mathlib.Core.Path.{◌≡◌}
use Prim.Native.Nat.{◌-◌}
use lib.ListN.{length}
use Rattle.layout.specs.Layout.{walk}
use Rattle.layout.proofs.Members.{On}
use Rattle.landing.specs.Code.{table, all_entered, tabled}
use Rattle.landing.proofs.list_all.Given as goal

abbrev pub invariant-loop : goal.invariant-loop
invariant-loop l = record {
  on : On l.listing l.base l.point;
  long : length l.addresses ≡ length l.initial.addresses;
  wide : length l.places ≡ length l.initial.places;
  same : all_entered l.listing (walk (l.end - l.counter) l.listing l.point) (table l.addresses l.places l.count)
      ≡ tabled l.listing l.base (table l.initial.addresses l.initial.places 0);
}
