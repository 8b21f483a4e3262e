use mathlib.Core.Bool.{Bool}
use mathlib.Core.Path.{◌≡◌, refl, ◌∙◌}
use lib.Dec.{eqb}
use borrow.Author.Rules.{rules}
use Rattle.std.specs.Prelude.{Option, Some, None}
use Rattle.std.specs.Option.{option_eq}
use Rattle.reading.specs.declared.Place.{Place}
use Rattle.listing.proofs.Accepted.{parts}
use Rattle.listing.proofs.Branches.{table_tells}
use Rattle.machine.specs.declared.Machine.{Machine}
use Rattle.machine.specs.Machine.{PC, held}
use Rattle.run.specs.declared.seat.Seat.{Seat}
use Rattle.run.specs.Run.{Rehearsal, rehearsal}
use Rattle.run.specs.Place.{walks_place, same_place, halt}
use Rattle.run.specs.Code.{seat_at}
use Rattle.run.proofs.go.Goals as goal

-- whether what was found agrees
agreed : (h : Rehearsal) (m : Machine) (stored : Option Place) (at : Seat) (b : Bool) → at ≡ seat_at h.listing h.base (held m PC)
    → b ≡ same_place stored at.stored → b ≡ same_place stored (walks_place h m)
unfolding walks_place seat_at
agreed h m stored at b e f = rw e at f

equal : (eq : Place → Place → Bool) → ((p q : Place) → eq p q ≡ eqb p.0 q.0) → (a b : Option Place) → option_eq eq a b ≡ same_place a b
unfolding same_place
equal eq is (Some p) (Some q) = is p q
equal eq is (Some p) None = refl
equal eq is None (Some q) = refl
equal eq is None None = refl

pub invariant_of-chart : goal.invariant_of-chart
invariant_of-chart c =
    let a = c.args in
    let p = parts a.listing.now a.base c.requires.0 in
    record { known = (c.requires.0, rw c.list_all-count.ensures (table_tells a.listing.now a.base p.size p.first _ _ (search rules) (search rules))) }

pub repeat-requires : goal.repeat-requires
repeat-requires c = (rw c.register.ensures at c.find-at.ensures, search rules, search rules)

pub returns-then-anew-eq : goal.returns-then-anew-eq
returns-then-anew-eq c =
    let a = c.args in
    let h = rehearsal a.listing.now a.base a.setup in
    let same = agreed h a.running.machine a.running.stored c.find-at.result c.eq.result (rw c.register.ensures at c.find-at.ensures) (c.eq.ensures ∙ equal _ (λ p q. refl) _ _) in
    rw (← same, c.if-anew-eq.true) c.repeat.ensures

pub returns : goal.returns
unfolding halt
returns c =
    let a = c.args in
    let h = rehearsal a.listing.now a.base a.setup in
    let same = agreed h a.running.machine a.running.stored c.find-at.result c.eq.result (rw c.register.ensures at c.find-at.ensures) (c.eq.ensures ∙ equal _ (λ p q. refl) _ _) in
    rw (← same, c.if-anew-eq.false, c.stop.ensures)
