use mathlib.Core.Path.{◌∙◌}
use Rattle.run.proofs.Seats.{ahead_start, ahead_landing, seat_landing}
use Rattle.run.proofs.chart.Chart.find.Goals as goal

pub returns-then-found-address : goal.returns-then-found-address
returns-then-found-address c =
    let a = c.args.self.now in
    c.seat_at.ensures
    ∙ rw c.nothing.ensures
    (seat_landing a.listing.now a.base a.known.0 _ a.known.1 c.args.address _ _ c.last_in_table.ensures c.in-Some.is c.if-found-address.true)

pub seek-requires : goal.seek-requires
seek-requires c =
    let a = c.args.self.now in
    rw c.nothing.ensures (ahead_landing a.listing.now a.base a.known.0 _ a.known.1 c.args.address _ _ c.last_in_table.ensures c.in-Some.is)

pub seek-requires-in-None : goal.seek-requires-in-None
seek-requires-in-None c =
    let a = c.args.self.now in
    rw c.start_of.ensures (ahead_start a.listing.now a.base a.known.0 c.args.address)
