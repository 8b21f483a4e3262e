use mathlib.Core.Path.{refl}
use native.Mathlib.Omega.{arith}
use Rattle.listing.proofs.Accepted.{parts}
use Rattle.run.proofs.Racing.{within_so, taken_so, ready_so, refused_so, done_so}
use Rattle.run.proofs.race.take.Goals as goal

pub overflow_add-next : goal.overflow_add-next
overflow_add-next c =
    let within = within_so _ c.args.chart.now.known.0 _ c.requires.fit c.args.place c.args.kind c.requires.at c.requires.stepped _ c.listing_length_of.ensures in
    omega (arith, (parts c.args.chart.now.listing.now c.args.chart.now.base c.args.chart.now.known.0).size)

pub slice_bounds-r-end : goal.slice_bounds-r-end
slice_bounds-r-end c = within_so _ c.args.chart.now.known.0 _ c.requires.fit c.args.place c.args.kind c.requires.at c.requires.stepped _ c.listing_length_of.ensures

pub ahead_of-ahead-requires : goal.ahead_of-ahead-requires
ahead_of-ahead-requires c = (ready_so _ c.args.chart.now.known.0 _ c.requires.fit c.args.place c.args.kind c.requires.at c.requires.stepped _ c.listing_length_of.ensures).kind

pub obey-requires : goal.obey-requires
obey-requires c = (ready_so _ c.args.chart.now.known.0 _ c.requires.fit c.args.place c.args.kind c.requires.at c.requires.stepped _ c.listing_length_of.ensures, c.ahead_of-ahead.ensures)

pub returns-in_err-obey : goal.returns-in_err-obey
returns-in_err-obey c =
    let taken = taken_so _ c.args.chart.now.known.0 _ c.requires.fit c.args.place c.args.kind c.requires.at c.requires.stepped _ c.listing_length_of.ensures in
    refused_so _ c.args.chart.now.known.0 _ c.requires.fit c.args.place c.args.kind c.requires.at c.requires.stepped c.in_err-obey.field-0.0 c.obey.new.registers c.obey.new.flags
    c.obey.new.memory (rw taken at c.in_err-obey.ensures) c.from_residual.result c.from_residual.ensures.1

pub waiting_after-after-requires : goal.waiting_after-after-requires
waiting_after-after-requires c = ready_so _ c.args.chart.now.known.0 _ c.requires.fit c.args.place c.args.kind c.requires.at c.requires.stepped _ c.listing_length_of.ensures

pub returns : goal.returns
returns c =
    let taken = taken_so _ c.args.chart.now.known.0 _ c.requires.fit c.args.place c.args.kind c.requires.at c.requires.stepped _ c.listing_length_of.ensures in
    done_so _ c.args.chart.now.known.0 _ c.requires.fit c.args.place c.args.kind c.requires.at c.requires.stepped 0 c.obey.new.registers c.obey.new.flags
    c.obey.new.memory (rw taken at c.in_ok-obey.ensures) refl
    c.ahead_of-ahead.result c.follow-to.result c.kind_at.result c.waiting_after-after.result
    (rw taken at c.waiting_after-after.ensures) (rw taken at c.ahead_of-ahead.ensures)
    (rw c.listing_length_of.ensures at c.follow-to.ensures) c.kind_at.ensures
