use mathlib.Core.Path.{◌≡◌, sym, ◌∙◌}
use native.Mathlib.Omega.{arith}
use lib.ListN.{length}
use Rattle.std.proofs.Common.{◌-◌, ◌+◌}
use Rattle.layout.proofs.Points.{within_start, within_next}
use Rattle.layout.proofs.Turns.{passed, ended, stopped, ends_last, stops_last}
use Rattle.listing.proofs.Passes.{pass_on, pass_last, pass_none}
use Rattle.layout.specs.Layout.{layout}
use Rattle.listing.specs.Check.{fault, first_pass}
use Rattle.listing.proofs.first_pass_of.Goals as goal

pub loop-init : goal.loop-init
unfolding first_pass layout
loop-init c =
    let a = c.args in
    let z : length a.listing.now + 1 - 0 ≡ length a.listing.now + 1 = omega arith in
    rw c.start_of-point.ensures (record { within = within_start a.listing.now a.base; same = rw z })

pub loop-preserved : goal.loop-preserved
unfolding fault
loop-preserved c =
    let l = c.loop in
    let listing = c.args.listing.now in
    let w = l.invariant.within in
    let g = passed listing l.point _ _ (rw c.in-Ok-Some.field-0-is at c.in-Ok-Some.ensures) (omega (arith, c.requires)) in
    let left = length listing + 1 - l.counter in
    let e : length listing + 1 - (l.counter + 1) ≡ left - 1 = omega arith in
    record {
      within = within_next listing l.point _ _ g.goes c.args.base w;
      same = rw e (pass_on listing l.point left _ _ l.invariant.same (omega arith) _ _ g (rw g.goes));
    }

pub returns-in-Ok-None : goal.returns-in-Ok-None
unfolding fault
returns-in-Ok-None c =
    let l = c.loop in
    let listing = c.args.listing.now in
    let left = length listing + 1 - l.counter in
    let e = ended listing l.point (rw c.in-Ok-None.field-0-is at c.in-Ok-None.ensures) in
    let last = ends_last listing l.point (rw c.in-Ok-None.field-0-is at c.in-Ok-None.ensures) left (omega arith) in
    c.report_of.ensures ∙ pass_last listing l.point left _ _ l.invariant.same last _ (rw e (sym c.end_fault_of.ensures))

pub returns-in-Err : goal.returns-in-Err
unfolding fault
returns-in-Err c =
    let l = c.loop in
    let listing = c.args.listing.now in
    let left = length listing + 1 - l.counter in
    let e = stopped listing l.point _ c.in-Err.ensures in
    let last = stops_last listing l.point _ c.in-Err.ensures left (omega arith) in
    c.report_of-in-Err.ensures ∙ pass_last listing l.point left _ _ l.invariant.same last _ (rw e)

pub returns : goal.returns
returns c =
    let l = c.loop in
    pass_none _ l.point (length c.args.listing.now + 1 - l.counter) _ _ l.invariant.same (omega arith)
