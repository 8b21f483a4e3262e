use mathlib.Core.Path.{◌∙◌}
use native.Mathlib.Omega.{arith}
use Rattle.layout.proofs.Points.{rises}
use Rattle.layout.proofs.Turns.{Passed, passed, ended, stopped}
use Rattle.run.specs.Code.{Ahead}
use Rattle.run.proofs.Seats.{ahead_on, ahead_last, ahead_past, ahead_here, ahead_within}
use Rattle.run.proofs.chart.Chart.seek.Goals as goal
use Rattle.run.proofs.chart.Chart.seek.Goals.{In-Ok-Some}

pub loop-point-init : goal.loop-point-init
loop-point-init c = c.requires

-- the record before the address was seen
went : (c : In-Ok-Some) → let l = c.loop-point in
    Passed c.args.self.now.listing.now l.point c.in-Ok-Some.field-0-0-0 c.in-Ok-Some.next
went c =
    let l = c.loop-point in
    passed c.args.self.now.listing.now l.point _ _ (rw c.in-Ok-Some.field-0-is at c.in-Ok-Some.ensures) (omega (arith, c.loop-point-test.true, c.ranges.address))

next_ahead : (c : In-Ok-Some) → let a = c.args in
    Ahead a.self.now.listing.now a.self.now.base a.address c.in-Ok-Some.next
next_ahead c =
    let l = c.loop-point in
    ahead_on c.args.self.now.listing.now c.args.self.now.base c.args.self.now.known.0 c.args.address l.point l.invariant c.loop-point-test.true _ _ (went c)

pub loop-point-smaller : goal.loop-point-smaller
loop-point-smaller c =
    let l = c.loop-point in
    let up = rises c.args.self.now.listing.now l.point (went c).what _ (went c).goes in
    omega (arith, up, ahead_within c.args.self.now.listing.now c.args.self.now.base c.args.self.now.known.0 c.args.address _ (next_ahead c))

pub loop-point-preserved : goal.loop-point-preserved
loop-point-preserved c = next_ahead c

pub returns-in-Ok-None : goal.returns-in-Ok-None
returns-in-Ok-None c =
    let l = c.loop-point in
    let over = ended c.args.self.now.listing.now l.point (rw c.in-Ok-None.field-0-is at c.in-Ok-None.ensures) in
    c.no_seat.ensures
    ∙ ahead_last c.args.self.now.listing.now c.args.self.now.base c.args.self.now.known.0 c.args.address l.point l.invariant c.loop-point-test.true
    (λ r q e. absurd (cc))

pub returns-in-Err : goal.returns-in-Err
returns-in-Err c =
    let l = c.loop-point in
    let over = stopped c.args.self.now.listing.now l.point _ c.in-Err.ensures in
    c.no_seat-in-Err.ensures
    ∙ ahead_last c.args.self.now.listing.now c.args.self.now.base c.args.self.now.known.0 c.args.address l.point l.invariant c.loop-point-test.true
    (λ r q e. absurd (cc))

pub returns-then-point-address : goal.returns-then-point-address
returns-then-point-address c =
    let l = c.loop-point in
    c.sit.ensures
    ∙ ahead_here c.args.self.now.listing.now c.args.self.now.base c.args.self.now.known.0 c.args.address l.point l.invariant c.if-point-address.true

pub returns : goal.returns
returns c =
    let l = c.loop-point in
    c.no_seat-2.ensures
    ∙ ahead_past c.args.self.now.listing.now c.args.self.now.base c.args.self.now.known.0 c.args.address l.point l.invariant (omega (arith, c.if-point-address.false, c.loop-point-test.false))
