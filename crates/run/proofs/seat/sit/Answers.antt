use mathlib.Core.Path.{◌∙◌, ap}
use Rattle.layout.specs.Layout.{meets}
use Rattle.layout.specs.Code.{seen_filled}
use Rattle.layout.proofs.Turns.{seen_as}
use Rattle.run.specs.Code.{sat}
use Rattle.run.proofs.seat.sit.Goals as goal

pub returns-then-is_filled : goal.returns-then-is_filled
unfolding sat
returns-then-is_filled c =
    let a = c.args in
    let told = c.is_filled.ensures ∙ (ap seen_filled c.see.ensures ∙ seen_as (meets a.listing.now a.point)) in
    rw (← told, c.if-is_filled.true) c.no_seat.ensures

pub returns : goal.returns
unfolding sat
returns c =
    let a = c.args in
    let told = c.is_filled.ensures ∙ (ap seen_filled c.see.ensures ∙ seen_as (meets a.listing.now a.point)) in
    rw (← told, c.if-is_filled.false) c.seat_at.ensures
