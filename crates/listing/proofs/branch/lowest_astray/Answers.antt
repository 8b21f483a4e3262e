use mathlib.Core.Path.{◌≡◌, refl}
use native.Mathlib.Omega.{arith}
use lib.ListN.{length}
use Rattle.std.proofs.Common.{◌-◌, ◌+◌}
use Rattle.layout.proofs.Members.{start_on, next_on}
use Rattle.layout.proofs.Turns.{passed, ended, stopped, ends_last, stops_last}
use Rattle.layout.specs.Layout.{layout}
use Rattle.listing.specs.Check.{branch_fault, second_pass}
use Rattle.listing.proofs.Passes.{pass_on, pass_here, pass_last, pass_none}
use Rattle.listing.proofs.Accepted.{sound_low}
use Rattle.listing.proofs.Branches.{branch_number}
use Rattle.listing.proofs.branch.lowest_astray.Goals as goal

pub loop-init : goal.loop-init
unfolding second_pass layout
loop-init c =
    let a = c.args in
    let z : length a.listing.now + 1 - 0 ≡ length a.listing.now + 1 = omega arith in
    rw c.start_of-point.ensures (record { on = start_on a.listing.now a.base; same = rw z })

pub returns-then-is_astray : goal.returns-then-is_astray
returns-then-is_astray c =
    let l = c.loop in
    let a = c.args in
    let listing = a.listing.now in
    let low = sound_low listing a.base c.requires.0 l.point l.invariant.on in
    let g = passed listing l.point _ _ (rw c.in-Ok-Some.field-0-is at c.in-Ok-Some.ensures) (omega arith) in
    let n = branch_number listing a.base _ c.requires.1 l.point _ _ g _ c.is_astray.ensures in
    pass_here _ l.point (length listing + 1 - l.counter) _ _ l.invariant.same (omega arith) _ _ g 9 (rw c.if-is_astray.true at n) refl

pub loop-preserved : goal.loop-preserved
loop-preserved c =
    let l = c.loop in
    let a = c.args in
    let listing = a.listing.now in
    let low = sound_low listing a.base c.requires.0 l.point l.invariant.on in
    let g = passed listing l.point _ _ (rw c.in-Ok-Some.field-0-is at c.in-Ok-Some.ensures) (omega arith) in
    let n = branch_number listing a.base _ c.requires.1 l.point _ _ g _ c.is_astray.ensures in
    let left = length listing + 1 - l.counter in
    let e : length listing + 1 - (l.counter + 1) ≡ left - 1 = omega arith in
    record {
      on = next_on _ _ l.point l.invariant.on _ _ g.goes;
      same = rw e (pass_on _ l.point left _ _ l.invariant.same (omega arith) _ _ g (rw c.if-is_astray.false at n));
    }

pub returns-in-Ok-None : goal.returns-in-Ok-None
unfolding branch_fault
returns-in-Ok-None c =
    let l = c.loop in
    let listing = c.args.listing.now in
    let left = length listing + 1 - l.counter in
    let last = ends_last listing l.point (rw c.in-Ok-None.field-0-is at c.in-Ok-None.ensures) left (omega arith) in
    pass_last listing l.point left _ _ l.invariant.same last 0 (rw (ended listing l.point (rw c.in-Ok-None.field-0-is at c.in-Ok-None.ensures)))

pub returns-in-Err : goal.returns-in-Err
unfolding branch_fault
returns-in-Err c =
    let l = c.loop in
    let listing = c.args.listing.now in
    let left = length listing + 1 - l.counter in
    let last = stops_last listing l.point _ c.in-Err.ensures left (omega arith) in
    pass_last listing l.point left _ _ l.invariant.same last 0 (rw (stopped listing l.point _ c.in-Err.ensures))

pub returns : goal.returns
returns c =
    let l = c.loop in
    pass_none _ l.point (length c.args.listing.now + 1 - l.counter) _ _ l.invariant.same (omega arith)
