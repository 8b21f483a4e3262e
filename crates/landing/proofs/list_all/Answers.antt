use mathlib.Core.Path.{◌≡◌, refl, ◌∙◌}
use borrow.Author.Rules.{rules}
use native.Mathlib.Omega.{arith}
use borrow.Author.Tests.{lt-ltb, le-ltb}
use lib.ListN.{length}
use Rattle.std.proofs.Common.{◌-◌, ◌+◌}
use Rattle.layout.specs.Layout.{layout}
use Rattle.layout.proofs.Members.{start_on, next_on, on_within}
use Rattle.layout.proofs.Turns.{passed, ends_last, stops_last}
use Rattle.landing.specs.Code.{tabled}
use Rattle.landing.proofs.Tabling.{seen_lands, entered_on, entered_last, entered_none}
use Rattle.landing.proofs.list_all.Goals as goal

pub returns-then-listing-gt65536 : goal.returns-then-listing-gt65536
unfolding tabled
returns-then-listing-gt65536 c = rw (lt-ltb 65536 _ c.if-listing-gt65536.true)

pub loop-init : goal.loop-init
unfolding tabled layout
loop-init c =
    let a = c.args in
    let z : length a.listing.now + 1 - 0 ≡ length a.listing.now + 1 = omega arith in
    rw c.start_of-point.ensures (record {
      on = start_on a.listing.now a.base;
      long = refl;
      wide = refl;
      same = rw (z, le-ltb 65536 (length a.listing.now) c.if-listing-gt65536.false);
    })

pub loop-preserved : goal.loop-preserved
loop-preserved c =
    let l = c.loop in
    let a = c.args in
    let listing = a.listing.now in
    let w = on_within listing a.base l.point l.invariant.on in
    let left = length listing + 1 - l.counter in
    let n : length listing + 1 - (l.counter + 1) ≡ left - 1 = omega arith in
    let g = passed listing l.point _ _ (rw (c.in-Ok-Some.is, rw c.in-Ok-Some.is at c.in-Ok-Some.field-0-is) at c.see-seen.ensures) (omega (arith, w.to, w.inside, c.if-listing-gt65536.false, c.ranges.base)) in
    record {
      on = next_on listing a.base l.point l.invariant.on g.what _ g.goes;
      long = search rules;
      wide = search rules;
      same =
          rw (n, c.enter-count.ensures, c.is_landing.ensures ∙ seen_lands listing l.point _ c.see-seen.ensures)
          (entered_on listing a.base _ l.point left _ l.invariant.same (omega arith) _ _ g);
    }

pub returns-in-Ok-None : goal.returns-in-Ok-None
returns-in-Ok-None c =
    let l = c.loop in
    let listing = c.args.listing.now in
    let last = ends_last listing l.point (rw (c.in-Ok-None.is, rw c.in-Ok-None.is at c.in-Ok-None.field-0-is) at c.see-seen.ensures) (length listing + 1 - l.counter) (omega arith) in
    rw (c.enter-count.ensures, c.is_landing.ensures ∙ seen_lands listing l.point _ c.see-seen.ensures) (entered_last listing c.args.base _ l.point _ _ l.invariant.same last)

pub returns-in-Err : goal.returns-in-Err
returns-in-Err c =
    let l = c.loop in
    let listing = c.args.listing.now in
    let last = stops_last listing l.point _ (rw c.in-Err.is at c.see-seen.ensures) (length listing + 1 - l.counter) (omega arith) in
    rw (c.enter-count.ensures, c.is_landing.ensures ∙ seen_lands listing l.point _ c.see-seen.ensures) (entered_last listing c.args.base _ l.point _ _ l.invariant.same last)

pub returns : goal.returns
returns c =
    let l = c.loop in
    entered_none c.args.listing.now c.args.base _ l.point (length c.args.listing.now + 1 - l.counter) _ l.invariant.same (omega arith)
