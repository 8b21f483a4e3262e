use Prim.Native.Nat.{suc, ◌+◌, ◌-◌}
use mathlib.Core.Path.{◌≡◌, refl, sym, ap, ◌∙◌}
use native.Mathlib.Omega.{arith}
use borrow.Author.Rules.{rules}
use Rattle.run.specs.Code.{counted}
use Rattle.run.proofs.Spots.{at_spot}
use Rattle.run.proofs.Racing.{over_now, none_left}
use Rattle.run.proofs.race.race.Goals as goal

pub loop-count-init : goal.loop-count-init
loop-count-init c =
    let all : c.args.budget - 0 ≡ c.args.budget = omega arith in
    let at = at_spot _ c.args.chart.now.known.0 _ c.args.from c.requires.at in
    (omega arith, refl, c.requires.fit, rw c.kind_at-kind.ensures at, rw all)

pub returns-then-kind-eq23 : goal.returns-then-kind-eq23
returns-then-kind-eq23 c =
    let l = c.loop-count in
    let a = c.args in
    ap (counted _ l.count) (sym (over_now _ _ (l.invariant.3.none c.if-kind-eq23.true) (a.budget - l.count))) ∙ l.invariant.4

pub take-requires : goal.take-requires
take-requires c =
    let l = c.loop-count in
    record { fit = l.invariant.2; at = l.invariant.3; stepped = c.if-kind-eq23.false }

pub returns-in-Err : goal.returns-in-Err
returns-in-Err c =
    let l = c.loop-count in
    let a = c.args in
    let one : a.budget - l.count ≡ suc (a.budget - (l.count + 1)) = omega (arith, c.loop-count-test.true) in
    ap (counted _ l.count) (sym (c.in-Err.ensures (a.budget - (l.count + 1)))) ∙ (rw one at l.invariant.4)

pub loop-count-preserved : goal.loop-count-preserved
loop-count-preserved c =
    let l = c.loop-count in
    let a = c.args in
    let one : a.budget - l.count ≡ suc (a.budget - (l.count + 1)) = omega (arith, c.loop-count-test.true) in
    let g = c.in-Ok.ensures in
    (omega arith, search rules, g.fit, g.at, sym (g.on l.count (a.budget - (l.count + 1))) ∙ (rw one at l.invariant.4))

pub returns : goal.returns
returns c =
    let l = c.loop-count in
    let a = c.args in
    let all : l.count ≡ a.budget = omega (arith, c.loop-count-test.false, l.invariant.0) in
    let none : a.budget - l.count ≡ 0 = omega (arith, c.loop-count-test.false) in
    rw all at (ap (counted _ l.count) (sym (none_left _ _)) ∙ (rw none at l.invariant.4))

pub kind_at-kind-requires : goal.kind_at-kind-requires
kind_at-kind-requires c = tt

pub shape_of-memory-then-kind-eq23 : goal.shape_of-memory-then-kind-eq23
shape_of-memory-then-kind-eq23 c = c.loop-count.invariant.1

pub shape_of-memory : goal.shape_of-memory
shape_of-memory c = c.loop-count.invariant.1
