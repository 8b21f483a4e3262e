use Rattle.std.proofs.Common.{arith, ne_eqb}
use Rattle.little.specs.Little.{byte}
use Rattle.waiting.specs.Waiting.{dropped}
use Rattle.pace.proofs.Table.{after_as}
use Rattle.pace.proofs.Lengths.{there, block_there}
use Rattle.pace.proofs.waiting_after.Goals as goal

pub bounds-r-0 : goal.bounds-r-0
bounds-r-0 c = let t = there c.args.r.now c.requires.kind in omega (arith, t.0)

pub bounds-r-2 : goal.bounds-r-2
bounds-r-2 c =
    let r = c.args.r.now in
    let five = block_there r c.requires.kind c.if-kind-eq20.true in omega (arith, five)

pub bounds-r-3 : goal.bounds-r-3
bounds-r-3 c =
    let r = c.args.r.now in
    let five = block_there r c.requires.kind c.if-kind-eq20.true in omega (arith, five)

pub bounds-r-4 : goal.bounds-r-4
bounds-r-4 c =
    let r = c.args.r.now in
    let five = block_there r c.requires.kind c.if-kind-eq20.true in omega (arith, five)

pub returns-then-kind-eq20 : goal.returns-then-kind-eq20
returns-then-kind-eq20 c =
    let t = c.if-kind-eq20.true in
    let a = c.args in
    rw (after_as a.r.now a.waiting, t) c.block_of.ensures

pub returns-then-waiting-eq-NONE : goal.returns-then-waiting-eq-NONE
unfolding dropped
returns-then-waiting-eq-NONE c =
    let a = c.args in
    let w = c.requires.none_waits c.if-waiting-eq-NONE.true in
    rw (after_as a.r.now a.waiting, ne_eqb (byte a.r.now 0) 20 c.if-kind-eq20.false, w)

pub returns : goal.returns
returns c =
    let a = c.args in
    rw (after_as a.r.now a.waiting, ne_eqb (byte a.r.now 0) 20 c.if-kind-eq20.false) c.drop_first.ensures
