use Rattle.std.proofs.Common.{arith, ne_eqb}
use Rattle.little.specs.Little.{byte}
use Rattle.flags.specs.Flags.{passes}
use Rattle.pace.proofs.Table.{own_as}
use Rattle.pace.proofs.Lengths.{there}
use Rattle.pace.proofs.is_passed.Goals as goal

pub bounds-r-0 : goal.bounds-r-0
bounds-r-0 c = let t = there c.args.r.now c.requires in omega (arith, t.0)

pub bounds-r-3 : goal.bounds-r-3
bounds-r-3 c =
    let e = c.if-kind-eq17.true in
    let four = (there c.args.r.now c.requires).1 (λ f. omega (arith, e, f)) in omega (arith, four)

pub returns-then-kind-eq17 : goal.returns-then-kind-eq17
returns-then-kind-eq17 c =
    let a = c.args in
    rw (c.if-first-eq-NONE.true, own_as a.r.now, c.if-kind-eq17.true) c.pass.ensures

pub returns-then-first-eq-NONE : goal.returns-then-first-eq-NONE
unfolding passes
returns-then-first-eq-NONE c =
    let a = c.args in
    rw (c.if-first-eq-NONE.true, own_as a.r.now, ne_eqb (byte a.r.now 0) 17 c.if-kind-eq17.false)

pub returns : goal.returns
returns c =
    let a = c.args in
    rw (ne_eqb a.first 15 c.if-first-eq-NONE.false) c.pass-2.ensures
