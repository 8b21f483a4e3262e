use Rattle.std.proofs.Common.{◌≡◌, true, false, ◌||◌, eqb, arith}
use borrow.Author.Tests.{eqb-false}
use Rattle.word.proofs.Cases.{neither}
use Rattle.little.specs.Little.{byte}
use Rattle.pace.proofs.Table.{length_as}
use Rattle.pace.proofs.Lengths.{there}
use Rattle.pace.proofs.length_of.Goals as goal

pub bounds-r-0 : goal.bounds-r-0
bounds-r-0 c = let t = there c.args.r.now c.requires in omega (arith, t.0)

pub bounds-r-1 : goal.bounds-r-1
bounds-r-1 c =
    let t = there c.args.r.now c.requires in omega (arith, t.0)

pub returns-then-without_op : goal.returns-then-without_op
returns-then-without_op c =
    let k = c.requires in
    let r = c.args.r.now in
    let t : (eqb (byte r 0) 20 || eqb (byte r 0) 21) ≡ true = c.if-without_op.true in
    rw (length_as r k.least k.most, t) c.form_length_of.ensures

pub bounds-r-2 : goal.bounds-r-2
bounds-r-2 c =
    let r = c.args.r.now in
    let t : (eqb (byte r 0) 20 || eqb (byte r 0) 21) ≡ false = c.if-without_op.false in
    let four = (there r c.requires).1 (eqb-false (byte r 0) 21 (neither (eqb (byte r 0) 20) (eqb (byte r 0) 21) t).1) in
    omega (arith, four)

pub returns : goal.returns
returns c =
    let k = c.requires in
    let r = c.args.r.now in
    let t : (eqb (byte r 0) 20 || eqb (byte r 0) 21) ≡ false = c.if-without_op.false in
    rw (length_as r k.least k.most, t) c.form_length_of-2.ensures
