use Rattle.std.proofs.Common.{◌≡◌, true, false, ◌||◌, eqb, arith, eqb-true}
use borrow.Author.Tests.{eqb-false}
use Rattle.word.proofs.Cases.{cases, either_true, neither}
use Rattle.little.specs.Little.{byte}
use Rattle.machine.specs.Machine.{done}
use Rattle.pace.proofs.Lengths.{there}
use Rattle.pace.proofs.Passing.{only_on}
use Rattle.pace.proofs.take_effect.Goals as goal

pub bounds-r-0 : goal.bounds-r-0
bounds-r-0 c = let t = there c.args.r.now c.requires in omega (arith, t.0)

pub returns-then-kind-lt4 : goal.returns-then-kind-lt4
returns-then-kind-lt4 c = let a = c.args in c.operate.ensures a.memory.now a.setup

pub access_one-requires : goal.access_one-requires
access_one-requires c =
    let kind = byte c.args.r.now 0 in
    let t : (eqb kind 13 || eqb kind 14) ≡ true = c.if-accesses.true in
    cases (either_true (eqb kind 13) (eqb kind 14) t)
    (λ e. let f = eqb-true kind 13 e in record { least = omega (arith, f); most = omega (arith, f); sound = c.requires.sound })
    (λ e. let f = eqb-true kind 14 e in record { least = omega (arith, f); most = omega (arith, f); sound = c.requires.sound })

pub returns-then-accesses : goal.returns-then-accesses
returns-then-accesses c = let a = c.args in c.access_one.ensures a.flags.now

pub returns-in-4 : goal.returns-in-4
returns-in-4 c = let a = c.args in c.add_a_number.ensures a.flags.now a.memory.now a.setup

pub returns-in-5 : goal.returns-in-5
returns-in-5 c = let a = c.args in c.move_a_number.ensures a.flags.now a.memory.now a.setup

pub returns-in-6 : goal.returns-in-6
returns-in-6 c = let a = c.args in c.operate_unary.ensures a.flags.now a.memory.now a.setup

pub returns-in-7 : goal.returns-in-7
returns-in-7 c = let a = c.args in c.multiply.ensures a.memory.now a.setup

pub returns-in-8 : goal.returns-in-8
returns-in-8 c = let a = c.args in c.multiply_long.ensures a.flags.now a.memory.now a.setup

pub returns-in-9 : goal.returns-in-9
returns-in-9 c = let a = c.args in c.divide.ensures a.flags.now a.memory.now a.setup

pub returns-in-10 : goal.returns-in-10
returns-in-10 c = let a = c.args in c.saturate.ensures a.memory.now a.setup

pub returns-in-11 : goal.returns-in-11
returns-in-11 c = let a = c.args in c.set_field.ensures a.flags.now a.memory.now a.setup

pub returns-in-12 : goal.returns-in-12
returns-in-12 c = let a = c.args in c.extend.ensures a.flags.now a.memory.now a.setup

pub returns-in-15 : goal.returns-in-15
returns-in-15 c = let a = c.args in c.access_two.ensures a.flags.now

pub returns-in-16 : goal.returns-in-16
returns-in-16 c = let a = c.args in c.access_many.ensures a.flags.now

pub returns-in-17 : goal.returns-in-17
returns-in-17 c = let a = c.args in c.branch_off.ensures a.flags.now a.memory.now a.setup

pub returns-in-18 : goal.returns-in-18
returns-in-18 c = let a = c.args in c.branch_to_register.ensures a.flags.now a.memory.now a.setup

pub returns-in-19 : goal.returns-in-19
returns-in-19 c = let a = c.args in c.compare_and_branch.ensures a.flags.now a.memory.now a.setup

pub returns-in-22 : goal.returns-in-22
returns-in-22 c = let a = c.args in c.branch_by_table.ensures a.flags.now

pub returns-in_default : goal.returns-in_default
unfolding done
returns-in_default c =
    let r = c.args.r.now in
    let t : (eqb (byte r 0) 13 || eqb (byte r 0) 14) ≡ false = c.if-accesses.false in
    let n = neither (eqb (byte r 0) 13) (eqb (byte r 0) 14) t in
    λ w v. rw (only_on r _ _ _ _ c.in_default.in_default-own.rest c.if-kind-lt4.false c.requires.most (eqb-false (byte r 0) 13 n.0) (eqb-false (byte r 0) 14 n.1), c.put.ensures)
