use mathlib.Core.Path.{refl}
use native.Mathlib.Omega.{arith}
use Rattle.landing.proofs.Halves.{halved, halved_up, halved_down}
use Rattle.landing.proofs.entries_to.Goals as goal

pub loop-low-init : goal.loop-low-init
loop-low-init c = record { order = omega arith; within = omega arith; more = c.args.count; enough = omega arith; same = refl }

pub loop-low-preserved-then-addresses-middle : goal.loop-low-preserved-then-addresses-middle
loop-low-preserved-then-addresses-middle c =
    let l = c.loop-low in
    let a = c.args in
    halved_up a.addresses.now a.count a.address l.low l.high _ l.invariant (omega arith) c.if-addresses-middle.true

pub loop-low-preserved : goal.loop-low-preserved
loop-low-preserved c =
    let l = c.loop-low in
    let a = c.args in
    halved_down a.addresses.now a.count a.address l.low l.high _ l.invariant (omega arith) c.if-addresses-middle.false

pub returns : goal.returns
returns c = let l = c.loop-low in halved _ _ _ l.low l.high _ l.invariant c.loop-low-test.false
