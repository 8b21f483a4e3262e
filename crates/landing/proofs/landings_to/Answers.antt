use mathlib.Core.Path.{sym}
use native.Mathlib.Omega.{arith}
use lib.ListN.{length}
use Rattle.landing.proofs.Halves.{middle_of, halved, halved_up, halved_down}
use Rattle.landing.proofs.Entries.{addresses_of, address_at, halves_alike}
use Rattle.landing.proofs.landings_to.Goals as goal

pub loop-from-init : goal.loop-from-init
loop-from-init c =
    let ls = c.args.landings.now in
    let n = length ls in
    record { order = omega arith; within = omega arith; more = n; enough = omega arith; same = sym (halves_alike n ls c.args.address 0 n) }

pub loop-from-preserved-then-landings-middle : goal.loop-from-preserved-then-landings-middle
loop-from-preserved-then-landings-middle c =
    let l = c.loop-from in
    let ls = c.args.landings.now in
    let here = rw (← address_at ls (middle_of l.from l.to)) at c.if-landings-middle.true in
    halved_up (addresses_of ls) (length ls) c.args.address l.from l.to _ l.invariant (omega arith) here

pub loop-from-preserved : goal.loop-from-preserved
loop-from-preserved c =
    let l = c.loop-from in
    let ls = c.args.landings.now in
    let here = rw (← address_at ls (middle_of l.from l.to)) at c.if-landings-middle.false in
    halved_down (addresses_of ls) (length ls) c.args.address l.from l.to _ l.invariant (omega arith) here

pub returns : goal.returns
returns c = let l = c.loop-from in halved _ _ _ l.from l.to _ l.invariant c.loop-from-test.false
