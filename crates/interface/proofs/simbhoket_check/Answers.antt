use native.Mathlib.Omega.{arith}
use Rattle.listing.proofs.Accepted.{checked_place}
use Rattle.interface.specs.Interface.{reported}
use Rattle.interface.proofs.simbhoket_check.Goals as goal

pub overflow_cast-place : goal.overflow_cast-place
overflow_cast-place c =
    let a = c.args in
    let h = rw (← c.in-Err.ensures) at (checked_place a.listing.now a.base) in
    omega arith

pub returns-in-Ok : goal.returns-in-Ok
unfolding reported
returns-in-Ok c = rw (← c.in-Ok.ensures)

pub returns-in-Err : goal.returns-in-Err
unfolding reported
returns-in-Err c = rw (c.pair_of.ensures, ← c.in-Err.ensures, c.from.ensures)
