use mathlib.Core.Path.{sym}
use native.Mathlib.Omega.{arith}
use Rattle.landing.specs.Code.{last_in_table}
use Rattle.landing.proofs.Halves.{passed_within, last_none, last_before}
use Rattle.landing.proofs.last_in_table.Goals as goal

pub returns-then-at-eq0 : goal.returns-then-at-eq0
unfolding last_in_table
returns-then-at-eq0 c =
    let bound = rw c.min.ensures at c.min-all.ensures in
    rw (← bound, ← c.entries_to-at.ensures) (sym (last_none c.entries_to-at.result _ c.if-at-eq0.true))

pub offset_bounds-addresses-at : goal.offset_bounds-addresses-at
offset_bounds-addresses-at c = omega (arith, c.min.ensures, c.min-all.ensures, passed_within _ _ _ _ c.entries_to-at.ensures)

pub bounds-addresses-at : goal.bounds-addresses-at
bounds-addresses-at c = omega (arith, c.min.ensures, c.min-all.ensures, passed_within _ _ _ _ c.entries_to-at.ensures)

pub offset_bounds-places-at : goal.offset_bounds-places-at
offset_bounds-places-at c = omega (arith, c.min.ensures, c.min-all.ensures, passed_within _ _ _ _ c.entries_to-at.ensures)

pub bounds-places-at : goal.bounds-places-at
bounds-places-at c = omega (arith, c.min.ensures, c.min-all.ensures, passed_within _ _ _ _ c.entries_to-at.ensures)

pub returns : goal.returns
unfolding last_in_table
returns c =
    let bound = rw c.min.ensures at c.min-all.ensures in
    rw (← bound, ← c.entries_to-at.ensures) (sym (last_before c.entries_to-at.result _ (omega arith)))
