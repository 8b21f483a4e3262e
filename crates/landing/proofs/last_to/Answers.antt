use mathlib.Core.Path.{sym}
use native.Mathlib.Omega.{arith}
use Rattle.landing.specs.Code.{last_to}
use Rattle.landing.proofs.Entries.{list_passed_within, last_of_none, last_of_some}
use Rattle.landing.proofs.last_to.Goals as goal

pub returns-then-passed-eq0 : goal.returns-then-passed-eq0
unfolding last_to
returns-then-passed-eq0 c = rw (← c.landings_to-passed.ensures) (sym (last_of_none c.landings_to-passed.result _ c.if-passed-eq0.true))

pub offset_bounds-landings-passed : goal.offset_bounds-landings-passed
offset_bounds-landings-passed c = omega (arith, list_passed_within _ _ _ c.landings_to-passed.ensures)

pub bounds-landings-passed : goal.bounds-landings-passed
bounds-landings-passed c = omega (arith, list_passed_within _ _ _ c.landings_to-passed.ensures)

pub returns : goal.returns
unfolding last_to
returns c = rw (← c.landings_to-passed.ensures) (sym (last_of_some c.landings_to-passed.result _ (omega arith)))
