-- Number and place of a run, with its count and what it leaves, tell what the code answers.
use Rattle.std.specs.Prelude.{ℕ, eqb}
use Rattle.std.specs.Bool.{if◌then◌else◌}
use Rattle.std.proofs.Common.{◌≡◌, refl}
use mathlib.Core.Path.{sym, ap, ◌∙◌}
use Rattle.reading.specs.declared.Place.{Place}
use Rattle.refusal.specs.declared.Refusal.TheVariants.{Unfit, Unreadable, Restricted, Misplaced, Unaligned, Outside, Unsteady, Astray}
use Rattle.refusal.proofs.Told.{named}
use Rattle.run.specs.declared.End.{End}
use Rattle.run.specs.declared.End.TheVariants.{AtEnd, Refused, Nowhere, UsedUp}
use Rattle.run.specs.declared.Ran as Code
use Rattle.run.specs.declared.Halted as CodeHalted
use Rattle.run.specs.Run.{Ran}
use Rattle.run.specs.Place.{Halted}
use Rattle.run.specs.Ended.{end_number, end_place, as_ran, as_halted}

-- the end of a number and a place
abbrev ended : ℕ → Place → End
ended n place =
    if eqb n 0 then AtEnd
    else (if eqb n 8 then Nowhere
    else (if eqb n 10 then UsedUp
    else Refused (named n) place))

ended_again : (e : End) → ended (end_number e) (end_place e) ≡ e
ended_again AtEnd = refl
ended_again (Refused Unfit place) = refl
ended_again (Refused Unreadable place) = refl
ended_again (Refused Restricted place) = refl
ended_again (Refused Misplaced place) = refl
ended_again (Refused Unaligned place) = refl
ended_again (Refused Outside place) = refl
ended_again (Refused Unsteady place) = refl
ended_again (Refused Astray place) = refl
ended_again Nowhere = refl
ended_again UsedUp = refl

abbrev ran_again : Ran → Code.Ran
ran_again r = record { end = ended r.number r.place; count = r.count; machine = r.machine }

abbrev halted_again : Halted → CodeHalted.Halted
halted_again r = record { end = ended r.number r.place; count = r.count; running = r.running }

ran_is : (r : Code.Ran) → ran_again (as_ran r) ≡ r
ran_is r = ap (λ e. record { end = e; count = r.count; machine = r.machine }) (ended_again r.end)

halted_is : (r : CodeHalted.Halted) → halted_again (as_halted r) ≡ r
halted_is r = ap (λ e. record { end = e; count = r.count; running = r.running }) (ended_again r.end)

pub one_ran : (a b : Code.Ran) → as_ran a ≡ as_ran b → a ≡ b
one_ran a b e = sym (ran_is a) ∙ ap ran_again e ∙ ran_is b

pub one_halted : (a b : CodeHalted.Halted) → as_halted a ≡ as_halted b → a ≡ b
one_halted a b e = sym (halted_is a) ∙ ap halted_again e ∙ halted_is b
