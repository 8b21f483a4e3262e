-- Number and place of a check tell what the code answers.
use Rattle.std.specs.Prelude.{Result, Ok, Err, eqb}
use Rattle.std.specs.Bool.{if◌then◌else◌}
use Rattle.std.proofs.Common.{◌≡◌, refl}
use mathlib.Core.Path.{sym, ap, ◌∙◌}
use Rattle.refusal.proofs.Laws.{some_number}
use Rattle.refusal.proofs.Told.{named, named_again}
use Rattle.listing.specs.declared.Misfit.{Misfit}
use Rattle.listing.specs.Check.{Checked}
use Rattle.listing.specs.Code.{as_checked}

abbrev answer : Checked → Result Unit Misfit
answer c = if eqb c.number 0 then Ok tt else Err (record { refusal = named c.number; place = c.place })

again : (a : Result Unit Misfit) → answer (as_checked a) ≡ a
again (Ok x) = refl
again (Err misfit) = rw (some_number misfit.refusal, named_again misfit.refusal)

pub one_checked : (a b : Result Unit Misfit) → as_checked a ≡ as_checked b → a ≡ b
one_checked a b e = sym (again a) ∙ ap answer e ∙ again b
