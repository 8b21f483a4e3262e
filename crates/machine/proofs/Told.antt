-- A step's number and machine tell what the code answers.
use Rattle.std.specs.Prelude.{Result, Ok, Err, eqb}
use Rattle.std.specs.Bool.{if◌then◌else◌}
use Rattle.std.proofs.Common.{◌≡◌, refl}
use mathlib.Core.Path.{sym, ap, ◌∙◌}
use Rattle.refusal.specs.declared.Refusal.{Refusal}
use Rattle.refusal.specs.declared.Refusal.TheVariants.{Unfit, Unreadable, Restricted, Misplaced, Unaligned, Outside, Unsteady, Astray}
use Rattle.refusal.proofs.Told.{named}
use Rattle.machine.specs.declared.Machine.{Machine}
use Rattle.machine.specs.Machine.{Stepped, refused, done, answered}

abbrev answer : Stepped → Result Machine Refusal
answer s = if eqb s.number 0 then Ok s.machine else Err (named s.number)

again : (m : Machine) (a : Result Machine Refusal) → answer (answered m a) ≡ a
unfolding refused done
again m (Ok next) = refl
again m (Err Unfit) = refl
again m (Err Unreadable) = refl
again m (Err Restricted) = refl
again m (Err Misplaced) = refl
again m (Err Unaligned) = refl
again m (Err Outside) = refl
again m (Err Unsteady) = refl
again m (Err Astray) = refl

pub one_answered : (m : Machine) (a b : Result Machine Refusal) → answered m a ≡ answered m b → a ≡ b
one_answered m a b e = sym (again m a) ∙ ap answer e ∙ again m b
