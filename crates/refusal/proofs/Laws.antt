-- Every refusal has a number.
use Rattle.std.proofs.Common.{◌≡◌, false, eqb, refl}
use Rattle.refusal.specs.declared.Refusal.{Refusal}
use Rattle.refusal.specs.declared.Refusal.TheVariants.{Unfit, Unreadable, Restricted, Misplaced, Unaligned, Outside, Unsteady, Astray}
use Rattle.refusal.specs.Refusal.{number}

pub some_number : (refusal : Refusal) → eqb (number refusal) 0 ≡ false
some_number Unfit = refl
some_number Unreadable = refl
some_number Restricted = refl
some_number Misplaced = refl
some_number Unaligned = refl
some_number Outside = refl
some_number Unsteady = refl
some_number Astray = refl
