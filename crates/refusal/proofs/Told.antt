-- A refusal's number tells which one it is, and an answer's whether it is one.
use Rattle.std.specs.Prelude.{ℕ, Result, Ok, Err, [], ◌∷◌, eqb, get_or}
use Rattle.std.specs.Bool.{if◌then◌else◌}
use Rattle.std.proofs.Common.{◌≡◌, refl}
use mathlib.Core.Path.{sym, ap, ◌∙◌}
use Rattle.refusal.specs.declared.Refusal.{Refusal}
use Rattle.refusal.specs.declared.Refusal.TheVariants.{Unfit, Unreadable, Restricted, Misplaced, Unaligned, Outside, Unsteady, Astray}
use Rattle.refusal.specs.Refusal.{number, number_of}

-- the refusal of a number
abbrev pub named : ℕ → Refusal
named n = get_or (Unfit ∷ Unfit ∷ Unreadable ∷ Restricted ∷ Misplaced ∷ Unaligned ∷ Outside ∷ Unsteady ∷ []) n Astray

pub named_again : (refusal : Refusal) → named (number refusal) ≡ refusal
named_again Unfit = refl
named_again Unreadable = refl
named_again Restricted = refl
named_again Misplaced = refl
named_again Unaligned = refl
named_again Outside = refl
named_again Unsteady = refl
named_again Astray = refl

-- the answer that is told by a number
abbrev answer : ℕ → Result Unit Refusal
answer n = if eqb n 0 then Ok tt else Err (named n)

again : (a : Result Unit Refusal) → answer (number_of a) ≡ a
again (Ok x) = refl
again (Err Unfit) = refl
again (Err Unreadable) = refl
again (Err Restricted) = refl
again (Err Misplaced) = refl
again (Err Unaligned) = refl
again (Err Outside) = refl
again (Err Unsteady) = refl
again (Err Astray) = refl

pub one_number : (a b : Result Unit Refusal) → number_of a ≡ number_of b → a ≡ b
one_number a b e = sym (again a) ∙ ap answer e ∙ again b
