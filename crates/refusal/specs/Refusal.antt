-- "The numbers given back": those that refuse, 1 to 7 and 9, each by a name. 0 stands where nothing is refused; 8 and 10 are ends of a run.
use Rattle.std.specs.Prelude.{ℕ, Result, Ok, Err}
use Rattle.refusal.specs.declared.Refusal.{Refusal}
use Rattle.refusal.specs.declared.Refusal.TheVariants.{Unfit, Unreadable, Restricted, Misplaced, Unaligned, Outside, Unsteady, Astray}

abbrev pub number : Refusal → ℕ
number Unfit = 1
number Unreadable = 2
number Restricted = 3
number Misplaced = 4
number Unaligned = 5
number Outside = 6
number Unsteady = 7
number Astray = 9

-- of an answer: 0 unless it is a refusal
abbrev pub number_of : {A : Type 0} → Result A Refusal → ℕ
number_of (Ok x) = 0
number_of (Err refusal) = number refusal
