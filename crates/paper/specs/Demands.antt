-- What is asked of a step in general: one outcome, and a refused step leaves everything as it was given.
use Rattle.std.specs.Prelude.{ℕ, List, ◌≡◌}
use Rattle.word.specs.Sole.{Sole}
use Rattle.setup.specs.declared.Setup.{Setup}
use Rattle.machine.specs.Machine.{Outcome}
use Rattle.machine.specs.declared.Machine.{Machine}
use Rattle.machine.specs.Step.{stepped}

-- "any two outcomes allowed are equal": the contract of `step` says that its answer and the memory that it leaves are `stepped`
abbrev pub Unique : Type 0
Unique = (m : Machine) (r bytes : List ℕ) (setup : Setup) → Sole (stepped m r bytes setup)

-- machine and memory are as given unless the number is 0
abbrev pub AsGiven : Machine → List ℕ → Outcome → Type 0
AsGiven m bytes outcome = (outcome.answer.number ≡ 0 → ⊥) → (outcome.answer.machine ≡ m) × (outcome.memory ≡ bytes)

-- "A refused step writes nothing."
abbrev pub RefusedAsGiven : Type 0
RefusedAsGiven = (m : Machine) (r bytes : List ℕ) (setup : Setup) → AsGiven m bytes (stepped m r bytes setup)
