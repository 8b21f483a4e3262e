-- One outcome; and a refused step hands back what it was given.
use Prim.Native.Nat.{ℕ, ◌≤◌}
use mathlib.Core.Bool.{true, ◌&&◌}
use mathlib.Core.List.{List}
use mathlib.Core.Path.{◌≡◌, refl}
use native.Mathlib.Omega.{arith}
use borrow.Author.Tests.{eqb-false}
use lib.Dec.{eqb}
use Rattle.std.specs.Prelude.{Option, Some, None}
use Rattle.word.proofs.Cases.{both_true, chosen}
use Rattle.word.proofs.Sole.{one_outcome}
use Rattle.waiting.specs.Waiting.{waiting_count}
use Rattle.setup.specs.declared.Setup.{Setup}
use Rattle.setup.specs.Setup.{fits}
use Rattle.record.specs.declared.Record.{Record}
use Rattle.reading.specs.Reading.{read_one}
use Rattle.judge.specs.Judge.{refusal}
use Rattle.judge.proofs.Laws.{refusal_low}
use Rattle.machine.specs.declared.Machine.{Machine}
use Rattle.machine.specs.Machine.{good, skipped, refused, done, steady, Outcome, keeping}
use Rattle.machine.specs.Step.{obeyed, considered, stepped}
use Rattle.paper.specs.Demands.{Unique, AsGiven, RefusedAsGiven}
use Rattle.paper.proofs.Registers.{good_steady}
use Rattle.paper.proofs.Writes.{each}
use Rattle.paper.proofs.Holds.{obeyed_holds}

pub unique : Unique
unique m r bytes setup = one_outcome (stepped m r bytes setup)

-- ---- every step: refused with 1 to 7 and as given, or done
module _
    (m : Machine) (bytes : List ℕ) (setup : Setup) (P : Outcome → Type 0)
    (stop : (n : ℕ) → 1 ≤ n → n ≤ 7 → P (keeping (refused n m) bytes))
    (went : (x : Machine) (after : List ℕ) → P (record { answer = done x; memory = after }))
  where
    of_obeyed : (r : Record) → steady m ≡ true → P (obeyed m r bytes setup)
    of_obeyed r firm =
        obeyed_holds m bytes setup P (λ x. Unit {0}) (λ k v. Unit {0})
        (record { stop = λ n h. stop n (omega arith) h.1; went = λ x after q s l. went x after })
        (record { write = λ x k v w q. tt; flag = λ x f q. tt })
        firm r (each m (λ k v. Unit {0}) (λ k v. tt) r) (λ e. tt) (λ e. went (skipped m r) bytes)

    of_considered : (read : Option Record) → steady m ≡ true → P (considered m read bytes setup)
    unfolding considered
    of_considered None firm = stop 2 (omega arith) (omega arith)
    of_considered (Some r) firm =
        let n = refusal r (waiting_count m.waiting) in
        chosen P (eqb n 0) _ _
        (λ e. of_obeyed r firm)
        (λ e. stop n (omega (arith, eqb-false n 0 e)) (omega (arith, refusal_low r (waiting_count m.waiting))))

    pub stepped_holds : (r : List ℕ) → P (stepped m r bytes setup)
    unfolding stepped
    stepped_holds r =
        chosen P (good m && fits setup bytes) _ _
        (λ e. of_considered (read_one r) (good_steady m (both_true (good m) (fits setup bytes) e).0))
        (λ e. stop 1 (omega arith) (omega arith))

pub refused_as_given : RefusedAsGiven
unfolding refused done
refused_as_given m r bytes setup =
    stepped_holds m bytes setup (AsGiven m bytes) (λ n low high h. (refl, refl)) (λ x after h. absurd (h refl)) r

-- a step gives 0 to 7
pub step_number : (m : Machine) (r bytes : List ℕ) (setup : Setup) → (stepped m r bytes setup).answer.number ≤ 7
unfolding refused done
step_number m r bytes setup =
    stepped_holds m bytes setup (λ o. o.answer.number ≤ 7) (λ n low high. high) (λ x after. omega arith) r
