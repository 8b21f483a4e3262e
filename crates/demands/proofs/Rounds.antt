-- One case principle over the rounds of a run.
use Prim.Native.Nat.{ℕ, zero, suc}
use mathlib.Core.Bool.{Bool, true, false}
use mathlib.Core.Path.{◌≡◌, refl}
use borrow.Author.Tests.{eqb-true, eqb-false, eq-eqb}
use lib.Dec.{eqb}
use Rattle.layout.specs.Layout.{AtAddress, Stands, End, Stray}
use Rattle.machine.specs.Machine.{Outcome}
use Rattle.std.specs.Bool.{if◌then◌else◌}
use Rattle.record.specs.declared.Record.{Record}
use Rattle.layout.specs.declared.Point.{Point}
use Rattle.run.specs.Run.{Rehearsal, State, Passage, Course, Over, Done, faced, attempted, round_at, round, over, led_by, continued, used_up, rounds}
use Rattle.run.proofs.Rounds.{step_there}
use Rattle.run.proofs.Steps.{next_state}

module _ (h : Rehearsal) where
  -- the step of the record at a point, and what is kept of it
  abbrev pub tried : State → Point → Outcome
  tried s p = step_there h s p.place

  abbrev pub passage : State → Record → Point → Passage
  passage s r p = record { before = s; what = r; point = p }

  -- P holds of each end of a run, with so many steps left; and it holds before a step that is done if it holds after it
  pub record ByRounds (P : ℕ → State → Course → Type 0) : Type 0 where
    pub reached : (left : ℕ) (s : State) → faced h s.machine ≡ End → P left s (over 0 0 s)
    pub strayed : (left : ℕ) (s : State) → faced h s.machine ≡ Stray → P left s (over 8 0 s)
    pub spent : (s : State) (r : Record) (p : Point) → faced h s.machine ≡ Stands r p → P zero s (over 10 0 s)
    pub stopped : (left : ℕ) (s : State) (r : Record) (p : Point) → faced h s.machine ≡ Stands r p
        → ((tried s p).answer.number ≡ 0 → ⊥) → P (suc left) s (over (tried s p).answer.number p.place.0 s)
    pub stepped : (left : ℕ) (s : State) (r : Record) (p : Point) → faced h s.machine ≡ Stands r p
        → (tried s p).answer.number ≡ 0 → P left (next_state h s p) (rounds left h (next_state h s p))
        → P (suc left) s (led_by (passage s r p) (rounds left h (next_state h s p)))

  pub rounds_hold : (P : ℕ → State → Course → Type 0) → ByRounds P → (left : ℕ) (s : State) → P left s (rounds left h s)
  unfolding rounds round round_at attempted used_up
  rounds_hold P by zero s = go (faced h s.machine) refl
    where
      go : (t : AtAddress) → faced h s.machine ≡ t → P zero s (over (used_up t) 0 s)
      go (Stands r p) e = by.spent s r p e
      go End e = by.reached zero s e
      go Stray e = by.strayed zero s e
  rounds_hold P by (suc left) s = go (λ n. rounds_hold P by left n) (faced h s.machine) refl
    where
      made : ((n : State) → P left n (rounds left h n)) → (r : Record) (p : Point) → faced h s.machine ≡ Stands r p
          → (t : Bool) → eqb (tried s p).answer.number 0 ≡ t
          → P (suc left) s (continued (if t then Done r p (next_state h s p) else Over (tried s p).answer.number p.place.0) s (rounds left h))
      made rest r p e true t = by.stepped left s r p e (eqb-true (tried s p).answer.number 0 t) (rest (next_state h s p))
      made rest r p e false t = by.stopped left s r p e (eqb-false (tried s p).answer.number 0 t)

      go : ((n : State) → P left n (rounds left h n)) → (t : AtAddress) → faced h s.machine ≡ t
          → P (suc left) s (continued (round_at t h s) s (rounds left h))
      go rest (Stands r p) e = made rest r p e (eqb (tried s p).answer.number 0) refl
      go rest End e = by.reached (suc left) s e
      go rest Stray e = by.strayed (suc left) s e

  -- the round of a step that is done
  pub rounds_on : (left : ℕ) (s : State) (r : Record) (p : Point) → faced h s.machine ≡ Stands r p → (tried s p).answer.number ≡ 0
      → rounds (suc left) h s ≡ led_by (passage s r p) (rounds left h (next_state h s p))
  unfolding rounds round round_at attempted
  rounds_on left s r p e n = rw (e, eq-eqb (tried s p).answer.number 0 n)

  pub rounds_none : (s : State) → rounds zero h s ≡ over (used_up (faced h s.machine)) 0 s
  unfolding rounds
  rounds_none s = refl
