-- Every run: why it ended, and that its count is that of its steps.
use Prim.Native.Nat.{ℕ, zero, suc, ◌+◌, ◌≤◌}
use mathlib.Core.Bool.{Bool, true, false, ◌&&◌}
use mathlib.Core.List.{◌∷◌}
use mathlib.Core.Logic.{◌⊎◌, inl, inr}
use mathlib.Core.Path.{◌≡◌, refl, sym, ap}
use native.Mathlib.Omega.{arith}
use borrow.Author.Tests.{eqb-false}
use lib.Dec.{eqb}
use lib.ListN.{length}
use Rattle.word.proofs.Cases.{cases, yes_or_no}
use Rattle.word.proofs.Sole.{one_outcome}
use Rattle.reading.specs.Reading.{part}
use Rattle.setup.specs.Setup.{fits}
use Rattle.listing.specs.Check.{Checked, checked}
use Rattle.machine.specs.Machine.{good}
use Rattle.paper.proofs.Demands.{step_number}
use Rattle.run.specs.Run.{Rehearsal, State, Passage, Course, faced, over, used_up, rounds, run_of, outcome}
use Rattle.demands.specs.Run.{AtRecord, Every, Ended, Unfit, Unaccepted, Reached, Strayed, Spent, Stopped, Again, EveryRun, Runs, OneEnding}
use Rattle.demands.proofs.Facing.{faced_record, faced_end}
use Rattle.demands.proofs.Rounds.{passage, ByRounds, rounds_hold, rounds_on, rounds_none}

pub one_ending : OneEnding
one_ending budget h s = one_outcome (outcome (run_of budget h s))

-- a course whose first steps, so many, are done, and the rest of it
record Rest (done : ℕ) (c rest : Course) : Type 0 where
  last : c.last ≡ rest.last
  number : c.number ≡ rest.number
  place : c.place ≡ rest.place
  count : length c.steps ≡ done + length rest.steps

module _ (h : Rehearsal) (start : State) (budget : ℕ) (c : Course) where
  by_ended : ByRounds h (λ left s rest. (done : ℕ) → done + left ≡ budget → Rest done c rest → Ended budget h start c)
  by_ended = record {
    reached = λ left s e done b r.
        let f = faced_end h s.machine e in Reached (rw r.last f.0) (rw r.last f.1) r.number r.place;
    strayed = λ left s e done b r. Strayed (rw r.last e) r.number r.place;
    spent = λ s x p e done b r.
        Spent x p (rw r.last (faced_record h s.machine x p e)) (omega (arith, b, r.count)) r.number r.place;
    stopped = λ left s x p e n done b r.
        let high = step_number s.machine (part h.listing p.place.0) s.memory h.setup in
        Stopped x p (rw r.last (faced_record h s.machine x p e)) (rw r.last (sym r.number))
        (omega (arith, n, r.number)) (omega (arith, high, r.number)) r.place;
    stepped = λ left s x p e n rest done b r.
        rest (suc done) (omega (arith, b))
        (record { last = r.last; number = r.number; place = r.place; count = omega (arith, r.count) });
  }

module _ (h : Rehearsal) where
  abbrev Seated : Passage → Type 0
  Seated x = AtRecord h x.before.machine x.what x.point

  by_records : ByRounds h (λ left s c. Every Seated c.steps)
  by_records = record {
    reached = λ left s e. tt;
    strayed = λ left s e. tt;
    spent = λ s r p e. tt;
    stopped = λ left s r p e n. tt;
    stepped = λ left s r p e n rest. (faced_record h s.machine r p e, rest);
  }

  by_within : ByRounds h (λ left s c. length c.steps ≤ left)
  by_within = record {
    reached = λ left s e. omega arith;
    strayed = λ left s e. omega arith;
    spent = λ s r p e. omega arith;
    stopped = λ left s r p e n. omega arith;
    stepped = λ left s r p e n rest. omega (arith, rest);
  }

  none_left : (s : State) (number place : ℕ) → (used_up (faced h s.machine) ≡ number) ⊎ (used_up (faced h s.machine) ≡ 10)
      → Again (over number place s) (rounds zero h s)
  none_left s number place n = rw (rounds_none h s) (record { steps = refl; last = refl; number = n })

  by_again : ByRounds h (λ left s c. Again c (rounds (length c.steps) h s))
  unfolding used_up
  by_again = record {
    reached = λ left s e. none_left s 0 0 (rw e (inl refl));
    strayed = λ left s e. none_left s 8 0 (rw e (inl refl));
    spent = λ s r p e. none_left s 10 0 (rw e (inl refl));
    stopped = λ left s r p e n. none_left s _ _ (rw e (inr refl));
    stepped = λ left s r p e n rest.
        rw (rounds_on h _ s r p e n) (record { steps = ap (λ xs. passage h s r p ∷ xs) rest.steps; last = rest.last; number = rest.number });
  }

-- ---- a run is its rounds, unless a test or the check refuses it
module _ (h : Rehearsal) (s : State) where
  abbrev fit : Bool
  fit = good s.machine && fits h.setup s.memory

  abbrev check : Checked
  check = checked h.listing h.base

  unfit_run : fit ≡ false → (budget : ℕ) → run_of budget h s ≡ over 1 0 s
  unfolding run_of
  unfit_run f budget = rw f

  unaccepted_run : fit ≡ true → eqb check.number 0 ≡ false → (budget : ℕ) → run_of budget h s ≡ over check.number check.place.0 s
  unfolding run_of
  unaccepted_run f e budget = rw (f, e)

  pub begun_run : fit ≡ true → eqb check.number 0 ≡ true → (budget : ℕ) → run_of budget h s ≡ rounds budget h s
  unfolding run_of
  begun_run f e budget = rw (f, e)

  -- a run without a step
  stopped : (budget number place : ℕ) → Ended budget h s (over number place s) → ((n : ℕ) → run_of n h s ≡ over number place s)
      → EveryRun budget h s (run_of budget h s)
  stopped budget number place ended is =
      rw (is budget) (record {
        ended = ended;
        at_records = tt;
        within = omega arith;
        counted = rw (is 0) (record { steps = refl; last = refl; number = inl refl });
      })

  begun : (budget : ℕ) → ((n : ℕ) → run_of n h s ≡ rounds n h s) → EveryRun budget h s (run_of budget h s)
  begun budget is =
      let c = rounds budget h s in
      rw (is budget) (record {
        ended =
            rounds_hold h _ (by_ended h s budget c) budget s 0 (omega arith)
            (record { last = refl; number = refl; place = refl; count = omega arith });
        at_records = rounds_hold h _ (by_records h) budget s;
        within = rounds_hold h _ (by_within h) budget s;
        counted = rw (is (length c.steps)) (rounds_hold h _ (by_again h) budget s);
      })

  every : (budget : ℕ) → EveryRun budget h s (run_of budget h s)
  every budget =
      cases (yes_or_no fit)
      (λ f.
      cases (yes_or_no (eqb check.number 0))
      (λ e. begun budget (begun_run f e))
      (λ e. stopped budget _ _ (Unaccepted check refl (eqb-false check.number 0 e) refl) (unaccepted_run f e)))
      (λ f. stopped budget 1 0 (Unfit f refl) (unfit_run f))

pub runs : Runs
runs budget h s = every h s budget
