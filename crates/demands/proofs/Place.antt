-- The stored place of a running machine.
use Rattle.std.specs.Prelude.{Option, Some, None}
use Prim.Native.Nat.{ℕ, zero, suc, ◌+◌}
use mathlib.Core.Bool.{Bool, true, ◌&&◌}
use mathlib.Core.List.{List, [], ◌++◌}
use mathlib.Core.Path.{◌≡◌, refl, sym, ap, ◌∙◌}
use native.Mathlib.Omega.{arith}
use borrow.Author.Tests.{eq-eqb, eqb-true}
use lib.Dec.{eqb}
use Rattle.word.proofs.Cases.{both_true}
use Rattle.word.proofs.Sole.{one_outcome}
use Rattle.reading.specs.Reading.{part}
use Rattle.record.specs.declared.Record.{Record}
use Rattle.setup.specs.Setup.{fits}
use Rattle.layout.specs.declared.Point.{Point}
use Rattle.layout.specs.Layout.{Stands, End, at_address}
use Rattle.listing.specs.Check.{checked}
use Rattle.listing.proofs.Accepted.{Accepted}
use Rattle.machine.specs.declared.Machine.{Machine}
use Rattle.machine.specs.Machine.{PC, held, good}
use Rattle.paper.proofs.Demands.{step_number}
use Rattle.reading.specs.declared.Place.{Place}
use Rattle.run.specs.Run.{Rehearsal, State, Passage, Course, faced, over, led_by, rounds, run_of}
use Rattle.run.specs.Code.{Fit}
use Rattle.run.proofs.Steps.{next_state, next_fit}
use Rattle.run.specs.Place.{place_in, walks_place, same_place, begins, Journey, journey, fresh_run, resumed, halt}
use Rattle.demands.specs.Run.{AtRecord}
use Rattle.demands.specs.Place.{StepIs, KeptBefore, KeptAfter, Kept, CutAndResumed, OneHalting}
use Rattle.demands.proofs.Rounds.{tried, passage, ByRounds, rounds_hold, rounds_on, rounds_none}
use Rattle.demands.proofs.Facing.{faced_record, faced_end}
use Rattle.demands.proofs.Run.{begun_run}

pub one_halting : OneHalting
one_halting budget h s stored = (one_outcome (halt (fresh_run budget h s)), one_outcome (halt (resumed budget h s stored)))

same_place_self : (x : Option Place) → same_place x x ≡ true
unfolding same_place
same_place_self (Some p) = eq-eqb p.0 p.0 refl
same_place_self None = refl

-- ---- a run that begins
module _ (h : Rehearsal) (s : State) where
  pub begins_by : good s.machine ≡ true → fits h.setup s.memory ≡ true → Accepted h.listing h.base → begins h s ≡ true
  unfolding begins
  begins_by g f a = rw (g, f, eq-eqb (checked h.listing h.base).number 0 a)

  module _ (began : begins h s ≡ true) where
    abbrev pub fine : Bool
    fine = good s.machine && fits h.setup s.memory

    pub begun : (fine ≡ true) × (eqb (checked h.listing h.base).number 0 ≡ true)
    unfolding begins
    begun = both_true fine (eqb (checked h.listing h.base).number 0) began

    pub accepted : Accepted h.listing h.base
    accepted = eqb-true (checked h.listing h.base).number 0 begun.1

    pub is_rounds : (budget : ℕ) → run_of budget h s ≡ rounds budget h s
    is_rounds = begun_run h s begun.0 begun.1

    fresh_is : (budget : ℕ) → fresh_run budget h s ≡ (let c = rounds budget h s in journey c (walks_place h c.last.machine))
    unfolding fresh_run
    fresh_is budget = rw (began, is_rounds budget)

    resumed_is : (budget : ℕ) (stored : Option Place) → stored ≡ walks_place h s.machine
        → resumed budget h s stored ≡ (let c = rounds budget h s in journey c (walks_place h c.last.machine))
    unfolding resumed
    resumed_is budget stored e = rw (began, e, same_place_self (walks_place h s.machine), is_rounds budget)

pub resumed_run : (budget : ℕ) (h : Rehearsal) (s : State) (stored : Option Place) → begins h s ≡ true → stored ≡ walks_place h s.machine
    → (resumed budget h s stored).course ≡ run_of budget h s
resumed_run budget h s stored began e = ap (λ (j : Journey). j.course) (resumed_is h s began budget stored e) ∙ sym (is_rounds h s began budget)

-- ---- before every step
record_place : (h : Rehearsal) (m : Machine) (r : Record) (p : Point) → AtRecord h m r p → walks_place h m ≡ Some p.place
unfolding walks_place place_in
record_place h m r p a = rw a.stands

module _ (h : Rehearsal) where
  -- the state before a step is where a run with so many steps ends, and its record stands there
  abbrev Cut : State → Course → Type 0
  Cut s c = (i : ℕ) (x : Passage) → StepIs i c.steps x → ((rounds i h s).last ≡ x.before) × AtRecord h x.before.machine x.what x.point

  cut_none : (s : State) (number place : ℕ) → Cut s (over number place s)
  cut_none s number place i x e = absurd (none i e)
    where
      none : (i : ℕ) → StepIs i [] x → ⊥
      none zero e = e
      none (suc i) e = e

  cut_first : (s : State) (r : Record) (p : Point) → faced h s.machine ≡ Stands r p → (x : Passage) → passage h s r p ≡ x
      → ((rounds zero h s).last ≡ x.before) × AtRecord h x.before.machine x.what x.point
  cut_first s r p e x f = rw (← f) (ap (λ (c : Course). c.last) (rounds_none h s), faced_record h s.machine r p e)

  cut_on : (left : ℕ) (s : State) (r : Record) (p : Point) → faced h s.machine ≡ Stands r p → (tried h s p).answer.number ≡ 0
      → Cut (next_state h s p) (rounds left h (next_state h s p)) → Cut s (led_by (passage h s r p) (rounds left h (next_state h s p)))
  cut_on left s r p e n rest zero x f = cut_first s r p e x f
  cut_on left s r p e n rest (suc i) x f = let k = rest i x f in (ap (λ (c : Course). c.last) (rounds_on h i s r p e n) ∙ k.0, k.1)

  by_cut : ByRounds h (λ left s c. Cut s c)
  by_cut = record {
    reached = λ left s e. cut_none s 0 0;
    strayed = λ left s e. cut_none s 8 0;
    spent = λ s r p e. cut_none s 10 0;
    stopped = λ left s r p e n. cut_none s (tried h s p).answer.number p.place.0;
    stepped = λ left s r p e n rest. cut_on left s r p e n rest;
  }

pub kept_before : KeptBefore
kept_before budget h s i x began step =
    let k = rounds_hold h _ (by_cut h) budget s i x (rw (is_rounds h s began budget) at step) in
    let walked : walks_place h (rounds i h s).last.machine ≡ walks_place h x.before.machine = rw k.0 in
    rw (fresh_is h s began i)
    (record { running = k.0; walked = walked; its_place = walked ∙ record_place h x.before.machine x.what x.point k.1 })

-- ---- where a run has ended
module _ (h : Rehearsal) where
  by_end : ByRounds h (λ left s c. c.number ≡ 0 → at_address h.listing h.base (held c.last.machine PC) ≡ End)
  by_end = record {
    reached = λ left s e z. (faced_end h s.machine e).0;
    strayed = λ left s e z. absurd (omega arith);
    spent = λ s r p e z. absurd (omega arith);
    stopped = λ left s r p e n z. absurd (n z);
    stepped = λ left s r p e n rest. rest;
  }

  ended_so : (budget : ℕ) (s : State) → let c = rounds budget h s in KeptAfter h (journey c (walks_place h c.last.machine))
  unfolding walks_place place_in
  ended_so budget s = record {
    walked = refl;
    at_end = λ z. rw (rounds_hold h _ by_end budget s z);
    astray = λ e. rw e;
    at_record = λ r p a. record_place h (rounds budget h s).last.machine r p a;
  }

pub kept : Kept
kept budget h s began =
    (rw (fresh_is h s began budget) (ended_so h budget s), rw (resumed_is h s began budget _ refl) (ended_so h budget s))

-- ---- a run that is cut and resumed
abbrev joined : List Passage → Course → Course
joined steps c = record { steps = steps ++ c.steps; last = c.last; number = c.number; place = c.place }

module _ (h : Rehearsal) (ok : Accepted h.listing h.base) (more : ℕ) where
  record Split (left : ℕ) (s : State) (c : Course) : Type 0 where
    fit : Fit h c.last
    whole : c.number ≡ 10 → rounds (left + more) h s ≡ joined c.steps (rounds more h c.last)

  split_stopped : (left : ℕ) (s : State) (p : Point) → Fit h s → let number = (tried h s p).answer.number in Split (suc left) s (over number p.place.0 s)
  split_stopped left s p fit =
      let high = step_number s.machine (part h.listing p.place.0) s.memory h.setup in
      record { fit = fit; whole = λ z. absurd (omega (arith, high)) }

  split_on : (left : ℕ) (s : State) (r : Record) (p : Point) → faced h s.machine ≡ Stands r p → (tried h s p).answer.number ≡ 0
      → let n = next_state h s p in Split left n (rounds left h n) → Split (suc left) s (led_by (passage h s r p) (rounds left h n))
  split_on left s r p e n rest = record {
    fit = rest.fit;
    whole = λ z.
        let one : suc left + more ≡ suc (left + more) = omega arith in
        rw one (rounds_on h (left + more) s r p e n ∙ ap (led_by (passage h s r p)) (rest.whole z));
  }

  by_split : ByRounds h (λ left s c. Fit h s → Split left s c)
  by_split = record {
    reached = λ left s e fit. record { fit = fit; whole = λ z. absurd (omega arith) };
    strayed = λ left s e fit. record { fit = fit; whole = λ z. absurd (omega arith) };
    spent = λ s r p e fit. record { fit = fit; whole = λ z. let none : 0 + more ≡ more = omega arith in rw none };
    stopped = λ left s r p e n fit. split_stopped left s p fit;
    stepped = λ left s r p e n rest fit. split_on left s r p e n (rest (next_fit h ok s fit r p e n));
  }

pub cut_and_resumed : CutAndResumed
cut_and_resumed budget more h s began sixteen ten =
    let ok = accepted h s began in
    let b = both_true (good s.machine) (fits h.setup s.memory) (begun h s began).0 in
    let k = rounds_hold h _ (by_split h ok more) budget s (record { machine_good = b.0; sixteen = sixteen; memory_fits = b.1 }) in
    let last = (rounds budget h s).last in
    let again = begins_by h last k.fit.machine_good k.fit.memory_fits ok in
    rw (fresh_is h s began budget, fresh_is h s began (budget + more), resumed_is h last again more _ refl)
    (ap (λ (c : Course). journey c (walks_place h c.last.machine)) (k.whole (rw (is_rounds h s began budget) at ten)))
