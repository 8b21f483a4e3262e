-- Demand 3, by the one case principle over the rounds.
use Rattle.std.specs.Prelude.{Option}
use Prim.Native.Nat.{ℕ, ◌≤◌}
use mathlib.Core.Bool.{true, true≢false, ◌&&◌}
use mathlib.Core.List.{List, [], ◌∷◌}
use mathlib.Core.Logic.{◌⊎◌, inl, inr}
use mathlib.Core.Path.{◌≡◌, refl, sym, ap, ◌∙◌}
use native.Mathlib.Omega.{arith}
use borrow.Author.Tests.{eq-eqb, ne_eqb}
use lib.ListN.{length}
use Rattle.word.proofs.Cases.{cases}
use Rattle.waiting.specs.Waiting.{nothing}
use Rattle.waiting.proofs.Laws.{same_self}
use Rattle.record.specs.declared.Record.{Record}
use Rattle.setup.specs.Setup.{fits}
use Rattle.layout.specs.declared.Point.{Point}
use Rattle.layout.specs.Layout.{AtAddress, Stands, End, Stray, start, at_address}
use Rattle.layout.proofs.Members.{start_on}
use Rattle.listing.proofs.Accepted.{Accepted}
use Rattle.listing.specs.Check.{Checked}
use Rattle.machine.specs.Machine.{PC, held, good}
use Rattle.reading.specs.declared.Place.{Place}
use Rattle.run.specs.Run.{Rehearsal, State, Passage, Course, agreeing, faced, over, led_by, rounds, run_of}
use Rattle.run.specs.Code.{Fit}
use Rattle.run.proofs.Steps.{next_state, result, next_fit}
use Rattle.run.specs.Place.{place_in, walks_place, fresh_run}
use Rattle.demands.specs.Run.{Ended, Unfit, Unaccepted, Reached, Strayed, Spent, Stopped}
use Rattle.demands.specs.Demand3.{Not1To4, Takes, Last, Attempt, Sound, Demand3, Restart, Demand3Resumed, Demand3Fresh}
use Rattle.demands.proofs.Rounds.{passage, ByRounds, rounds_hold}
use Rattle.demands.proofs.Facing.{at_point}
use Rattle.demands.proofs.Run.{begun_run, runs}
use Rattle.demands.proofs.Stepping.{strays}
use Rattle.demands.proofs.Place.{begins_by, resumed_run}

-- what the tests and the check let begin
abbrev Begun : Rehearsal → State → Type 0
Begun h s = Accepted h.listing h.base × Fit h s

-- ---- a run that the check and the tests let begin stops before a step, unless it is over
attempted : (budget : ℕ) (h : Rehearsal) (s : State) (c : Course) → Begun h s → Ended budget h s c
    → (c.number ≡ 0 → ⊥) → (c.number ≡ 8 → ⊥) → Attempt h c
attempted budget h s c b (Unfit f e) z t = absurd (true≢false (sym (rw (b.1.machine_good, b.1.memory_fits)) ∙ f))
attempted budget h s c b (Unaccepted k f n e) z t = absurd (n (ap (λ (k : Checked). k.number) (sym f) ∙ b.0))
attempted budget h s c b (Reached a w n e) z t = absurd (z n)
attempted budget h s c b (Strayed a n e) z t = absurd (t n)
attempted budget h s c b (Spent r p a l n e) z t = record { what = r; point = p; at_record = a; place = rw n e }
attempted budget h s c b (Stopped r p a l low high e) z t =
    record { what = r; point = p; at_record = a; place = rw (ne_eqb c.number 10 (λ f. omega arith)) e }

-- ---- never 1 to 4, and 8 after a step that takes its next address, or before any
record Claim (h : Rehearsal) (s : State) (c : Course) : Type 0 where
  number : Not1To4 c.number
  stray : c.number ≡ 8 → ((c.steps ≡ []) × (faced h s.machine ≡ Stray)) ⊎ Last Takes c.steps

last_more : (x : Passage) (xs : List Passage) → Last Takes xs → Last Takes (x ∷ xs)
last_more x [] l = absurd l
last_more x (y ∷ xs) l = l

module _ (h : Rehearsal) (ok : Accepted h.listing h.base) where
  led_claim : (s n : State) (x : Passage) (c : Course) → (faced h n.machine ≡ Stray → Takes x) → Claim h n c → Claim h s (led_by x c)
  led_claim s n x c takes k = record {
    number = k.number;
    stray = λ e. inr (cases (k.stray e) (λ t. rw t.0 (takes t.1)) (λ l. last_more x c.steps l));
  }

  stopped_claim : (s : State) (r : Record) (p : Point) → (n : ℕ) → (5 ≤ n) × (n ≤ 7) → Claim h s (over n p.place.0 s)
  stopped_claim s r p n b = record { number = λ f g. omega (arith, b, g); stray = λ f. absurd (omega (arith, b, f)) }

  by_claim : ByRounds h (λ left s c. Fit h s → Claim h s c)
  by_claim = record {
    reached = λ left s e fit. record { number = λ a b. omega arith; stray = λ f. absurd (omega arith) };
    strayed = λ left s e fit. record { number = λ a b. omega arith; stray = λ f. inl (refl, e) };
    spent = λ s r p e fit. record { number = λ a b. omega arith; stray = λ f. absurd (omega arith) };
    stopped = λ left s r p e n fit.
        stopped_claim s r p _ (cases (result h ok s fit r p e).number (λ z. absurd (n z)) (λ b. b));
    stepped = λ left s r p e n rest fit.
        let next = next_state h s p in
        led_claim s next (passage h s r p) (rounds left h next) (strays h ok s fit r p e n) (rest (next_fit h ok s fit r p e n));
  }

-- a machine that doesn't stray before its first step
sound_from : (budget : ℕ) (h : Rehearsal) (s : State) → Begun h s → (faced h s.machine ≡ Stray → ⊥) → Sound h (run_of budget h s)
sound_from budget h s b first =
    let fit : (good s.machine && fits h.setup s.memory) ≡ true = rw (b.1.machine_good, b.1.memory_fits) in
    let is = begun_run h s fit (eq-eqb _ 0 b.0) budget in
    let k = rounds_hold h _ (by_claim h b.0) budget s b.1 in
    let run = runs budget h s in
    record {
      number = rw is k.number;
      steps = run.at_records;
      attempt = attempted budget h s (run_of budget h s) b run.ended;
      stray = rw is (λ e. cases (k.stray e) (λ t. absurd (first t.1)) (λ l. l));
    }

pub demand_3 : Demand3
unfolding start
demand_3 budget h s b =
    sound_from budget h s (b.accepted, record { machine_good = b.machine_good; sixteen = b.sixteen; memory_fits = b.memory_fits })
    (at_point h b.accepted (start h.base) (start_on h.listing h.base) b.no_filler_first s.machine b.at_first b.nothing_waits)

pub demand_3_fresh : Demand3Fresh
unfolding fresh_run
demand_3_fresh = demand_3

-- ---- a resume
-- at a record or the end, with what the layout gives waiting
not_astray : (h : Rehearsal) (s : State) (stored : Option Place) → Restart h s stored → faced h s.machine ≡ Stray → ⊥
unfolding faced agreeing walks_place place_in
not_astray h s stored b = go (at_address h.listing h.base (held s.machine PC)) refl
  where
    go : (t : AtAddress) → at_address h.listing h.base (held s.machine PC) ≡ t → agreeing t s.machine.waiting ≡ Stray → ⊥
    go (Stands r p) e f =
        let g = rw (b.waits_there r p e, same_self p.waiting) at f in let z : ◌≡◌ {A = ℕ} 0 1 = cc in omega arith
    go End e f = let g = rw (b.waits_at_end e, same_self nothing) at f in let z : ◌≡◌ {A = ℕ} 0 1 = cc in omega arith
    go Stray e f = b.placed (b.agrees ∙ ap (place_in (length h.listing)) e)

pub demand_3_resumed : Demand3Resumed
demand_3_resumed budget h s stored b =
    let fit : Fit h s = record { machine_good = b.machine_good; sixteen = b.sixteen; memory_fits = b.memory_fits } in
    let began = begins_by h s b.machine_good b.memory_fits b.accepted in
    rw (resumed_run budget h s stored began b.agrees) (sound_from budget h s (b.accepted, fit) (not_astray h s stored b))
