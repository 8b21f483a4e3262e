-- The step of a record that is faced in an accepted listing: none of its tests for 1 to 4 fires, and it leaves the machine fit for the next.
use Prim.Native.Nat.{ℕ, ◌+◌, ◌%◌, ◌^◌}
use mathlib.Core.List.{List}
use mathlib.Core.Path.{◌≡◌, sym, ap, ◌∙◌}
use native.Mathlib.Omega.{arith}
use borrow.Author.Tests.{eq-eqb, eqb-false}
use Rattle.little.specs.Little.{byte}
use Rattle.waiting.specs.Waiting.{none, waiting_count}
use Rattle.waiting.proofs.Good.{is_good}
use Rattle.record.specs.declared.Record.{Record}
use Rattle.flow.specs.Flow.{machine_length, after}
use Rattle.std.specs.Prelude.{Some}
use Rattle.reading.specs.Reading.{part, read_one}
use Rattle.reading.proofs.Places.{ahead}
use Rattle.judge.specs.Judge.{refusal}
use Rattle.judge.proofs.Laws.{not_refused}
use Rattle.setup.proofs.Laws.{fits_as_long}
use Rattle.layout.specs.declared.Point.{Point}
use Rattle.layout.specs.Layout.{Stands, at_address}
use Rattle.layout.proofs.Points.{onto, next_address}
use Rattle.layout.proofs.Members.{On, Standing, stands_on, next_on}
use Rattle.layout.proofs.Blocks.{unrefused, waits_after, on_good, nothing_waits}
use Rattle.listing.proofs.Accepted.{Accepted, on_low}
use Rattle.machine.specs.declared.Machine.{Machine}
use Rattle.machine.specs.Machine.{PC, held}
use Rattle.machine.specs.Step.{considered, stepped, obeyed}
use Rattle.paper.proofs.Registers.{good_parts}
use Rattle.paper.proofs.Came.{Led, Result, step_result}
use Rattle.pace.specs.Pace.{Ready}
use Rattle.pace.proofs.Table.{fills_as}
use Rattle.pace.proofs.Lengths.{ReadSo, read_so}
use Rattle.run.specs.Run.{Rehearsal, State, state, faced}
use Rattle.run.specs.Code.{Fit}
use Rattle.run.proofs.Faced.{agreed_record}
use Rattle.run.proofs.Rounds.{step_there}

abbrev pub next_state : Rehearsal → State → Point → State
next_state h s p = let o = step_there h s p.place in state o.answer.machine o.memory

module _ (h : Rehearsal) (ok : Accepted h.listing h.base) (s : State) (fit : Fit h s) (r : Record) (p : Point)
    (e : faced h s.machine ≡ Stands r p) where
  abbrev m : Machine
  m = s.machine

  abbrev bytes : List ℕ
  bytes = part h.listing p.place.0

  here : (at_address h.listing h.base (held m PC) ≡ Stands r p) × (m.waiting ≡ p.waiting)
  unfolding faced
  here = agreed_record (at_address h.listing h.base (held m PC)) m.waiting r p e

  pub stands : Standing h.listing h.base (held m PC) r p
  stands = stands_on h.listing h.base (held m PC) r p here.0

  abbrev pub q : Point
  q = stands.next

  pub on : On h.listing h.base q
  on = next_on h.listing h.base p stands.on r q stands.goes

  -- ---- the tests
  pub read_here : read_one bytes ≡ Some r
  read_here = (ahead h.listing p.place.0 r q.place (onto h.listing p r q stands.goes).read).read

  pub unrefused_here : refusal r (waiting_count m.waiting) ≡ 0
  unrefused_here = rw here.1 (unrefused h.listing p r q stands.goes stands.steps)

  -- the step makes them all, and is what it would be without them
  pub untested : step_there h s p.place ≡ obeyed m r s.memory h.setup
  unfolding stepped considered
  untested = rw (fit.machine_good, fit.memory_fits, read_here, unrefused_here)

  -- ---- what the code knows of the record's bytes
  so : ReadSo bytes r
  so = read_so bytes r read_here

  none_counted : p.waiting.first ≡ none → waiting_count p.waiting ≡ 0
  unfolding waiting_count
  none_counted f = rw (eq-eqb p.waiting.first none f)

  pub ready : Ready bytes m.waiting
  ready = record {
    kind = record {
      least = so.least;
      most =
          let n : byte bytes 0 ≡ 23 → ⊥ = eqb-false (byte bytes 0) 23 (sym (fills_as bytes) ∙ rw (← so.is) stands.steps) in
          omega (arith, so.most, n);
      sound = so.sound;
    };
    spot = rw (← so.is) (not_refused r (waiting_count m.waiting) unrefused_here).1;
    none_waits = λ f. rw here.1 (nothing_waits h.listing h.base p stands.on (none_counted (rw here.1 at f)));
  }

  -- ---- after it
  pub result : Result m r s.memory (step_there h s p.place)
  result =
      step_result m bytes s.memory h.setup r fit.machine_good fit.memory_fits fit.sixteen read_here unrefused_here

  module _ (done : (step_there h s p.place).answer.number ≡ 0) where
    abbrev x : Machine
    x = (step_there h s p.place).answer.machine

    pub led : Led m r x
    led = result.led done

    pub waits_next : x.waiting ≡ q.waiting
    waits_next = led.waits ∙ (ap (after r) here.1 ∙ sym (waits_after h.listing p r q stands.goes))

    pub next_fit : Fit h (next_state h s p)
    next_fit = record {
      machine_good = good_parts x led.even result.firm (rw waits_next (is_good q.waiting (on_good h.listing h.base q on)));
      sixteen = led.sixteen;
      memory_fits = fits_as_long h.setup s.memory (step_there h s p.place).memory result.size fit.memory_fits;
    }

  -- the address of the point after it
  pub next_at : (held m PC + machine_length r) % 2 ^ 32 ≡ q.address.0
  next_at =
      omega (arith, stands.at, next_address h.listing p r q stands.goes, on_low h.listing h.base ok q on)
