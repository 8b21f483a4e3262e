-- The tests of a step can't fire in a run: by the one case principle over the rounds.
use Prim.Native.Nat.{ℕ}
use mathlib.Core.Path.{◌≡◌}
use native.Mathlib.Omega.{arith}
use Rattle.word.proofs.Cases.{cases, both_true}
use Rattle.waiting.specs.Waiting.{waiting_count}
use Rattle.record.specs.declared.Record.{Record}
use Rattle.judge.proofs.Laws.{not_refused}
use Rattle.setup.specs.Setup.{fits}
use Rattle.layout.specs.declared.Point.{Point}
use Rattle.layout.specs.Layout.{Stands}
use Rattle.listing.proofs.Accepted.{Accepted}
use Rattle.machine.specs.Machine.{good}
use Rattle.run.specs.Run.{Rehearsal, State, faced, over}
use Rattle.run.specs.Code.{Fit}
use Rattle.run.proofs.Steps.{read_here, unrefused_here, untested, result, next_fit}
use Rattle.demands.specs.Demand3.{Not1To4}
use Rattle.demands.specs.Tests.{TestsPass, NoTestFires, TestsCantFire, TestsCantFireResumed}
use Rattle.demands.proofs.Rounds.{tried, ByRounds, rounds_hold}
use Rattle.demands.proofs.Place.{accepted, begun, is_rounds, resumed_run}

module _ (h : Rehearsal) (ok : Accepted h.listing h.base) where
  pass : (s : State) → Fit h s → (r : Record) (p : Point) → faced h s.machine ≡ Stands r p → TestsPass h s r p
  pass s fit r p e =
      let fine = not_refused r (waiting_count s.machine.waiting) (unrefused_here h ok s fit r p e) in
      record {
        machine = fit.machine_good;
        memory = fit.memory_fits;
        read = read_here h ok s fit r p e;
        form = fine.0;
        spot = fine.1;
        same = untested h ok s fit r p e;
      }

  over_so : (s : State) (number place : ℕ) → Fit h s → Not1To4 number → NoTestFires h (over number place s)
  over_so s number place fit n = record { steps = tt; last = pass s fit; number = n }

  by_tests : ByRounds h (λ left s c. Fit h s → NoTestFires h c)
  by_tests = record {
    reached = λ left s e fit. over_so s 0 0 fit (λ low high. omega arith);
    strayed = λ left s e fit. over_so s 8 0 fit (λ low high. omega arith);
    spent = λ s r p e fit. over_so s 10 0 fit (λ low high. omega arith);
    stopped = λ left s r p e n fit.
        over_so s (tried h s p).answer.number p.place.0 fit
        (λ low high. cases (result h ok s fit r p e).number n (λ k. omega (arith, k.0)));
    stepped = λ left s r p e n rest fit.
        let k = rest (next_fit h ok s fit r p e n) in
        record { steps = (pass s fit r p e, k.steps); last = k.last; number = k.number };
  }

pub tests_cant_fire : TestsCantFire
tests_cant_fire budget h s began sixteen =
    let b = both_true (good s.machine) (fits h.setup s.memory) (begun h s began).0 in
    rw (is_rounds h s began budget)
    (rounds_hold h _ (by_tests h (accepted h s began)) budget s (record { machine_good = b.0; sixteen = sixteen; memory_fits = b.1 }))

pub tests_cant_fire_resumed : TestsCantFireResumed
tests_cant_fire_resumed budget h s stored began sixteen agrees =
    rw (resumed_run budget h s stored began agrees) (tests_cant_fire budget h s began sixteen)
