-- Where a step comes to: a record that 3 and 4 leave gives 0, 5, 6 or 7; with 0 the machine is at the next record or where the record
-- goes, and the conditions wait that the layout gives.
use Prim.Native.Nat.{ℕ, ◌+◌, ◌%◌, ◌^◌, ◌≤◌}
use mathlib.Core.Bool.{true, false, true≢false, ◌&&◌}
use mathlib.Core.List.{List}
use mathlib.Core.Logic.{◌⊎◌, inl, inr}
use mathlib.Core.Path.{◌≡◌, refl, sym, ◌∙◌}
use native.Mathlib.Omega.{arith}
use borrow.Author.Tests.{eqb-true, eqb-false, eq-eqb, leb-false}
use lib.Dec.{eqb, leb}
use lib.ListN.{length, length-set}
use Rattle.std.specs.Prelude.{Some}
use Rattle.word.proofs.Cases.{cases, yes_or_no, neither}
use Rattle.address.specs.Address.{cleared}
use Rattle.address.proofs.Laws.{cleared_even}
use Rattle.flags.specs.declared.Flags.{Flags}
use Rattle.flags.specs.Flags.{passes}
use Rattle.waiting.specs.Waiting.{none, waiting_count, dropped}
use Rattle.waiting.proofs.Laws.{first_none}
use Rattle.setup.specs.declared.Setup.{Setup}
use Rattle.setup.specs.Setup.{fits}
use Rattle.record.specs.declared.IfThenFields.{IfThenFields}
use Rattle.record.specs.declared.Record.{Record}
use Rattle.record.specs.declared.Record.TheVariants.{IfThen}
use Rattle.restricted.specs.Restricted.{allowed}
use Rattle.flow.specs.Flow.{traits, machine_length, way, leaves, misplaced, after, own_condition}
use Rattle.flow.proofs.Laws.{after_holds}
use Rattle.reading.specs.Reading.{read_one}
use Rattle.judge.specs.Judge.{refusal}
use Rattle.judge.proofs.Laws.{not_refused}
use Rattle.machine.specs.declared.Machine.{Machine}
use Rattle.machine.specs.Machine.{PC, held, kept, written, with_flags, with_waiting, good, ruling, condition_passes, advanced, onward, skipped, refused, done, steady, Outcome, keeping}
use Rattle.machine.specs.Step.{obeyed, considered, stepped}
use Rattle.paper.proofs.Registers.{steady_onward, held_written, held_other, good_steady}
use Rattle.paper.proofs.Holds.{obeyed_holds}
use Rattle.paper.proofs.Steers.{Goes, Steers, steered}

-- ---- IT is never passed over
pub always : (f : Flags) → passes f 14 ≡ true
unfolding passes
always f = refl

if_then_passes : (m : Machine) (d : IfThenFields) → misplaced (IfThen d) (waiting_count m.waiting) ≡ false → condition_passes m (IfThen d) ≡ true
unfolding misplaced traits condition_passes ruling own_condition
if_then_passes m d h =
    let n = waiting_count m.waiting in
    let some = (neither (leb 1 n) (leaves (way (IfThen d)) && leb 2 n) h).0 in
    let zero : n ≡ 0 = omega (arith, leb-false 1 n some) in
    rw (eq-eqb m.waiting.first none (first_none m.waiting zero)) (always m.flags)

-- so where a condition fails, what waits next is what waits where it passes
dropped_after : (m : Machine) (r : Record) → misplaced r (waiting_count m.waiting) ≡ false → condition_passes m r ≡ false
    → dropped m.waiting ≡ after r m.waiting
dropped_after m r h f =
    after_holds (λ x. dropped m.waiting ≡ x) r m.waiting refl
    (λ d e. absurd (true≢false (sym (if_then_passes m d (rw e at h)) ∙ (rw e at f))))

-- ---- where a machine comes to
pub record Arrived (m : Machine) (r : Record) (address : ℕ) : Type 0 where
  pub value : ℕ
  pub goes : Goes m (way r) value
  pub at : address ≡ cleared 0 value
  pub passed : condition_passes m r ≡ true

abbrev pub following : Machine → Record → ℕ
following m r = cleared 0 ((held m PC + machine_length r) % 2 ^ 32)

pub record Led (m : Machine) (r : Record) (x : Machine) : Type 0 where
  pub at : (held x PC ≡ following m r) ⊎ Arrived m r (held x PC)
  pub even : held x PC % 2 ≡ 0
  pub waits : x.waiting ≡ after r m.waiting
  pub sixteen : length x.registers ≡ 16

module _ (m : Machine) (r : Record) where
  led_written : condition_passes m r ≡ true → (x : Machine) (k v : ℕ) → Steers m (way r) k v → Led m r x → Led m r (written x k v)
  unfolding written
  led_written passed x k v s l = cases (yes_or_no (eqb k PC)) (λ e. here (eqb-true k PC e)) (λ e. elsewhere (eqb-false k PC e))
    where
      elsewhere : (k ≡ PC → ⊥) → Led m r (written x k v)
      elsewhere n =
          let same = held_other x k v (λ e. n (sym e)) in
          record {
            at = rw same l.at;
            even = rw same l.even;
            waits = l.waits;
            sixteen = length-set x.registers k (kept k v) ∙ l.sixteen;
          }

      gone : k ≡ PC → Goes m (way r) v → Led m r (written x k v)
      gone e g =
          let to : held (written x k v) PC ≡ cleared 0 v = rw e (held_written x v l.sixteen) in
          record {
            at = inr (record { value = v; goes = g; at = to; passed = passed });
            even = rw to (cleared_even v);
            waits = l.waits;
            sixteen = length-set x.registers k (kept k v) ∙ l.sixteen;
          }

      here : k ≡ PC → Led m r (written x k v)
      here e = cases s (λ n. absurd (n e)) (λ g. gone e g)

  led_flags : (x : Machine) (f : Flags) → Led m r x → Led m r (with_flags x f)
  unfolding with_flags held
  led_flags x f l = record { at = l.at; even = l.even; waits = l.waits; sixteen = l.sixteen }

  module _ (sixteen : length m.registers ≡ 16) where
    led_onward : Led m r (onward m r)
    unfolding onward advanced with_waiting written held
    led_onward =
        let v = (held m PC + machine_length r) % 2 ^ 32 in
        let to = held_written m v sixteen in
        record { at = inl to; even = rw to (cleared_even v); waits = refl; sixteen = length-set m.registers PC (kept PC v) ∙ sixteen }

    led_skipped : dropped m.waiting ≡ after r m.waiting → Led m r (skipped m r)
    unfolding skipped advanced with_waiting written held
    led_skipped e =
        let v = (held m PC + machine_length r) % 2 ^ 32 in
        let to = held_written m v sixteen in
        record { at = inl to; even = rw to (cleared_even v); waits = e; sixteen = length-set m.registers PC (kept PC v) ∙ sixteen }

-- ---- the outcome of a record that 3 and 4 leave
pub record Result (m : Machine) (r : Record) (bytes : List ℕ) (o : Outcome) : Type 0 where
  pub number : (o.answer.number ≡ 0) ⊎ ((5 ≤ o.answer.number) × (o.answer.number ≤ 7))
  pub size : length o.memory ≡ length bytes
  pub led : o.answer.number ≡ 0 → Led m r o.answer.machine
  pub firm : steady o.answer.machine ≡ true
  pub as_given : (o.answer.number ≡ 0 → ⊥) → (o.answer.machine ≡ m) × (o.memory ≡ bytes)

module _ (m : Machine) (r : Record) (bytes : List ℕ) (setup : Setup) (firm : steady m ≡ true) (sixteen : length m.registers ≡ 16) where
  stopped : (n : ℕ) → (5 ≤ n) × (n ≤ 7) → Result m r bytes (keeping (refused n m) bytes)
  unfolding refused
  stopped n h = record { number = inr h; size = refl; led = λ e. absurd (omega arith); firm = firm; as_given = λ e. (refl, refl) }

  went : (x : Machine) (after : List ℕ) → Led m r x → steady x ≡ true → length after ≡ length bytes → Result m r bytes (record { answer = done x; memory = after })
  unfolding done
  went x after l s e = record { number = inl refl; size = e; led = λ z. l; firm = s; as_given = λ n. absurd (n refl) }

  steady_skipped : steady (skipped m r) ≡ true
  unfolding skipped onward advanced with_waiting steady held
  steady_skipped = steady_onward m r ∙ firm

  missed : condition_passes m r ≡ false → dropped m.waiting ≡ after r m.waiting → Result m r bytes (obeyed m r bytes setup)
  unfolding obeyed
  missed failed e = rw failed (went (skipped m r) bytes (led_skipped m r sixteen e) steady_skipped refl)

  result : refusal r (waiting_count m.waiting) ≡ 0 → Result m r bytes (obeyed m r bytes setup)
  result e = cases (yes_or_no (condition_passes m r)) passed (λ f. missed f (dropped_after m r fine.1 f))
    where
      fine : (allowed r ≡ true) × (misplaced r (waiting_count m.waiting) ≡ false)
      fine = not_refused r (waiting_count m.waiting) e

      passed : condition_passes m r ≡ true → Result m r bytes (obeyed m r bytes setup)
      passed t =
          obeyed_holds m bytes setup (Result m r bytes) (Led m r) (Steers m (way r)) (record { stop = stopped; went = went })
          (record { write = λ x k v s l. led_written m r t x k v s l; flag = λ x f l. led_flags m r x f l })
          firm r (steered m r fine.0) (λ p. led_onward m r sixteen) (λ f. absurd (true≢false (sym t ∙ f)))

-- the same of a step on the record's bytes
pub step_result : (m : Machine) (bytes memory : List ℕ) (setup : Setup) (r : Record) → good m ≡ true → fits setup memory ≡ true
    → length m.registers ≡ 16 → read_one bytes ≡ Some r → refusal r (waiting_count m.waiting) ≡ 0
    → Result m r memory (stepped m bytes memory setup)
unfolding stepped considered
step_result m bytes memory setup r g f sixteen e n = rw (g, f, e, n) (result m r memory setup (good_steady m g) sixteen n)
