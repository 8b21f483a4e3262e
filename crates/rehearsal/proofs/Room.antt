-- How a text comes into lent room, and that it is never longer than a text by value can be.
use Prim.Native.Nat.{ℕ, suc, ◌+◌, ◌≤◌, ◌<◌}
use mathlib.Core.Path.{◌≡◌, sym, ◌∙◌, ap}
use mathlib.Core.List.{List, ◌++◌}
use native.Mathlib.Numerals.{add-one}
use native.Mathlib.Omega.{arith}
use lib.Dec.{ltb, eqb}
use lib.ListN.{length, take, drop, get_or, set, replicate}
use lib.Seq.{drop-cons, take-suc, append_snoc, set_at, length-take-le}
use Rattle.setup.specs.Setup.{at_base}
use Rattle.word.proofs.Cases.{cases, yes_or_no}
use Rattle.listing.specs.Check.{Checked, checked}
use Rattle.machine.specs.declared.Machine.{Machine}
use Rattle.run.specs.Run.{rehearsal, state}
use Rattle.run.specs.Place.{Halted, fresh_run, Halting, halting, halt}
use Rattle.text.proofs.Texts.{check_length, end_length}
use Rattle.rehearsal.specs.declared.Answer.{Answer}
use Rattle.rehearsal.specs.Program.{program_start, ran, run_text, text_after, text_of, Told, told, rehearsed}

pub ran_is : (r : Halted) (m : Machine) (budget : ℕ) (listing memory : List ℕ) → m ≡ program_start
    → halting r memory
    ≡ halt (fresh_run budget (rehearsal listing 0x1000 (at_base 0x20000000)) (state m (replicate 32768 0)))
    → r ≡ ran budget listing
unfolding ran
ran_is r m budget listing memory e h = ap (λ (x : Halting). x.answer) (rw e at h)

after_length : (c : Checked) (r : Halted) → length (text_after c r) ≤ 256
unfolding text_after run_text
after_length c r =
    cases (yes_or_no (eqb c.number 0))
    (λ e. rw e (end_length r.number r.count r.running.machine.registers r.running.machine.flags))
    (λ e. rw e (check_length c.number c.place.0))

pub text_length : (budget : ℕ) (listing : List ℕ) → length (text_of budget listing) ≤ 256
unfolding text_of
text_length budget listing =
    cases (yes_or_no (ltb 32768 (length listing)))
    (λ e. rw e (check_length 1 0))
    (λ e. rw e (after_length (checked listing 0x1000) (ran budget listing)))

pub told_short : (answer : Answer) (budget : ℕ) (listing room after : List ℕ) → told answer after ≡ rehearsed budget listing room
    → answer.length ≤ 256
unfolding rehearsed
told_short answer budget listing room after e = rw (ap (λ (t : Told). t.answer.length) e) (text_length budget listing)

-- one more byte copied to the front of a room
pub laid_next : (bytes room : List ℕ) (i : ℕ) → i < length bytes → i < length room
    → set (take i bytes ++ drop i room) i (get_or bytes i 0) ≡ take (i + 1) bytes ++ drop (i + 1) room
laid_next bytes room i h k =
    let byte = get_or bytes i 0 in
    rw (add-one, drop-cons room i 0 k, take-suc bytes i 0 h)
    (set_at (take i bytes) (get_or room i 0) (drop (suc i) room) byte i (length-take-le i bytes (omega arith))
    ∙ sym (append_snoc (take i bytes) byte (drop (suc i) room)))
