-- The rounds on the machine's parts are the rounds of the definition.
use Prim.Native.Nat.{ℕ, zero, suc, ◌+◌, ◌-◌, ◌%◌, ◌^◌, ◌≤◌}
use mathlib.Core.Bool.{true, false}
use mathlib.Core.List.{List}
use mathlib.Core.Path.{◌≡◌, refl, sym, ap, ◌∙◌}
use native.Mathlib.Omega.{arith}
use borrow.Author.Tests.{eqb-true, eqb-false, eq-eqb, ne_eqb}
use lib.Dec.{eqb}
use lib.ListN.{length, get_or, take, drop}
use Rattle.std.specs.Prelude.{Result, Ok, Err, IsErrAnd}
use Rattle.refusal.specs.declared.Refusal.{Refusal}
use Rattle.refusal.specs.Refusal.{number}
use Rattle.refusal.proofs.Laws.{some_number}
use Rattle.word.proofs.Cases.{cases, yes_or_no}
use Rattle.little.specs.Little.{byte}
use Rattle.waiting.specs.declared.Waiting.{Waiting}
use Rattle.record.specs.declared.Record.{Record}
use Rattle.flow.specs.Flow.{machine_length, after}
use Rattle.kinds.specs.Kinds.{listing_length, record_of}
use Rattle.reading.specs.declared.Place.{Place}
use Rattle.reading.specs.Reading.{part}
use Rattle.reading.proofs.Places.{ahead}
use Rattle.layout.specs.declared.Point.{Point}
use Rattle.layout.specs.Layout.{AtAddress, Stands, End, Stray}
use Rattle.layout.proofs.Members.{on_within}
use Rattle.listing.proofs.Accepted.{Accepted}
use Rattle.machine.specs.declared.Machine.{Machine}
use Rattle.machine.specs.Machine.{PC, held, Outcome, keeping}
use Rattle.machine.specs.Step.{obeyed}
use Rattle.flags.specs.declared.Flags.{Flags}
use Rattle.lent.specs.Lent.{assembled, came}
use Rattle.pace.specs.Pace.{Ready, ahead_in}
use Rattle.run.specs.declared.Sight.{Sight}
use Rattle.run.specs.declared.race.Stride.{Stride}
use Rattle.run.specs.Run.{Rehearsal, State, faced, attempted, round_at, round, over, continued, used_up, rounds}
use Rattle.run.specs.Code.{Fit, parts_of, spot, kind_there, followed_to, counted, Nowhere, At, LedOn, SteppedSo}
use Rattle.run.proofs.Rounds.{facing_there, step_there}
use Rattle.run.proofs.Spots.{KindMet, kind_met, at_point, at_spot}
use Rattle.run.proofs.Steps.{next_state, stands, q, on, ready, untested, result, next_fit, waits_next, next_at}

-- ---- a round
-- where no record is faced a run is over, whatever is left of its budget
pub over_now : (h : Rehearsal) (s : State) → Nowhere (faced h s.machine) → (left : ℕ) → rounds left h s ≡ over (used_up (faced h s.machine)) 0 s
unfolding rounds round round_at used_up
over_now h s n zero = refl
over_now h s n (suc left) = go (faced h s.machine) n
  where
    go : (t : AtAddress) → Nowhere t → continued (round_at t h s) s (rounds left h) ≡ over (used_up t) 0 s
    go (Stands r p) n = absurd n
    go End n = refl
    go Stray n = refl

pub none_left : (h : Rehearsal) (s : State) → rounds zero h s ≡ over (used_up (faced h s.machine)) 0 s
unfolding rounds
none_left h s = refl

-- the step of the record at a place
module _ (h : Rehearsal) (ok : Accepted h.listing h.base) (s : State) (fit : Fit h s) (place kind : ℕ)
    (at : At h s.machine place kind) (some : kind ≡ 0x17 → ⊥) where
  abbrev m : Machine
  m = s.machine

  abbrev bytes : List ℕ
  bytes = part h.listing place

  abbrev r : Record
  r = (at.some some).0.what

  abbrev p : Point
  p = (at.some some).0.point

  e : faced h m ≡ Stands r p
  e = (at.some some).0.is

  here : p.place.0 ≡ place
  here = ap (λ (x : Place). x.0) (at.some some).0.at

  is_kind : kind ≡ byte h.listing place
  is_kind = (at.some some).1

  abbrev next : Point
  next = q h ok s fit r p e

  met : KindMet h.listing p r next.place.0
  met = kind_met h.listing p next r (stands h ok s fit r p e).goes

  next_place : next.place.0 ≡ place + listing_length kind
  next_place =
      met.to
      ∙ (ap (λ (n : ℕ). n + listing_length (byte h.listing n)) here ∙ ap (λ (k : ℕ). place + listing_length k) (sym is_kind))

  pub inside : place + listing_length kind ≤ length h.listing
  inside = rw (← next_place) (on_within h.listing h.base next (on h ok s fit r p e)).inside

  -- the bytes that the code takes for it
  pub taken : take (place + listing_length kind - place) (drop place h.listing) ≡ bytes
  taken = let n : place + listing_length kind - place ≡ listing_length kind = omega arith in rw (n, is_kind)

  pub ready_here : Ready bytes m.waiting
  ready_here = rw here at (ready h ok s fit r p e)

  -- the same of a size that the code has looked up
  module _ (size : ℕ) (is : size ≡ listing_length kind) where
    pub within_so : place + size ≤ length h.listing
    within_so = rw is inside

    pub taken_so : take (place + size - place) (drop place h.listing) ≡ bytes
    taken_so = rw is taken

    pub ready_so : Ready (take (place + size - place) (drop place h.listing)) m.waiting
    ready_so = rw taken_so ready_here

  what : r ≡ record_of bytes
  what = rw here at met.what

  module _ (number : ℕ) (registers : List ℕ) (flags : Flags) (memory : List ℕ)
      (steps : keeping (came number registers flags m.waiting (after (record_of bytes) m.waiting)) memory
      ≡ obeyed m (record_of bytes) s.memory h.setup) where
    outcome : step_there h s p.place
        ≡ keeping (came number registers flags m.waiting (after (record_of bytes) m.waiting)) memory
    outcome = untested h ok s fit r p e ∙ (ap (λ (x : Record). obeyed m x s.memory h.setup) what ∙ sym steps)

    numbered : (step_there h s p.place).answer.number ≡ number
    numbered = ap (λ (o : Outcome). o.answer.number) outcome

    -- a refused step leaves all as it was
    refused_here : (number ≡ 0 → ⊥) → (left : ℕ) → rounds (suc left) h s ≡ over number place (parts_of registers flags m.waiting memory)
    unfolding rounds round round_at attempted
    refused_here n left =
        let o = step_there h s p.place in
        let given = (result h ok s fit r p e).as_given (λ z. n (sym numbered ∙ z)) in
        let back : assembled registers flags m.waiting ≡ m =
        rw (ne_eqb number 0 n) at (sym (ap (λ (x : Outcome). x.answer.machine) outcome) ∙ given.0)
        in
        let kept : memory ≡ s.memory = sym (ap (λ (x : Outcome). x.memory) outcome) ∙ given.1 in
        rw (e, ne_eqb o.answer.number 0 (λ z. n (sym numbered ∙ z)), numbered, here, back, kept)

    module _ (done : number ≡ 0) where
      abbrev waits : Waiting
      waits = after (record_of bytes) m.waiting

      abbrev x : Machine
      x = assembled registers flags waits

      fine : (step_there h s p.place).answer.number ≡ 0
      fine = numbered ∙ done

      to_state : next_state h s p ≡ parts_of registers flags waits memory
      to_state = rw (outcome, done)

      fit_next : Fit h (parts_of registers flags waits memory)
      fit_next = rw (← to_state) (next_fit h ok s fit r p e fine)

      round_done : (count left : ℕ) → counted h count (rounds (suc left) h s) ≡ counted h (count + 1) (rounds left h (parts_of registers flags waits memory))
      unfolding rounds round round_at attempted counted
      round_done count left =
          let more : (n : ℕ) → count + suc n ≡ count + 1 + n = λ n. omega arith in
          rw (e, eq-eqb (step_there h s p.place).answer.number 0 fine, to_state, more (length (rounds left h (parts_of registers flags waits memory)).steps))

      waits_there : x.waiting ≡ next.waiting
      waits_there = ap (λ (t : State). t.machine.waiting) (sym to_state) ∙ waits_next h ok s fit r p e fine

      at_next : (ahead place' : ℕ) → ahead ≡ ahead_in m.registers bytes
          → place' ≡ followed_to registers waits ahead (place + listing_length kind) h.listing h.base
          → At h x place' (kind_there h.listing place')
      unfolding followed_to faced held
      at_next ahead place' a f = cases (yes_or_no (eqb to ahead)) onward elsewhere
        where
          to : ℕ
          to = get_or registers PC 0

          onward : eqb to ahead ≡ true → At h x place' (kind_there h.listing place')
          onward t =
              let address : held x PC ≡ next.address.0 = eqb-true to ahead t ∙ (a ∙ (sym (ap (λ (y : Record). (held m PC + machine_length y) % 2 ^ 32) what) ∙ next_at h ok s fit r p e)) in
              let there : place' ≡ next.place.0 = (rw t at f) ∙ sym next_place in
              rw there (at_point h ok x next (on h ok s fit r p e) address waits_there)

          elsewhere : eqb to ahead ≡ false → At h x place' (kind_there h.listing place')
          elsewhere t =
              let seen = ap (λ (t : Sight). spot t (length h.listing)) (facing_there h.listing h.base to waits) in
              at_spot h ok x place' ((rw t at f) ∙ seen)

      pub done_so : (ahead to kind' : ℕ) (waits' : Waiting) → waits' ≡ waits → ahead ≡ ahead_in m.registers bytes
          → to ≡ followed_to registers waits' ahead (place + listing_length kind) h.listing h.base → kind' ≡ kind_there h.listing to
          → LedOn h s (parts_of registers flags waits' memory) to kind'
      done_so ahead to kind' waits' w a f k =
          let there = at_next ahead to a (rw w at f) in
          rw (k, w) (record { fit = fit_next; at = there; on = round_done })

  pub refused_so : (k : Refusal) (registers : List ℕ) (flags : Flags) (memory : List ℕ)
      → keeping (came (number k) registers flags m.waiting (after (record_of bytes) m.waiting)) memory ≡ obeyed m (record_of bytes) s.memory h.setup
      → (q : Result Stride Refusal) → IsErrAnd q (λ e. e ≡ k) → SteppedSo h s place q registers flags memory
  refused_so k registers flags memory steps (Ok x) on = absurd on
  refused_so k registers flags memory steps (Err e) on =
      λ left. rw on (refused_here (number k) registers flags memory steps (eqb-false (number k) 0 (some_number k)) left)
