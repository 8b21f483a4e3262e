-- Blocks along the layout: the conditions that wait at a point are a good list; where none is counted nothing waits.
use Rattle.std.proofs.Common.{◌≡◌, ℕ, ◌≤◌, Bool, true, false, not, ◌&&◌, ◌||◌, eqb, leb, List, length, Option, Some, None, sym, refl, ap, ◌∙◌, arith, eq-eqb, eqb-true, leb-false, leb-true}
use mathlib.Core.Bool.{false≢true}
use Rattle.std.specs.Bool.{if◌then◌else◌}
use Rattle.word.proofs.Cases.{both_true, neither}
use Rattle.waiting.specs.Waiting.{nothing, waiting_count, dropped}
use Rattle.waiting.proofs.Good.{Good, good_nothing, good_dropped, good_block}
use Rattle.waiting.proofs.Laws.{none_waits, one_waits}
use Rattle.record.specs.declared.IfThenFields.{IfThenFields}
use Rattle.record.specs.declared.Record.{Record}
use Rattle.record.specs.declared.Record.TheVariants.{IfThen}
use Rattle.fields.specs.Fields.{well_formed, elses_fit}
use Rattle.restricted.specs.Restricted.{allowed}
use Rattle.flow.specs.Flow.{traits, after, leaves, fills, way, misplaced}
use Rattle.flow.proofs.Laws.{after_holds, leaves_no_filler}
use Rattle.reading.specs.declared.Place.{Place}
use Rattle.reading.specs.Reading.{read_at}
use Rattle.reading.proofs.Places.{ahead}
use Rattle.judge.specs.Judge.{refusal}
use Rattle.judge.proofs.Laws.{not_refused}
use Rattle.layout.specs.declared.Point.{Point}
use Rattle.layout.specs.Layout.{Met, Onward, AtEnd, Refusal, start, free, next, refusal_at, judged_at, meets, filled}
use Rattle.layout.proofs.Points.{onto}
use Rattle.layout.proofs.Members.{On, on_holds}

-- the fields of an IT record that may stand
condition_known : (d : IfThenFields) → well_formed (IfThen d) ≡ true → d.condition ≤ 14
unfolding well_formed
condition_known d e =
    let form = not d.form.s && not d.form.wide in
    let known = leb d.condition 14 in
    let some = leb 1 d.count in
    let few = leb d.count 4 in
    let a = (both_true (form && known && some && few) (elses_fit d.elses d.count) e).0 in
    let b = (both_true (form && known && some) few a).0 in
    let c = (both_true (form && known) some b).0 in
    leb-true d.condition 14 (both_true form known c).1

no_else : (d : IfThenFields) → allowed (IfThen d) ≡ true → d.condition ≡ 14 → d.elses ≡ 0
unfolding allowed
no_else d e c =
    let f : (not (eqb d.condition 14) || eqb d.elses 0) ≡ true = e in
    eqb-true d.elses 0 (rw (eq-eqb d.condition 14 c) at f)

block_steps : (d : IfThenFields) → fills (way (IfThen d)) ≡ false
unfolding fills way traits
block_steps d = refl

module _ (listing : List ℕ) (p : Point) (r : Record) (q : Point) (e : meets listing p ≡ Onward r q) where
  -- a record that is no filler stands where 3 and 4 leave it, alone as well
  pub unrefused : fills (way r) ≡ false → refusal r (waiting_count p.waiting) ≡ 0
  unfolding refusal_at
  unrefused s = rw s at (onto listing p r q e).stands

  -- within a block the rest of it waits, and after an IT record its block
  pub waits_after : q.waiting ≡ after r p.waiting
  unfolding next
  waits_after = ap (λ (x : Point). x.waiting) (onto listing p r q e).reached

  -- a filler may stand next where the record lets it, outside a block
  pub parted_after : q.parted ≡ ((traits r).parts && free p)
  unfolding next
  parted_after = ap (λ (x : Point). x.parted) (onto listing p r q e).reached

  still_good : Good p.waiting → Good q.waiting
  still_good h =
      let o = onto listing p r q e in
      let formed = (ahead listing p.place.0 r q.place o.read).formed in
      rw waits_after
      (after_holds Good r p.waiting (good_dropped p.waiting h)
      (λ d f.
      let free = (not_refused r (waiting_count p.waiting) (unrefused (rw f (block_steps d)))).0 in
      good_block d.condition d.count d.elses (condition_known d (rw f at formed)) (no_else d (rw f at free))))

-- no filler stands where none may
pub unparted : (listing : List ℕ) (p : Point) → p.parted ≡ false → filled (meets listing p) ≡ false
unfolding filled refusal_at
unparted listing p f = go (meets listing p) refl
  where
    number : (r : Record) (t : Bool) → fills (way r) ≡ t → refusal_at r p ≡ 0 → t ≡ false
    number r true t e = let n : ◌≡◌ {A = ℕ} 4 0 = rw (t, f) at e in absurd (omega arith)
    number r false t e = refl

    go : (t : Met) → meets listing p ≡ t → filled t ≡ false
    go (Onward r q) e = number r (fills (way r)) refl (onto listing p r q e).stands
    go AtEnd e = refl
    go (Refusal number) e = refl

module _ (listing : List ℕ) (base : ℕ) (p : Point) (o : On listing base p) where
  pub on_good : Good p.waiting
  unfolding start
  on_good = on_holds listing base (λ x. Good x.waiting) good_nothing (λ x r y e h. still_good listing x r y e h) p o

  pub nothing_waits : waiting_count p.waiting ≡ 0 → p.waiting ≡ nothing
  nothing_waits = none_waits p.waiting on_good

  -- a record that leaves is the last of its block
  pub leaves_last : (r : Record) (q : Point) → meets listing p ≡ Onward r q → leaves (way r) ≡ true → dropped p.waiting ≡ nothing
  unfolding misplaced
  leaves_last r q e l =
      let n = waiting_count p.waiting in
      let spot = (not_refused r n (unrefused listing p r q e (leaves_no_filler (way r) l))).1 in
      let two = (neither ((traits r).alone && leb 1 n) (leaves (way r) && leb 2 n) spot).1 in
      one_waits p.waiting on_good (omega (arith, leb-false 2 n (rw l at two)))

-- where no filler stands it plays no part whether one may
abbrev pub unparted_at : Point → Point
unparted_at p = record { place = p.place; address = p.address; waiting = p.waiting; parted = false }

pub parted_aside : (listing : List ℕ) (p : Point) → filled (meets listing p) ≡ false → meets listing (unparted_at p) ≡ meets listing p
unfolding meets judged_at refusal_at next free filled
parted_aside listing p = go (eqb p.place.0 (length listing))
  where
    judged : (r : Record) (place : Place) (f t : Bool) → fills (way r) ≡ f
        → let number = if f then (if t then 0 else 4) else refusal r (waiting_count p.waiting) in
        filled (if eqb number 0 then Onward r (next r place p) else Refusal number) ≡ false
        → let other = if f then 4 else refusal r (waiting_count p.waiting) in
        ◌≡◌ {A = Met} (if eqb other 0 then Onward r (next r place p) else Refusal other) (if eqb number 0 then Onward r (next r place p) else Refusal number)
    judged r place true true e n = absurd (false≢true (sym n ∙ e))
    judged r place true false e n = refl
    judged r place false t e n = refl

    read : (x : Option (Record × Place)) → filled (judged_at x p) ≡ false → judged_at x (unparted_at p) ≡ judged_at x p
    read (Some (r, place)) n = judged r place (fills (way r)) p.parted refl n
    read None n = refl

    go : (t : Bool) → filled (if t then AtEnd else judged_at (read_at listing p.place.0) p) ≡ false
        → ◌≡◌ {A = Met} (if t then AtEnd else judged_at (read_at listing p.place.0) (unparted_at p))
        (if t then AtEnd else judged_at (read_at listing p.place.0) p)
    go true n = refl
    go false n = read (read_at listing p.place.0) n
