-- What the check says of every point of an accepted listing.
use Prim.Native.Nat.{ℕ, zero, suc, ◌+◌, ◌/◌, ◌%◌, ◌^◌, ◌≤◌, ◌<◌}
use mathlib.Core.Path.{◌≡◌, refl, ap, ◌∙◌}
use mathlib.Core.Bool.{Bool, true, false, false≢true, not, ◌||◌}
use mathlib.Core.Logic.{◌⊎◌, inl, inr}
use mathlib.Core.List.Memᴰ
use mathlib.Core.List.{List, [], ◌∷◌, Memᴰ}
use native.Mathlib.Omega.{arith}
use borrow.Author.Tests.{eqb-true, eqb-false, ltb-false, not-true}
use lib.Dec.{eqb, ltb}
use lib.IntN.{ℤ}
use lib.ListN.{length}
use Rattle.std.specs.Bool.{if◌then◌else◌}
use Rattle.word.specs.Word.{bit}
use Rattle.word.proofs.Cases.{cases, both_true, either_true, neither}
use Rattle.waiting.specs.Waiting.{nothing, waiting_count}
use Rattle.record.specs.declared.Record.{Record}
use Rattle.flow.specs.Flow.{way, target}
use Rattle.flow.specs.declared.Way.TheVariants.{Direct}
use Rattle.layout.specs.declared.Point.{Point}
use Rattle.layout.specs.Layout.{Met, Onward, AtEnd, Refusal, free, meets, layout, filled}
use Rattle.layout.proofs.Points.{refused_number, rises}
use Rattle.layout.proofs.Members.{On, on_within, next_on}
use Rattle.layout.proofs.Blocks.{nothing_waits}
use Rattle.landing.specs.Landing.{lands_here, lands_at, lands, landing}
use Rattle.listing.specs.Check.{report, lowest, end_fault, fault, astray, branch_fault, first_pass, second_pass, checked}

abbrev pub Accepted : List ℕ → ℕ → Type 0
Accepted listing base = (checked listing base).number ≡ 0

-- ---- any list of points
lowest_none : (number : Point → ℕ) (ps : List Point) → (lowest number ps).number ≡ 0 → (p : Point) → Memᴰ p ps → number p ≡ 0
unfolding lowest
lowest_none number [] e p m = absurd (Memᴰ.not-nil m)
lowest_none number (q ∷ ps) e p m = go (λ f n. lowest_none number ps f p n) (eqb (number q) 0) refl e
  where
    go : ((lowest number ps).number ≡ 0 → Memᴰ p ps → number p ≡ 0) → (t : Bool) → eqb (number q) 0 ≡ t
        → (if t then lowest number ps else report (number q) q.place.0).number ≡ 0 → number p ≡ 0
    go rest true t f = cases (Memᴰ.cases_cons m) (λ s. ap number s ∙ eqb-true (number q) 0 t) (λ n. rest f n)
    go rest false t f = absurd (eqb-false (number q) 0 t f)

-- the place that is reported is 0 or that of a point
lowest_place : (P : ℕ → Type 0) → P 0 → (number : Point → ℕ) (ps : List Point) → ((p : Point) → Memᴰ p ps → P p.place.0)
    → P (lowest number ps).place.0
unfolding lowest
lowest_place P none number [] each = none
lowest_place P none number (q ∷ ps) each = go (lowest_place P none number ps (λ p m. each p (Memᴰ.tail m))) (eqb (number q) 0)
  where
    go : P (lowest number ps).place.0 → (t : Bool) → P (if t then lowest number ps else report (number q) q.place.0).place.0
    go rest true = rest
    go rest false = each q (Memᴰ.head refl)

record Landed (listing : List ℕ) (address : ℕ) (ps : List Point) : Type 0 where
  point : Point
  member : Memᴰ point ps
  at : lands_at listing address point ≡ true

landed : (listing : List ℕ) (address : ℕ) (ps : List Point) → lands listing address ps ≡ true → Landed listing address ps
unfolding lands
landed listing address [] e = absurd (false≢true e)
landed listing address (q ∷ ps) e =
    go (λ f. landed listing address ps f) (either_true (lands_at listing address q) (lands listing address ps) e)
  where
    go : (lands listing address ps ≡ true → Landed listing address ps)
        → (lands_at listing address q ≡ true) ⊎ (lands listing address ps ≡ true) → Landed listing address (q ∷ ps)
    go rest (inl f) = record { point = q; member = Memᴰ.head refl; at = f }
    go rest (inr f) = let l = rest f in record { point = l.point; member = Memᴰ.tail l.member; at = l.at }

-- ---- the check
pub record Parts (listing : List ℕ) (base : ℕ) : Type 0 where
  pub size : length listing ≤ 65536
  pub even : bit 0 base ≡ false
  pub first : (first_pass listing base).number ≡ 0
  pub second : (second_pass listing base).number ≡ 0

module _ (listing : List ℕ) (base : ℕ) where
  pub parts : Accepted listing base → Parts listing base
  unfolding checked
  parts = go (ltb 65536 (length listing) || bit 0 base) refl
    where
      passes : (t : Bool) → eqb (first_pass listing base).number 0 ≡ t
          → (if t then second_pass listing base else first_pass listing base).number ≡ 0
          → ((first_pass listing base).number ≡ 0) × ((second_pass listing base).number ≡ 0)
      passes true t e = (eqb-true (first_pass listing base).number 0 t, e)
      passes false t e = absurd (eqb-false (first_pass listing base).number 0 t e)

      go : (t : Bool) → (ltb 65536 (length listing) || bit 0 base) ≡ t
          → (if t then report 1 0
          else (if eqb (first_pass listing base).number 0 then second_pass listing base else first_pass listing base)).number ≡ 0
          → Parts listing base
      go true t e = absurd (omega arith)
      go false t e =
          let n = neither (ltb 65536 (length listing)) (bit 0 base) t in
          let p = passes (eqb (first_pass listing base).number 0) refl e in
          record { size = ltb-false 65536 (length listing) n.0; even = n.1; first = p.0; second = p.1 }

  pub checked_place : (checked listing base).place.0 ≤ 65536
  unfolding checked first_pass second_pass
  checked_place = go (ltb 65536 (length listing) || bit 0 base) refl
    where
      pass : length listing ≤ 65536 → (number : Point → ℕ) → (lowest number (layout listing base)).place.0 ≤ 65536
      pass h number =
          lowest_place (λ place. place ≤ 65536) (omega arith) number (layout listing base)
          (λ p m. omega (arith, (on_within listing base p m).inside))

      either : length listing ≤ 65536 → (t : Bool) → (if t then second_pass listing base else first_pass listing base).place.0 ≤ 65536
      either h true = pass h _
      either h false = pass h _

      go : (t : Bool) → (ltb 65536 (length listing) || bit 0 base) ≡ t
          → (if t then report 1 0
          else (if eqb (first_pass listing base).number 0 then second_pass listing base else first_pass listing base)).place.0 ≤ 65536
      go true t = omega arith
      go false t =
          either (ltb-false 65536 (length listing) (neither (ltb 65536 (length listing)) (bit 0 base) t).0) (eqb (first_pass listing base).number 0)

-- ---- the points of a listing that the first pass leaves
end_fine : (p : Point) → end_fault p ≡ 0 → (free p ≡ true) × (p.address.0 ≤ 0xFFFFFFFE)
unfolding end_fault
end_fine p = go (free p) (ltb 0xFFFFFFFE p.address.0) refl refl
  where
    go : (f h : Bool) → free p ≡ f → ltb 0xFFFFFFFE p.address.0 ≡ h
        → ◌≡◌ {A = ℕ} (if not f then 4 else (if h then 1 else 0)) 0 → (free p ≡ true) × (p.address.0 ≤ 0xFFFFFFFE)
    go false h f l e = absurd (omega arith)
    go true true f l e = absurd (omega arith)
    go true false f l e = (f, ltb-false 0xFFFFFFFE p.address.0 l)

module _ (listing : List ℕ) (base : ℕ) (sound : (first_pass listing base).number ≡ 0) where
  on_fault : (p : Point) → On listing base p → fault (meets listing p) p ≡ 0
  unfolding first_pass
  on_fault p o = lowest_none (λ p. fault (meets listing p) p) (layout listing base) sound p o

  unrefused : (p : Point) → On listing base p → (number : ℕ) → meets listing p ≡ Refusal number → ⊥
  unfolding fault
  unrefused p o number e = refused_number listing p number e (rw e at (on_fault p o))

  low : (count : ℕ) (p : Point) → On listing base p → length listing < count + p.place.0 → p.address.0 ≤ 0xFFFFFFFE
  unfolding fault
  low zero p o h = absurd (omega (arith, (on_within listing base p o).inside))
  low (suc count) p o h = go (λ q n l. low count q n l) (meets listing p) refl
    where
      go : ((q : Point) → On listing base q → length listing < count + q.place.0 → q.address.0 ≤ 0xFFFFFFFE)
          → (t : Met) → meets listing p ≡ t → p.address.0 ≤ 0xFFFFFFFE
      go rest (Onward r q) e =
          let up = rises listing p r q e in
          omega (arith, rest q (next_on listing base p o r q e) (omega arith))
      go rest AtEnd e = (end_fine p (rw e at (on_fault p o))).1
      go rest (Refusal number) e = absurd (unrefused p o number e)

  pub sound_low : (p : Point) → On listing base p → p.address.0 ≤ 0xFFFFFFFE
  sound_low p o = low (length listing + 1) p o (omega arith)

-- ---- the points of an accepted listing
pub record Landing (listing : List ℕ) (base address : ℕ) : Type 0 where
  pub point : Point
  pub on : On listing base point
  pub at : point.address.0 ≡ address
  pub waits : point.waiting ≡ nothing
  pub steps : filled (meets listing point) ≡ false

module _ (listing : List ℕ) (base : ℕ) (ok : Accepted listing base) where
  sound : (first_pass listing base).number ≡ 0
  sound = (parts listing base ok).first

  on_branch : (p : Point) → On listing base p → branch_fault listing base (meets listing p) p ≡ 0
  unfolding second_pass
  on_branch p o = lowest_none (λ p. branch_fault listing base (meets listing p) p) (layout listing base) (parts listing base ok).second p o

  -- no record is refused
  pub not_stopped : (p : Point) → On listing base p → (number : ℕ) → meets listing p ≡ Refusal number → ⊥
  not_stopped = unrefused listing base sound

  free_nothing : (p : Point) → On listing base p → free p ≡ true → p.waiting ≡ nothing
  unfolding free
  free_nothing p o f = nothing_waits listing base p o (eqb-true (waiting_count p.waiting) 0 f)

  -- at the end nothing waits
  pub end_waits : (p : Point) → On listing base p → meets listing p ≡ AtEnd → p.waiting ≡ nothing
  unfolding fault
  end_waits p o e = free_nothing p o (end_fine p (rw e at (on_fault listing base sound p o))).0

  -- every address is a word's, and even
  pub on_low : (p : Point) → On listing base p → p.address.0 ≤ 0xFFFFFFFE
  on_low = sound_low listing base sound

  even_base : base % 2 ≡ 0
  even_base = omega (arith, eqb-false (base / 2 ^ 0 % 2) 1 (parts listing base ok).even)

  pub on_even : (p : Point) → On listing base p → p.address.0 % 2 ≡ 0
  on_even p o = let w = on_within listing base p o in omega (arith, even_base)

  -- a direct branch leads to a point where nothing waits and no filler stands
  pub branch_lands : (p : Point) → On listing base p → (r : Record) (q : Point) → meets listing p ≡ Onward r q
      → (offset : ℤ) → way r ≡ Direct offset → Landing listing base (target p.address.0 (Direct offset))
  unfolding branch_fault astray landing lands_here
  branch_lands p o r q e offset f =
      let to = target p.address.0 (Direct offset) in
      let n = rw (e, f) at (on_branch p o) in
      found to (hits (landing listing base to) n)
    where
      hits : (t : Bool) → ◌≡◌ {A = ℕ} (if not t then 9 else 0) 0 → t ≡ true
      hits true n = refl
      hits false n = absurd (omega arith)

      found : (to : ℕ) → landing listing base to ≡ true → Landing listing base to
      found to t =
          let l = landed listing to (layout listing base) t in
          let b = both_true (eqb l.point.address.0 to) (lands_here listing l.point) l.at in
          let f = both_true (free l.point) (not (filled (meets listing l.point))) b.1 in
          record {
            point = l.point;
            on = l.member;
            at = eqb-true l.point.address.0 to b.0;
            waits = free_nothing l.point l.member f.0;
            steps = not-true (filled (meets listing l.point)) f.1;
          }
