-- What the code sees at a point says what stands there, and how a loop over the points goes on.
use Rattle.std.proofs.Common.{◌≡◌, ℕ, ◌^◌, ◌<◌, ◌≤◌, List, [], ◌∷◌, sym, refl, ap, ◌∙◌, mod-eq_of_lt, arith}
use Rattle.record.specs.declared.Record.{Record}
use Rattle.flow.specs.declared.Way.{Way}
use Rattle.flow.specs.Flow.{way}
use Rattle.layout.specs.declared.Point.{Point}
use Rattle.layout.specs.Layout.{Met, Onward, AtEnd, Refusal, meets, walk, filled}
use Rattle.layout.specs.Code.{Goes, Ends, Stops, in_64_bits, seen, seen_filled}
use Rattle.layout.proofs.Points.{next_length, next_address, walk_end, walk_refused}

kept_whole : (p : Point) → p.address.0 < 2 ^ 64 → in_64_bits p ≡ p
unfolding in_64_bits
kept_whole p h = rw (mod-eq_of_lt h)

pub seen_as : (t : Met) → seen_filled (seen t) ≡ filled t
unfolding seen seen_filled filled
seen_as (Onward r q) = refl
seen_as AtEnd = refl
seen_as (Refusal number) = refl

-- ---- a record was seen, and where it goes
pub record Passed (listing : List ℕ) (p : Point) (w : Way) (q : Point) : Type 0 where
  pub what : Record
  pub leads : w ≡ way what
  pub goes : meets listing p ≡ Onward what q

module _ (listing : List ℕ) (p : Point) where
  pub passed : (w : Way) (q : Point) → Goes w q ≡ seen (meets listing p) → p.address.0 ≤ 2 ^ 33 → Passed listing p w q
  unfolding seen
  passed w q e h = go (meets listing p) refl e
    where
      go : (m : Met) → meets listing p ≡ m → Goes w q ≡ seen m → Passed listing p w q
      go (Onward r s) f g =
          let n = next_address listing p r s f in
          let whole = kept_whole s (omega (arith, next_length listing p r s f)) in
          let same : in_64_bits s ≡ q = cc in
          record { what = r; leads = cc; goes = f ∙ ap (Onward r) (sym whole ∙ same) }
      go AtEnd f g = let z : ◌≡◌ {A = ℕ} 0 1 = cc in absurd (omega arith)
      go (Refusal number) f g = let z : ◌≡◌ {A = ℕ} 0 1 = cc in absurd (omega arith)

  pub ended : Ends ≡ seen (meets listing p) → meets listing p ≡ AtEnd
  unfolding seen
  ended = go (meets listing p)
    where
      go : (m : Met) → Ends ≡ seen m → m ≡ AtEnd
      go (Onward r s) f = let z : ◌≡◌ {A = ℕ} 0 1 = cc in absurd (omega arith)
      go AtEnd f = refl
      go (Refusal number) f = let z : ◌≡◌ {A = ℕ} 0 1 = cc in absurd (omega arith)

  pub stopped : (number : ℕ) → Stops number ≡ seen (meets listing p) → meets listing p ≡ Refusal number
  unfolding seen
  stopped number = go (meets listing p)
    where
      go : (m : Met) → Stops number ≡ seen m → m ≡ Refusal number
      go (Onward r s) f = let z : ◌≡◌ {A = ℕ} 0 1 = cc in absurd (omega arith)
      go AtEnd f = let z : ◌≡◌ {A = ℕ} 0 1 = cc in absurd (omega arith)
      go (Refusal n) f = let same : n ≡ number = cc in ap Refusal same

  -- where no record was seen the walk is over
  pub ends_last : Ends ≡ seen (meets listing p) → (left : ℕ) → 0 < left → walk left listing p ≡ p ∷ []
  ends_last e left h = walk_end listing p left h (ended e)

  pub stops_last : (number : ℕ) → Stops number ≡ seen (meets listing p) → (left : ℕ) → 0 < left → walk left listing p ≡ p ∷ []
  stops_last number e left h = walk_refused listing p left h number (stopped number e)
