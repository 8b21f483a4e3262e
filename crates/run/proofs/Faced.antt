-- What a machine faces.
use Prim.Native.Nat.{ℕ}
use mathlib.Core.Bool.{Bool, true, false}
use mathlib.Core.Path.{◌≡◌, refl, ap, ◌∙◌}
use native.Mathlib.Omega.{arith}
use Rattle.std.specs.Bool.{if◌then◌else◌}
use Rattle.waiting.specs.declared.Waiting.{Waiting}
use Rattle.waiting.specs.Waiting.{nothing, same}
use Rattle.waiting.proofs.Laws.{same_is}
use Rattle.record.specs.declared.Record.{Record}
use Rattle.layout.specs.declared.Point.{Point}
use Rattle.layout.specs.Layout.{AtAddress, Stands, End, Stray}
use Rattle.run.specs.Run.{agreeing}

-- what agrees with what waits is what is there
pub agreed_record : (t : AtAddress) (w : Waiting) (r : Record) (p : Point) → agreeing t w ≡ Stands r p → (t ≡ Stands r p) × (w ≡ p.waiting)
unfolding agreeing
agreed_record (Stands x q) w r p given = go (same w q.waiting) refl given
  where
    go : (t : Bool) → same w q.waiting ≡ t → ◌≡◌ {A = AtAddress} (if t then Stands x q else Stray) (Stands r p)
        → (Stands x q ≡ Stands r p) × (w ≡ p.waiting)
    go true s e = let f : q ≡ p = cc in (e, same_is w q.waiting s ∙ ap (λ (x : Point). x.waiting) f)
    go false s e = let z : ◌≡◌ {A = ℕ} 0 1 = cc in absurd (omega arith)
agreed_record End w r p given = go (same w nothing) given
  where
    go : (t : Bool) → ◌≡◌ {A = AtAddress} (if t then End else Stray) (Stands r p) → (End ≡ Stands r p) × (w ≡ p.waiting)
    go true e = let z : ◌≡◌ {A = ℕ} 0 1 = cc in absurd (omega arith)
    go false e = let z : ◌≡◌ {A = ℕ} 0 1 = cc in absurd (omega arith)
agreed_record Stray w r p e = let z : ◌≡◌ {A = ℕ} 0 1 = cc in absurd (omega arith)

pub agreed_end : (t : AtAddress) (w : Waiting) → agreeing t w ≡ End → (t ≡ End) × (w ≡ nothing)
unfolding agreeing
agreed_end (Stands x q) w given = go (same w q.waiting) given
  where
    go : (t : Bool) → ◌≡◌ {A = AtAddress} (if t then Stands x q else Stray) End → (Stands x q ≡ End) × (w ≡ nothing)
    go true e = let z : ◌≡◌ {A = ℕ} 0 1 = cc in absurd (omega arith)
    go false e = let z : ◌≡◌ {A = ℕ} 0 1 = cc in absurd (omega arith)
agreed_end End w given = go (same w nothing) refl given
  where
    go : (t : Bool) → same w nothing ≡ t → ◌≡◌ {A = AtAddress} (if t then End else Stray) End → (End ≡ End) × (w ≡ nothing)
    go true s e = (refl, same_is w nothing s)
    go false s e = let z : ◌≡◌ {A = ℕ} 0 1 = cc in absurd (omega arith)
agreed_end Stray w e = let z : ◌≡◌ {A = ℕ} 0 1 = cc in absurd (omega arith)
