-- A turn of each pass: the lowest place with a number, from the next point on, is that of the whole still.
use Prim.Native.Nat.{ℕ, ◌-◌, ◌≤◌, ◌<◌}
use mathlib.Core.Path.{◌≡◌}
use mathlib.Core.Bool.{false}
use mathlib.Core.List.{List, [], ◌∷◌}
use lib.Dec.{eqb}
use Rattle.std.specs.Bool.{if◌then◌else◌}
use Rattle.flow.specs.declared.Way.{Way}
use Rattle.layout.specs.declared.Point.{Point}
use Rattle.layout.specs.Layout.{walk}
use Rattle.layout.proofs.Points.{walk_on, walk_none}
use Rattle.layout.proofs.Turns.{Passed}
use Rattle.listing.specs.Check.{Checked, report, lowest}

module _ (listing : List ℕ) (p : Point) (left : ℕ) (number : Point → ℕ) (whole : Checked) (so_far : lowest number (walk left listing p) ≡ whole) where
  pub pass_on : 0 < left → (w : Way) (q : Point) → Passed listing p w q → number p ≡ 0 → lowest number (walk (left - 1) listing q) ≡ whole
  unfolding lowest
  pass_on h w q g n = rw (walk_on listing p left h g.what q g.goes, n) at so_far

  pub pass_here : 0 < left → (w : Way) (q : Point) → Passed listing p w q → (n : ℕ) → number p ≡ n → eqb n 0 ≡ false
      → report n p.place.0 ≡ whole
  unfolding lowest
  pass_here h w q g n m o = rw (walk_on listing p left h g.what q g.goes, m, o) at so_far

  pub pass_last : walk left listing p ≡ p ∷ [] → (n : ℕ) → number p ≡ n
      → (if eqb n 0 then report 0 0 else report n p.place.0) ≡ whole
  unfolding lowest
  pass_last e n m = rw (e, m) at so_far

  pub pass_none : left ≤ 0 → report 0 0 ≡ whole
  unfolding lowest
  pass_none h = rw (walk_none listing p left h) at so_far
