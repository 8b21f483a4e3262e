-- A record that none of 3 and 4 refuses; and one that is refused, by no other number.
use Prim.Native.Nat.{ℕ, ◌≤◌}
use mathlib.Core.Path.{◌≡◌, refl}
use mathlib.Core.Bool.{Bool, true, false}
use native.Mathlib.Omega.{arith}
use Rattle.std.specs.Bool.{if◌then◌else◌}
use Rattle.record.specs.declared.Record.{Record}
use Rattle.restricted.specs.Restricted.{allowed}
use Rattle.flow.specs.Flow.{misplaced}
use Rattle.judge.specs.Judge.{refusal}

neither : (a m : Bool) → ◌≡◌ {A = ℕ} (if a then (if m then 4 else 0) else 3) 0 → (a ≡ true) × (m ≡ false)
neither true true e = absurd (omega arith)
neither true false e = (refl, refl)
neither false m e = absurd (omega arith)

pub not_refused : (r : Record) (waiting : ℕ) → refusal r waiting ≡ 0 → (allowed r ≡ true) × (misplaced r waiting ≡ false)
unfolding refusal
not_refused r waiting e = neither (allowed r) (misplaced r waiting) e

pub refusal_low : (r : Record) (waiting : ℕ) → refusal r waiting ≤ 4
unfolding refusal
refusal_low r waiting = go (allowed r) (misplaced r waiting)
  where
    go : (a m : Bool) → ◌≤◌ (if a then (if m then 4 else 0) else 3) 4
    go true true = omega arith
    go true false = omega arith
    go false m = omega arith
