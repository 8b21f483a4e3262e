-- Bounds past the ends of a width bound its numbers no more than those ends do.
use Prim.Native.Nat.{ℕ, zero, suc, ◌-◌, ◌^◌, ◌≤◌, ◌<◌, min}
use mathlib.Core.Path.{◌≡◌, refl, ap}
use mathlib.Core.Bool.{false}
use native.Mathlib.Omega.{arith}
use lib.Pow.{pow_pos}
use borrow.Author.Tests.{le-ltb}
use lib.Signed.{lt_z}
use lib.IntN.{ℤ, pos, negsuc, neg_ℤ}
use mir.Syntax.{Width, w32}
use mir.Val.{SFits, hbits}
use Rattle.word.proofs.Cases.{cases, le_or_gt}
use Rattle.saturate.specs.Saturate.{saturated_to}

none_above_width : {w : Width} (k : ℕ) (z : ℤ) → SFits w z → 2 ^ hbits w ≤ suc k → lt_z (pos k) z ≡ false
none_above_width k (pos n) f h = le-ltb k n (omega (arith, f.sfits))
none_above_width k (negsuc n) f h = refl

none_below_width : {w : Width} (k : ℕ) (z : ℤ) → SFits w z → 2 ^ hbits w ≤ suc k → lt_z z (negsuc k) ≡ false
none_below_width k (pos n) f h = refl
none_below_width k (negsuc n) f h = le-ltb k n (omega (arith, f.sfits))

pub most_held : (n : ℕ) (least z : ℤ) → SFits w32 z
    → saturated_to least (pos (min (2 ^ n) (2 ^ 31) - 1)) z ≡ saturated_to least (pos (2 ^ n - 1)) z
most_held n least z f =
    let k = min (2 ^ n) (2 ^ 31) - 1 in
    cases (le_or_gt (2 ^ n) (2 ^ 31))
    (λ h. let e : k ≡ 2 ^ n - 1 = omega arith in rw e)
    (λ h. rw (none_above_width k z f (omega arith), none_above_width (2 ^ n - 1) z f (omega arith)))

negated : (k : ℕ) → 0 < k → neg_ℤ (pos k) ≡ negsuc (k - 1)
negated zero h = elim h [ ]
negated (suc k) h = ap negsuc (omega arith)

pub least_held : (n : ℕ) (most z : ℤ) → SFits w32 z
    → saturated_to (negsuc (min (2 ^ n) (2 ^ 31) - 1)) most z ≡ saturated_to (neg_ℤ (pos (2 ^ n))) most z
least_held n most z f =
    let k = min (2 ^ n) (2 ^ 31) - 1 in
    rw (negated (2 ^ n) (pow_pos n))
    (cases (le_or_gt (2 ^ n) (2 ^ 31))
    (λ h. let e : k ≡ 2 ^ n - 1 = omega arith in rw e)
    (λ h. rw (none_below_width k z f (omega arith), none_below_width (2 ^ n - 1) z f (omega arith))))
