-- SSAT and USAT of a signed number. (SSAT to 0 bits, which no record asks for, is as to 1.)
use Rattle.std.specs.Prelude.{ℕ, ◌-◌, ◌^◌, ◌||◌, ℤ, pos, neg_ℤ}
use Rattle.std.specs.Int.Signed.{lt_z}
use Rattle.std.specs.Bool.{if◌then◌else◌}
use Rattle.saturate.specs.declared.Saturated.{Saturated}

-- the nearest number from least to most, and whether that is another
abbrev pub saturated_to : ℤ → ℤ → ℤ → Saturated
saturated_to least most z = record {
  value = if lt_z z least then least else (if lt_z most z then most else z);
  saturated = lt_z z least || lt_z most z;
}

-- what n bits hold as a signed number
unfoldable pub SSAT : ℕ → ℤ → Saturated
SSAT n z = saturated_to (neg_ℤ (pos (2 ^ (n - 1)))) (pos (2 ^ (n - 1) - 1)) z

-- what n bits hold as a number from 0 on
unfoldable pub USAT : ℕ → ℤ → Saturated
USAT n z = saturated_to (pos 0) (pos (2 ^ n - 1)) z
