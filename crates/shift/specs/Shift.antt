-- The shifter. Each definition holds for every amount: at 32 and above it gives what paper 01 lists,
-- and amount 0 leaves the word and the carry before.
use Rattle.std.specs.Prelude.{ℕ, ◌+◌, ◌-◌, ◌*◌, ◌/◌, ◌%◌, ◌^◌, min, Bool, eqb}
use Rattle.std.specs.Int.Signed.{shr_z}
use Rattle.std.specs.Bool.{if◌then◌else◌}
use Rattle.word.specs.Word.{one_if, bit, negative, signed, wrapped}
use Rattle.shift.specs.declared.Shifted.{Shifted}

-- what leaves at the top is lost; the last bit that left stands at bit 32
unfoldable pub LSL : ℕ → ℕ → Bool → Shifted
LSL x amount carry = record {
  value = x * 2 ^ amount % 2 ^ 32;
  carry = if eqb amount 0 then carry else bit 32 (x * 2 ^ amount);
}

-- what leaves at the bottom is lost; the last bit that left was bit amount - 1, and no bit from 32 on is set
unfoldable pub LSR : ℕ → ℕ → Bool → Shifted
LSR x amount carry = record {
  value = x / 2 ^ amount;
  carry = if eqb amount 0 then carry else bit (amount - 1) x;
}

-- the same on the signed number, rounded down: the sign comes in at the top, and leaves from 32 on
unfoldable pub ASR : ℕ → ℕ → Bool → Shifted
ASR x amount carry = record {
  value = wrapped 32 (shr_z (signed x) (2 ^ amount));
  carry = if eqb amount 0 then carry else bit (min (amount - 1) 31) x;
}

-- a word turned to the right by less than 32: what leaves at the bottom comes in at the top
unfoldable pub rotated : ℕ → ℕ → ℕ
rotated x amount = x / 2 ^ amount + x % 2 ^ amount * 2 ^ (32 - amount)

-- "ROR above 32 is ROR by 32 less"; the last bit that left came in at bit 31
unfoldable pub ROR : ℕ → ℕ → Bool → Shifted
ROR x amount carry = record {
  value = rotated x (amount % 32);
  carry = if eqb amount 0 then carry else negative (rotated x (amount % 32));
}

-- one place to the right through the carry
unfoldable pub RRX : ℕ → Bool → Shifted
RRX x carry = record { value = x / 2 + one_if carry * 2 ^ 31; carry = bit 0 x }
