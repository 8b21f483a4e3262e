-- CLZ REV REV16 REVSH RBIT.
use Rattle.std.specs.Prelude.{ℕ, zero, suc, ◌+◌, ◌-◌, ◌*◌, ◌/◌, ◌%◌, ◌^◌}
use Rattle.std.specs.Bool.{if◌then◌else◌}
use Rattle.word.specs.Word.{bit, from_bits}
use Rattle.field.specs.Field.{SBFX}

-- the clear bits from bit n - 1 down to the first that is set
abbrev pub clear_from : ℕ → ℕ → ℕ
clear_from zero x = 0
clear_from (suc n) x = if bit n x then 0 else suc (clear_from n x)

unfoldable pub CLZ : ℕ → ℕ
CLZ x = clear_from 32 x

-- byte i of x, the lowest being byte 0
abbrev pub byte_of : ℕ → ℕ → ℕ
byte_of i x = x / 2 ^ (8 * i) % 2 ^ 8

-- a word of four bytes, the highest first
abbrev pub word_of : ℕ → ℕ → ℕ → ℕ → ℕ
word_of a b c d = a * 2 ^ 24 + b * 2 ^ 16 + c * 2 ^ 8 + d

unfoldable pub REV : ℕ → ℕ
REV x = word_of (byte_of 0 x) (byte_of 1 x) (byte_of 2 x) (byte_of 3 x)

-- the bytes of each half exchanged
unfoldable pub REV16 : ℕ → ℕ
REV16 x = word_of (byte_of 2 x) (byte_of 3 x) (byte_of 0 x) (byte_of 1 x)

-- the low half with its bytes exchanged, and its sign above it
unfoldable pub REVSH : ℕ → ℕ
REVSH x = SBFX (REV16 x) 0 16

-- bit i of the result is bit 31 - i of x
unfoldable pub RBIT : ℕ → ℕ
RBIT x = from_bits 32 (λ i. bit (31 - i) x)
