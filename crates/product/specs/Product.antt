-- Products modulo 2 ^ 32, and long products of 64 bits in two words.
use Rattle.std.specs.Prelude.{ℕ, ◌+◌, ◌*◌, ◌/◌, ◌%◌, ◌^◌, pos, ◌+ℤ◌, ◌-ℤ◌, ◌*ℤ◌}
use Rattle.word.specs.Word.{signed, wrapped}
use Rattle.product.specs.declared.Long.{Long}

unfoldable pub MUL : ℕ → ℕ → ℕ
MUL x y = x * y % 2 ^ 32

unfoldable pub MLA : ℕ → ℕ → ℕ → ℕ
MLA x y a = (a + x * y) % 2 ^ 32

unfoldable pub MLS : ℕ → ℕ → ℕ → ℕ
MLS x y a = wrapped 32 (pos a -ℤ pos (x * y))

-- a number of 64 bits as two words, and two words as one
abbrev pub halves : ℕ → Long
halves n = record { low = n % 2 ^ 32; high = n / 2 ^ 32 }

abbrev pub whole : Long → ℕ
whole l = l.high * 2 ^ 32 + l.low

unfoldable pub UMULL : ℕ → ℕ → Long
UMULL x y = halves (x * y)

unfoldable pub UMLAL : ℕ → ℕ → Long → Long
UMLAL x y a = halves ((whole a + x * y) % 2 ^ 64)

unfoldable pub SMULL : ℕ → ℕ → Long
SMULL x y = halves (wrapped 64 (signed x *ℤ signed y))

unfoldable pub SMLAL : ℕ → ℕ → Long → Long
SMLAL x y a = halves (wrapped 64 (pos (whole a) +ℤ signed x *ℤ signed y))
