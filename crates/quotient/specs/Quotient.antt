-- "SDIV rounds toward zero; a zero divisor gives 0."
use Rattle.std.specs.Prelude.{ℕ, ◌/◌, eqb}
use Rattle.std.specs.Int.Signed.{quot_z}
use Rattle.std.specs.Bool.{if◌then◌else◌}
use Rattle.word.specs.Word.{signed, wrapped}

unfoldable pub UDIV : ℕ → ℕ → ℕ
UDIV x y = if eqb y 0 then 0 else x / y

-- the minimum by minus one is 2 ^ 31, which a word holds as the minimum again
unfoldable pub SDIV : ℕ → ℕ → ℕ
SDIV x y = if eqb y 0 then 0 else wrapped 32 (quot_z (signed x) (signed y))
