-- "Constants of 02: an 8-bit number shifted left, 00XY00XY, XY00XY00 or XYXYXYXY."
use Rattle.std.specs.Prelude.{ℕ, zero, suc, ◌*◌, ◌/◌, ◌%◌, ◌^◌, Bool, false, ◌&&◌, ◌||◌, ltb, eqb}
use Rattle.std.specs.Bool.{if◌then◌else◌}
use Rattle.word.specs.Word.{negative}

-- does `test` hold of some number below n?
abbrev pub some_below : ℕ → (ℕ → Bool) → Bool
some_below zero test = false
some_below (suc n) test = test n || some_below n test

-- an 8-bit number, shifted left by some amount up to 24
unfoldable pub shifted_byte : ℕ → Bool
shifted_byte x = some_below 25 (λ amount. eqb (x % 2 ^ amount) 0 && ltb (x / 2 ^ amount) (2 ^ 8))

-- "00XY00XY, XY00XY00 or XYXYXYXY"
unfoldable pub repeated_byte : ℕ → Bool
repeated_byte x =
    eqb x (x % 2 ^ 8 * 0x0001_0001) || (eqb x (x / 2 ^ 8 % 2 ^ 8 * 0x0100_0100) || eqb x (x % 2 ^ 8 * 0x0101_0101))

-- either of them
unfoldable pub constant : ℕ → Bool
constant x = shifted_byte x || repeated_byte x

-- "a constant above 255 that is a shifted 8-bit number gives its bit 31, any other constant leaves C"
unfoldable pub constant_carry : ℕ → Bool → Bool
constant_carry x carry = if ltb 255 x && shifted_byte x then negative x else carry
