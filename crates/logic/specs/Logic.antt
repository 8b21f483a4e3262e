-- The logic of words, bit by bit.
use Rattle.std.specs.Prelude.{ℕ}
use Rattle.std.specs.Int.Bits.{bit_and, bit_or, bit_xor}
use Rattle.word.specs.Word.{inverted}

abbrev pub AND : ℕ → ℕ → ℕ
AND x y = bit_and x y

abbrev pub ORR : ℕ → ℕ → ℕ
ORR x y = bit_or x y

abbrev pub EOR : ℕ → ℕ → ℕ
EOR x y = bit_xor x y

abbrev pub BIC : ℕ → ℕ → ℕ
BIC x y = bit_and x (inverted y)

abbrev pub ORN : ℕ → ℕ → ℕ
ORN x y = bit_or x (inverted y)

abbrev pub MVN : ℕ → ℕ
MVN x = inverted x
