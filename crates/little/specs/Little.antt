-- Numbers in bytes, the lowest byte first.
use Rattle.std.specs.Prelude.{ℕ, zero, suc, ◌+◌, ◌*◌, ◌^◌, List, get_or}

-- the number in k bytes, of which f gives byte i
unfoldable pub little : ℕ → (ℕ → ℕ) → ℕ
little zero f = 0
little (suc i) f = little i f + f i * 2 ^ (8 * i)

-- past the last byte of a list there are zeros
abbrev pub byte : List ℕ → ℕ → ℕ
byte xs at = get_or xs at 0

-- the number in the k bytes of a list from `at` on
abbrev pub number_at : ℕ → List ℕ → ℕ → ℕ
number_at k xs at = little k (λ i. byte xs (at + i))
