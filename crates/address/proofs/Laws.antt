use Rattle.std.proofs.Common.{◌≡◌, ℕ, ◌-◌, ◌%◌, ◌^◌, ◌<◌, arith}
use lib.Pow.{pow-lt}
use lib.Bits.{bit_and}
use Rattle.address.specs.Address.{cleared}
use Rattle.word.proofs.Bits.{one_if_bit, and_bit, and_complement}

-- every bit of a word but bit i
pub all_but_bit : (i x : ℕ) → i < 32 → x < 2 ^ 32 → bit_and x (2 ^ 32 - 1 - 2 ^ i) ≡ cleared i x
unfolding cleared
all_but_bit i x l h = rw (one_if_bit i x, ← and_bit x i) (omega (arith, and_complement 32 x (2 ^ i) h (pow-lt l)))

pub cleared_even : (x : ℕ) → cleared 0 x % 2 ≡ 0
unfolding cleared
cleared_even x = rw (one_if_bit 0 x) (omega arith)

pub cleared_same : (x : ℕ) → x % 2 ≡ 0 → cleared 0 x ≡ x
unfolding cleared
cleared_same x h = rw (one_if_bit 0 x) (omega arith)
