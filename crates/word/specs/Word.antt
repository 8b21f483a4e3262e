-- A word is a number below 2 ^ 32; these are the ways in which the arithmetic reads one.
use Rattle.std.specs.Prelude.{ℕ, zero, suc, ◌+◌, ◌-◌, ◌*◌, ◌/◌, ◌%◌, ◌^◌, Bool, true, false, leb, eqb, ℤ, pos, negsuc, ◌-ℤ◌}
use Rattle.std.specs.Bool.{if◌then◌else◌}

-- a truth as a number
abbrev pub one_if : Bool → ℕ
one_if true = 1
one_if false = 0

-- is bit i of x set?
abbrev pub bit : ℕ → ℕ → Bool
bit i x = eqb (x / 2 ^ i % 2) 1

-- is bit 31 set?
abbrev pub negative : ℕ → Bool
negative x = leb (2 ^ 31) x

-- every bit of a word turned over
abbrev pub inverted : ℕ → ℕ
inverted x = 2 ^ 32 - 1 - x

-- the number below 2 ^ n whose bit i is `at i`
abbrev pub from_bits : ℕ → (ℕ → Bool) → ℕ
from_bits zero at = 0
from_bits (suc n) at = from_bits n at + one_if (at n) * 2 ^ n

-- a number of w bits read as a signed one: its highest bit counts for less than nothing
unfoldable pub signed_in : ℕ → ℕ → ℤ
signed_in w x = if leb (2 ^ (w - 1)) x then pos x -ℤ pos (2 ^ w) else pos x

abbrev pub signed : ℕ → ℤ
signed x = signed_in 32 x

-- an integer modulo 2 ^ k: the k bits that two's complement gives it
unfoldable pub wrapped : ℕ → ℤ → ℕ
wrapped k (pos n) = n % 2 ^ k
wrapped k (negsuc n) = 2 ^ k - 1 - n % 2 ^ k
