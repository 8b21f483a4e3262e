-- "Every value put in R15 has bit 0 cleared"; as a base R15 has "bit 1 cleared"; a link has "bit 0 set";
-- "address sums in a step, and branch targets, are taken modulo 2^32".
use Rattle.std.specs.Prelude.{ℕ, ◌+◌, ◌-◌, ◌*◌, ◌^◌, ℤ, pos, ◌+ℤ◌}
use Rattle.word.specs.Word.{one_if, bit, wrapped}

unfoldable pub cleared : ℕ → ℕ → ℕ
cleared i x = x - one_if (bit i x) * 2 ^ i

unfoldable pub linked : ℕ → ℕ
linked x = cleared 0 x + 1

-- an address and a signed offset
unfoldable pub moved : ℕ → ℤ → ℕ
moved x offset = wrapped 32 (pos x +ℤ offset)
