-- A register list of kind 10: register i is a member just when bit i is set.
use Rattle.std.specs.Prelude.{ℕ, zero, suc, ◌+◌, Bool}
use Rattle.word.specs.Word.{one_if, bit}

abbrev pub member : ℕ → ℕ → Bool
member list register = bit register list

-- the members among the registers below n
unfoldable pub members_below : ℕ → ℕ → ℕ
members_below zero list = 0
members_below (suc n) list = members_below n list + one_if (member list n)
