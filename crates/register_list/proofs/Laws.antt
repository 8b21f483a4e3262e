-- The members of a list are the bits that are set.
use Prim.Native.Nat.{ℕ, zero, suc, ◌+◌, ◌*◌, ◌/◌, ◌%◌, ◌^◌, ◌≤◌}
use mathlib.Core.Path.{◌≡◌, sym, ap}
use native.Mathlib.Omega.{arith}
use native.Mathlib.Nat.{mod-one, mod-lt}
use native.Mathlib.Numerals.{one-add}
use lib.Count.{ones, ones_step, ones_cat}
use lib.Pow.{pow_pos, mod-pow-add}
use Rattle.word.proofs.Bits.{one_if_bit}
use Rattle.word.proofs.Numbers.{one_if_le}
use Rattle.register_list.specs.List.{member, members_below}

-- one bit more counts for itself
ones_bit : (n x : ℕ) → ones (x % 2 ^ suc n) ≡ x / 2 ^ n % 2 + ones (x % 2 ^ n)
unfolding ones
ones_bit n x =
    let digit = x / 2 ^ n % 2 in
    let more : x % 2 ^ suc n ≡ digit * 2 ^ n + x % 2 ^ n = rw (← one-add n) (mod-pow-add x 1 n) in
    let one : ones digit ≡ digit =
    let none : digit / 2 ≡ 0 = omega arith in
    rw (ones_step digit, none) (omega arith) in
    rw (more, ones_cat n digit (x % 2 ^ n) (mod-lt x (pow_pos n)), one)

-- the members among the registers below n are the bits set below bit n
pub members_are_ones : (n list : ℕ) → members_below n list ≡ ones (list % 2 ^ n)
unfolding members_below ones
members_are_ones zero list = sym (ap ones (mod-one list))
members_are_ones (suc n) list =
    rw (members_are_ones n list, one_if_bit n list) (omega (arith, ones_bit n list))

pub members_le : (n list : ℕ) → members_below n list ≤ n
unfolding members_below
members_le zero list = omega arith
members_le (suc n) list = omega (arith, members_le n list, one_if_le (member list n))
