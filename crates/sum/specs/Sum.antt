-- "Arithmetic sets all four; C after a subtraction is 1 when nothing was borrowed." The sum is the manual's AddWithCarry.
use Rattle.std.specs.Prelude.{ℕ, ◌+◌, ◌%◌, ◌^◌, Bool, not, ◌&&◌, leb, ℤ, pos, neg_ℤ, ◌+ℤ◌, ◌-ℤ◌}
use Rattle.std.specs.Int.Signed.{le_z, lt_z}
use Rattle.word.specs.Word.{one_if, signed, wrapped}
use Rattle.sum.specs.declared.Sum.{Sum}

-- does a word hold z as a signed number?
abbrev pub in_range : ℤ → Bool
in_range z = le_z (neg_ℤ (pos (2 ^ 31))) z && lt_z z (pos (2 ^ 31))

unfoldable pub add_with_carry : ℕ → ℕ → Bool → Sum
add_with_carry x y carry = record {
  value = (x + y + one_if carry) % 2 ^ 32;
  carry = leb (2 ^ 32) (x + y + one_if carry);
  overflow = not (in_range (signed x +ℤ signed y +ℤ pos (one_if carry)));
}

-- x - y, and 1 less where the carry before was 0: that was a borrow
unfoldable pub subtract_with_carry : ℕ → ℕ → Bool → Sum
subtract_with_carry x y carry = let borrow = one_if (not carry) in record {
  value = wrapped 32 (pos x -ℤ pos (y + borrow));
  carry = leb (y + borrow) x;
  overflow = not (in_range (signed x -ℤ signed y -ℤ pos borrow));
}
