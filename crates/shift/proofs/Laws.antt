-- Rotations of a word, and shifts of a signed number.
use Prim.Native.Nat.{ℕ, zero, suc, ◌+◌, ◌-◌, ◌*◌, ◌/◌, ◌%◌, ◌^◌, ◌≤◌, ◌<◌}
use mathlib.Core.Path.{◌≡◌, ap}
use native.Mathlib.Omega.{arith}
use native.Mathlib.Nat.{div-one, lt_of_le_of_lt}
use lib.Bits.{bit_and, bit_or, and_mask, or_shifted, or_self}
use Rattle.std.proofs.lemmas.Nat.{or_comm}
use lib.IntN.{ℤ, pos, negsuc}
use lib.Pow.{shr_lt}
use lib.Signed.{shr_z, mag, mag_shr}
use mir.Syntax.{w32}
use mir.Val.{SFits, to_z, of_z}
use mir.Facts.{to_z-of_z}
use Rattle.word.specs.Word.{signed, wrapped}
use Rattle.word.proofs.Numbers.{shift_mod, none_above}
use Rattle.shift.specs.Shift.{rotated}

-- what comes in at the top, below 2 ^ 32
pub turned_in : (x m : ℕ) → m ≤ 32 → bit_and (x * 2 ^ (32 - m) % 2 ^ 64) (2 ^ 32 - 1) ≡ x % 2 ^ m * 2 ^ (32 - m)
turned_in x m l =
    let y = x * 2 ^ (32 - m) in
    let e : m + (32 - m) ≡ 32 = omega arith in
    let f : y % 2 ^ 64 % 2 ^ 32 ≡ y % 2 ^ 32 = omega arith in
    rw (and_mask (y % 2 ^ 64) 32, f) (rw e at (shift_mod x m (32 - m)))

pub turned : (x m : ℕ) → x < 2 ^ 32 → m ≤ 32 → bit_or (bit_and (x * 2 ^ (32 - m) % 2 ^ 64) (2 ^ 32 - 1)) (x / 2 ^ m) ≡ rotated x m
unfolding rotated
turned x m h l =
    let e : (32 - m) + m ≡ 32 = omega arith in
    rw (turned_in x m l, or_shifted (x % 2 ^ m) (32 - m) (x / 2 ^ m) (shr_lt (32 - m) m (rw e h))) (omega arith)

-- the same of a word of 32 bits: what comes in at the top is clear below, where the rest stands
pub turned_round : (x m : ℕ) → x < 2 ^ 32 → m < 32 → bit_or (x / 2 ^ m) (x * 2 ^ ((32 - m) % 32) % 2 ^ 32) ≡ rotated x m
unfolding rotated
turned_round x zero h l =
    let low : x / 2 ^ 0 ≡ x = omega arith in
    let high : x * 2 ^ 0 % 2 ^ 32 ≡ x = omega arith in
    rw (low, high, or_self x) (omega arith)
turned_round x (suc k) h l =
    let m = suc k in
    let n = 32 - m in
    let e : n % 32 ≡ n = omega arith in
    let f : m + n ≡ 32 = omega arith in
    let g : n + m ≡ 32 = omega arith in
    let high : x * 2 ^ n % 2 ^ 32 ≡ x % 2 ^ m * 2 ^ n = rw f at (shift_mod x m n) in
    rw (e, high, or_comm (x / 2 ^ m) (x % 2 ^ m * 2 ^ n), or_shifted (x % 2 ^ m) n (x / 2 ^ m) (shr_lt n m (rw g h))) (omega arith)

-- from 31 on a signed word is shifted to its sign
pub all_sign : (z : ℤ) (n : ℕ) → mag z < 2 ^ 31 → 31 ≤ n → shr_z z (2 ^ 31) ≡ shr_z z (2 ^ n)
all_sign (pos a) n f l = rw (none_above {x = a} n 31 f l, none_above {x = a} 31 31 f (omega arith))
all_sign (negsuc a) n f l = rw (none_above {x = a} n 31 f l, none_above {x = a} 31 31 f (omega arith))

pub shift_none : (z : ℤ) → shr_z z 1 ≡ z
shift_none (pos a) = ap pos (div-one a)
shift_none (negsuc a) = ap negsuc (div-one a)

-- what the shift of an i32 leaves, through the bits of the two locals
pub shifted_signed : (x r n : ℕ) (z : ℤ) → SFits w32 z → z ≡ signed x
    → r ≡ wrapped 32 (to_z w32 (of_z w32 (shr_z (to_z w32 (of_z w32 z)) (2 ^ n)))) → r ≡ wrapped 32 (shr_z (signed x) (2 ^ n))
shifted_signed x r n z f e t =
    let g : SFits w32 (shr_z z (2 ^ n)) = record { sfits = lt_of_le_of_lt (mag_shr z (2 ^ n)) f.sfits } in
    rw (to_z-of_z f, to_z-of_z g, e) at t
