-- Registers out of an image, one after the other, and the count of waiting conditions.
use Prim.Native.Nat.{ℕ, suc, ◌+◌, ◌*◌, ◌≤◌}
use mathlib.Core.Bool.{Bool, true, false}
use mathlib.Core.Path.{◌≡◌}
use mathlib.Core.List.{List}
use native.Mathlib.Omega.{arith}
use lib.ListN.{set}
use Rattle.little.specs.Little.{number_at}
use Rattle.std.specs.Bool.{if◌then◌else◌}
use Rattle.waiting.specs.declared.Waiting.{Waiting}
use Rattle.waiting.specs.Waiting.{none, waiting_count}
use lib.Dec.{eqb}
use Rattle.image.specs.Image.{words}

pub words_next : (i : ℕ) (image : List ℕ) → set (words i image) i (number_at 4 image (4 * i)) ≡ words (i + 1) image
unfolding words
words_next i image = let s : i + 1 ≡ suc i = omega arith in rw s

one_of_five : (a b c d : Bool) → (if a then 0 else (if b then 1 else (if c then 2 else (if d then 3 else 4)))) ≤ 4
one_of_five true b c d = omega arith
one_of_five false true c d = omega arith
one_of_five false false true d = omega arith
one_of_five false false false true = omega arith
one_of_five false false false false = omega arith

pub count_le : (w : Waiting) → waiting_count w ≤ 4
unfolding waiting_count
count_le w = one_of_five (eqb w.first none) (eqb w.second none) (eqb w.third none) (eqb w.fourth none)
