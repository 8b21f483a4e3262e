-- A word in lent bytes; and a run of a running machine in C.
use Prim.Native.Nat.{ℕ, ◌/◌, ◌%◌, ◌^◌}
use mathlib.Core.Bool.{true, ◌&&◌}
use mathlib.Core.List.{List}
use mathlib.Core.Path.{◌≡◌}
use native.Mathlib.Omega.{arith}
use lib.Dec.{eqb}
use lib.ListN.{length}
use Rattle.setup.specs.declared.Setup.{Setup}
use Rattle.memory.specs.Memory.{stored}
use Rattle.image.specs.Image.{is_image, machine_of}
use Rattle.run.specs.Run.{Rehearsal, state}
use Rattle.run.specs.Place.{fresh_run, resumed, Halting, halt}
use Rattle.interface.specs.Interface.{numbered_place, halt_leaving, image_begun, image_resumed}

low_0 : (v : ℕ) → v % 2 ^ 32 / 2 ^ 0 % 2 ^ 8 ≡ v / 2 ^ 0 % 2 ^ 8
low_0 v = omega arith

low_1 : (v : ℕ) → v % 2 ^ 32 / 2 ^ 8 % 2 ^ 8 ≡ v / 2 ^ 8 % 2 ^ 8
low_1 v = omega arith

low_2 : (v : ℕ) → v % 2 ^ 32 / 2 ^ 16 % 2 ^ 8 ≡ v / 2 ^ 16 % 2 ^ 8
low_2 v = omega arith

low_3 : (v : ℕ) → v % 2 ^ 32 / 2 ^ 24 % 2 ^ 8 ≡ v / 2 ^ 24 % 2 ^ 8
low_3 v = omega arith

-- the bytes of a word are those of its lowest 32 bits
pub stored_low : (setup : Setup) (bytes : List ℕ) (a v : ℕ) → stored 4 setup bytes a (v % 2 ^ 32) ≡ stored 4 setup bytes a v
unfolding stored
stored_low setup bytes a v = rw (low_0 v, low_1 v, low_2 v, low_3 v)

module _ (budget : ℕ) (h : Rehearsal) (image bytes answer : List ℕ) (known : (is_image image && eqb (length answer) 16) ≡ true) (x : Halting) where
  pub begun : x ≡ halt (fresh_run budget h (state (machine_of image) bytes)) → halt_leaving image answer x ≡ image_begun budget h image bytes answer
  unfolding image_begun
  begun e = rw (known, e)

  pub gone_on : (place : ℕ) → x ≡ halt (resumed budget h (state (machine_of image) bytes) (numbered_place place))
      → halt_leaving image answer x ≡ image_resumed budget h image bytes place answer
  unfolding image_resumed
  gone_on place e = rw (known, e)
