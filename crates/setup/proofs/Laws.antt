-- Whether memory fits is a matter of its length.
use Prim.Native.Nat.{ℕ}
use mathlib.Core.Bool.{true}
use mathlib.Core.List.{List}
use mathlib.Core.Path.{◌≡◌}
use lib.ListN.{length}
use Rattle.setup.specs.declared.Setup.{Setup}
use Rattle.setup.specs.Setup.{fits}

pub fits_as_long : (setup : Setup) (a b : List ℕ) → length b ≡ length a → fits setup a ≡ true → fits setup b ≡ true
unfolding fits
fits_as_long setup a b e f = rw e f
