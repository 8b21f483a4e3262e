-- What the code knows of a listing that it runs: it is accepted, and this is the table of its landing places.
use Rattle.std.specs.Prelude.{ℕ, ◌≡◌, List}
use Rattle.landing.specs.Code.{Table, Tells}
use Rattle.listing.specs.Check.{checked}

abbrev pub Known : List ℕ → ℕ → Table → Type 0
Known listing base t = ((checked listing base).number ≡ 0) × Tells t listing base
