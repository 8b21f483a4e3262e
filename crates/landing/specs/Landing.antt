-- "Landing places are addresses of records outside all blocks, and the end address." Order 1: "A filler is no landing place"
use Rattle.std.specs.Prelude.{ℕ, Bool, false, not, ◌&&◌, ◌||◌, List, [], ◌∷◌, eqb}
use Rattle.layout.specs.declared.Point.{Point}
use Rattle.layout.specs.Layout.{free, meets, layout, filled}

-- is a point outside all blocks, and without a filler?
unfoldable pub lands_here : List ℕ → Point → Bool
lands_here listing p = free p && not (filled (meets listing p))

abbrev pub lands_at : List ℕ → ℕ → Point → Bool
lands_at listing address p = eqb p.address.0 address && lands_here listing p

unfoldable pub lands : List ℕ → ℕ → List Point → Bool
lands listing address [] = false
lands listing address (p ∷ ps) = lands_at listing address p || lands listing address ps

-- is an address a landing place of a listing?
unfoldable pub landing : List ℕ → ℕ → ℕ → Bool
landing listing base address = lands listing address (layout listing base)
