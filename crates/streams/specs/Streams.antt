-- What the programs take from their input, and what they say on standard error.
use Rattle.std.specs.Prelude.{ℕ, List, ◌++◌, take, drop, false, Option, Some, None}
use Rattle.std.specs.Fmt.{digits}
use Rattle.little.specs.Little.{number_at}
use Rattle.reading.specs.declared.Place.{Place}
use Rattle.text.specs.Text.{letters}
use Rattle.rehearsal.specs.Program.{place_of, stored_of}

-- "a listing of at most 32,768 bytes (more is number 1)": one byte over the limit tells that there are too many
abbrev pub listing_in : List ℕ → List ℕ
listing_in input = take 32769 input

-- a budget in four bytes, the lowest first; those that are missing are 0
abbrev pub budget_in : List ℕ → ℕ
budget_in input = number_at 4 (take 4 input) 0

-- and the listing behind it
abbrev pub listing_behind : List ℕ → List ℕ
listing_behind input = listing_in (drop 4 input)

-- `place 0`, `stored 9` or `stored none`, each a line
unfoldable pub places_text : ℕ → Option Place → List ℕ
places_text place (Some next) = letters "place " ++ digits 10 false place ++ letters "\nstored " ++ digits 10 false next.0 ++ letters "\n"
places_text place None = letters "place " ++ digits 10 false place ++ letters "\nstored none\n"

-- those of a rehearsal
abbrev pub places_of : ℕ → List ℕ → List ℕ
places_of budget listing = places_text (place_of budget listing) (stored_of budget listing)
