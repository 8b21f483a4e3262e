-- For the code alone: a text while it is written.
use Rattle.std.specs.Prelude.{ℕ, ◌-◌, List, ◌++◌, length, take}

-- words behind a text, as many as fit in 256 bytes
unfoldable pub appended : List ℕ → List ℕ → List ℕ
appended text words = text ++ take (256 - length text) words
