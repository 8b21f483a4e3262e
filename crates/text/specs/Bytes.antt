-- For the code alone: the bytes that hold a text.
use Rattle.std.specs.Prelude.{ℕ, ◌-◌, ◌≤◌, ◌≡◌, List, ◌++◌, length, drop, replicate}

-- so many of 256 bytes are a text, and those behind it are 0
pub record IsText (count : ℕ) (bytes : List ℕ) : Type 0 where
  pub all : length bytes ≡ 256
  pub within : count ≤ 256
  pub behind : drop count bytes ≡ replicate (256 - count) 0

abbrev pub bytes_of : List ℕ → List ℕ
bytes_of text = text ++ replicate (256 - length text) 0
