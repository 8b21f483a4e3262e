-- Bit fields by their lowest bit and their width, and numbers of 8 or 16 bits made words.
use Rattle.std.specs.Prelude.{ℕ, ◌+◌, ◌-◌, ◌/◌, ◌%◌, ◌^◌, ◌&&◌, leb, ltb}
use Rattle.std.specs.Bool.{if◌then◌else◌}
use Rattle.word.specs.Word.{bit, from_bits, signed_in, wrapped}
use Rattle.shift.specs.Shift.{rotated}

unfoldable pub UBFX : ℕ → ℕ → ℕ → ℕ
UBFX x lsb width = x / 2 ^ lsb % 2 ^ width

unfoldable pub SBFX : ℕ → ℕ → ℕ → ℕ
SBFX x lsb width = wrapped 32 (signed_in width (UBFX x lsb width))

-- bit i is that of x within the field, where lsb is bit 0 of x, and stays that of d outside
unfoldable pub BFI : ℕ → ℕ → ℕ → ℕ → ℕ
BFI d x lsb width = from_bits 32 (λ i. if leb lsb i && ltb i (lsb + width) then bit (i - lsb) x else bit i d)

abbrev pub BFC : ℕ → ℕ → ℕ → ℕ
BFC d lsb width = BFI d 0 lsb width

-- the low bits of x, first turned right by the rotation
abbrev pub SXTB : ℕ → ℕ → ℕ
SXTB x rotation = SBFX (rotated x (rotation % 32)) 0 8

abbrev pub SXTH : ℕ → ℕ → ℕ
SXTH x rotation = SBFX (rotated x (rotation % 32)) 0 16

abbrev pub UXTB : ℕ → ℕ → ℕ
UXTB x rotation = UBFX (rotated x (rotation % 32)) 0 8

abbrev pub UXTH : ℕ → ℕ → ℕ
UXTH x rotation = UBFX (rotated x (rotation % 32)) 0 16
