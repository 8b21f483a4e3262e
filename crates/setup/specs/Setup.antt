-- What is fixed for a rehearsal: "Memory is one lent buffer of 0 to 1,048,576 bytes with a base address".
use Rattle.std.specs.Prelude.{ℕ, ◌+◌, ◌^◌, Bool, ◌&&◌, List, leb, length}
use Rattle.setup.specs.declared.Setup.{Setup}

abbrev pub at_base : ℕ → Setup
at_base base = record { base = base }

-- else number 1: "memory over its limit or past 2^32"
unfoldable pub fits : Setup → List ℕ → Bool
fits setup bytes = leb (length bytes) 1048576 && leb (setup.base + length bytes) (2 ^ 32)
