-- Memory: "one lent buffer .. with a base address, little-endian".
use Rattle.std.specs.Prelude.{ℕ, zero, suc, ◌+◌, ◌-◌, ◌*◌, ◌/◌, ◌%◌, ◌^◌, Bool, true, ◌&&◌, List, length, nat_le, nat_lt, slice_set}
use Rattle.std.specs.Bool.{if◌then◌else◌}
use Rattle.little.specs.Little.{byte, little}
use Rattle.setup.specs.declared.Setup.{Setup}

-- the address of the byte i further: "Address sums in a step .. are taken modulo 2^32"
abbrev pub further : ℕ → ℕ → ℕ
further address i = (address + i) % 2 ^ 32

-- is the byte at an address in a memory of so many bytes? Its end is not taken modulo 2^32.
abbrev pub holds : Setup → ℕ → ℕ → Bool
holds setup size address = nat_le setup.base address && nat_lt address (setup.base + size)

-- are the `count` bytes from an address on in memory? If not, "some accessed byte is not in memory".
unfoldable pub inside : ℕ → Setup → ℕ → ℕ → Bool
inside zero setup size address = true
inside (suc i) setup size address = inside i setup size address && holds setup size (further address i)

-- the byte at an address; 0 where memory has none
unfoldable pub byte_at : Setup → List ℕ → ℕ → ℕ
byte_at setup bytes address = if holds setup (length bytes) address then byte bytes (address - setup.base) else 0

-- the number in `count` bytes from an address on
unfoldable pub loaded : ℕ → Setup → List ℕ → ℕ → ℕ
loaded count setup bytes address = little count (λ i. byte_at setup bytes (further address i))

-- memory with a byte at an address; as it was where memory has none
unfoldable pub put_byte : Setup → List ℕ → ℕ → ℕ → List ℕ
put_byte setup bytes address x = if holds setup (length bytes) address then slice_set bytes (address - setup.base) x else bytes

-- memory with the `count` lowest bytes of a number from an address on, the lowest first
unfoldable pub stored : ℕ → Setup → List ℕ → ℕ → ℕ → List ℕ
stored zero setup bytes address number = bytes
stored (suc i) setup bytes address number =
    put_byte setup (stored i setup bytes address number) (further address i) (number / 2 ^ (8 * i) % 2 ^ 8)
