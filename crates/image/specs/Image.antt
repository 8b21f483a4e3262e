-- A machine as 74 bytes, as include/simbhoket.h says: "R0 to R15 as little-endian words, N Z C V Q a byte each (0 or 1), a count 0 to 4
-- of waiting conditions, four conditions (0 past the count)".
use Rattle.std.specs.Prelude.{ℕ, zero, suc, ◌+◌, ◌*◌, Bool, ◌&&◌, List, leb, ltb, eqb, length, set, replicate}
use Rattle.std.specs.Bool.{if◌then◌else◌}
use Rattle.word.specs.Word.{one_if}
use Rattle.little.specs.Little.{byte, number_at}
use Rattle.flags.specs.declared.Flags.{Flags}
use Rattle.waiting.specs.declared.Waiting.{Waiting}
use Rattle.waiting.specs.Waiting.{none, waiting_count}
use Rattle.setup.specs.Setup.{at_base}
use Rattle.transfer.specs.Transfer.{list_stored}
use Rattle.machine.specs.declared.Machine.{Machine}

-- the registers below n, out of their words
unfoldable pub words : ℕ → List ℕ → List ℕ
words zero image = replicate 16 0
words (suc i) image = set (words i image) i (number_at 4 image (4 * i))

unfoldable pub flags_of : List ℕ → Flags
flags_of image = record {
  n = eqb (byte image 64) 1;
  z = eqb (byte image 65) 1;
  c = eqb (byte image 66) 1;
  v = eqb (byte image 67) 1;
  q = eqb (byte image 68) 1;
}

unfoldable pub flags_fit : List ℕ → Bool
flags_fit image =
    ltb (byte image 64) 2 && ltb (byte image 65) 2 && ltb (byte image 66) 2 && ltb (byte image 67) 2 && ltb (byte image 68) 2

-- the condition at a place, none past the count
abbrev pub condition_at : List ℕ → ℕ → ℕ
condition_at image i = if ltb i (byte image 69) then byte image (70 + i) else none

unfoldable pub waiting_of : List ℕ → Waiting
waiting_of image = record {
  first = condition_at image 0;
  second = condition_at image 1;
  third = condition_at image 2;
  fourth = condition_at image 3;
}

-- a condition of a machine that may be good is 0 to 14; past the count there is 0
unfoldable pub place_fits : List ℕ → ℕ → Bool
place_fits image i = leb (byte image (70 + i)) (if ltb i (byte image 69) then 14 else 0)

unfoldable pub waiting_fits : List ℕ → Bool
waiting_fits image =
    leb (byte image 69) 4 && place_fits image 0 && place_fits image 1 && place_fits image 2 && place_fits image 3

-- are the bytes an image? If not, number 1.
unfoldable pub is_image : List ℕ → Bool
is_image image = eqb (length image) 74 && flags_fit image && waiting_fits image

unfoldable pub machine_of : List ℕ → Machine
machine_of image = record { registers = words 16 image; flags = flags_of image; waiting = waiting_of image }

-- a place of the waiting list as a byte
abbrev pub condition_byte : ℕ → ℕ
condition_byte condition = if eqb condition none then 0 else condition

-- the image with the flags put in
unfoldable pub with_flag_bytes : List ℕ → Flags → List ℕ
with_flag_bytes image f =
    set (set (set (set (set image 64 (one_if f.n)) 65 (one_if f.z)) 66 (one_if f.c)) 67 (one_if f.v)) 68 (one_if f.q)

-- the image with the waiting conditions put in
unfoldable pub with_waiting_bytes : List ℕ → Waiting → List ℕ
with_waiting_bytes image w =
    set (set (set (set (set image 69 (waiting_count w)) 70 (condition_byte w.first)) 71 (condition_byte w.second))
    72 (condition_byte w.third)) 73 (condition_byte w.fourth)

-- the image with all of a machine put in; registers as a store of all sixteen from the first byte on
unfoldable pub image_of : List ℕ → Machine → List ℕ
image_of image m =
    let first = at_base 0 in
    with_waiting_bytes (with_flag_bytes (list_stored 16 first image m.registers 0xFFFF 0) m.flags) m.waiting
