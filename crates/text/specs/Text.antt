-- The text that the program writes, character by character: "it writes one line, as `check 2 at 17`, and no more .. Any other
-- end is written as below, hex in upper case. For bytes `02 0A 01 00 00 05 00 00 00` it writes `end 0 steps 1`, then
-- `R0 00000005`, `R1 00000000` and so on to `R12 00000000`, `R13 20008000`, `R14 00000000`, `R15 00001002`, `NZCVQ 00000`,
-- each a line."
use Rattle.std.specs.Prelude.{ℕ, zero, suc, ◌/◌, ◌%◌, ◌^◌, Bool, List, [], ◌∷◌, ◌++◌, ltb, get_or}
use Prim.Native.Char.{code}
use Prim.Native.String.{String, [] as none, ◌∷◌ as ◌then◌}
use Rattle.std.specs.Bool.{if◌then◌else◌}
use Rattle.word.specs.Word.{one_if}
use Rattle.flags.specs.declared.Flags.{Flags}

-- the codes of a text's characters
abbrev pub letters : String → List ℕ
letters none = []
letters (c then text) = code c ∷ letters text

-- 0 to 15 as a digit
abbrev pub digit : ℕ → ℕ
digit d = get_or (letters "0123456789ABCDEF") d 0

-- a number in decimal, with so many digits at most: below 10 its digit, else the digits of n / 10 and a last one
unfoldable pub decimal_within : ℕ → ℕ → List ℕ
decimal_within zero n = []
decimal_within (suc most) n =
    if ltb n 10 then digit n ∷ [] else decimal_within most (n / 10) ++ (digit (n % 10) ∷ [])

-- ten digits are enough: every number that is written is below 2 ^ 32
unfoldable pub decimal : ℕ → List ℕ
decimal n = decimal_within 10 n

-- a word as eight digits
unfoldable pub hex : ℕ → List ℕ
hex w =
    digit (w / 16 ^ 7 % 16) ∷ digit (w / 16 ^ 6 % 16) ∷ digit (w / 16 ^ 5 % 16) ∷ digit (w / 16 ^ 4 % 16)
    ∷ digit (w / 16 ^ 3 % 16) ∷ digit (w / 16 ^ 2 % 16) ∷ digit (w / 16 % 16) ∷ digit (w % 16) ∷ []

-- `check 2 at 17`
unfoldable pub check_text : ℕ → ℕ → List ℕ
check_text number place = letters "check " ++ decimal number ++ letters " at " ++ decimal place ++ letters "\n"

-- `end 0 steps 1`
unfoldable pub end_line : ℕ → ℕ → List ℕ
end_line number count = letters "end " ++ decimal number ++ letters " steps " ++ decimal count ++ letters "\n"

-- `R0 00000005`
unfoldable pub register_line : ℕ → ℕ → List ℕ
register_line register value = letters "R" ++ decimal register ++ letters " " ++ hex value ++ letters "\n"

-- the lines of the first registers, so many
unfoldable pub register_lines : ℕ → List ℕ → List ℕ
register_lines zero registers = []
register_lines (suc i) registers = register_lines i registers ++ register_line i (get_or registers i 0)

abbrev pub bit_digit : Bool → ℕ
bit_digit flag = digit (one_if flag)

-- `NZCVQ 00000`
unfoldable pub flags_line : Flags → List ℕ
flags_line f =
    letters "NZCVQ "
    ++ (bit_digit f.n ∷ bit_digit f.z ∷ bit_digit f.c ∷ bit_digit f.v ∷ bit_digit f.q ∷ [])
    ++ letters "\n"

unfoldable pub end_text : ℕ → ℕ → List ℕ → Flags → List ℕ
end_text number count registers flags = end_line number count ++ register_lines 16 registers ++ flags_line flags
