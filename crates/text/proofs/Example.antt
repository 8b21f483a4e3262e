-- The text of 01's own examples is what the definitions give.
use mathlib.Core.Path.{◌≡◌, refl}
use mathlib.Core.List.{[], ◌∷◌, ◌++◌}
use lib.ListN.{replicate}
use Rattle.flags.specs.Flags.{clear}
use Rattle.text.specs.Text.{
  letters,
  decimal_within,
  decimal,
  hex,
  check_text,
  end_line,
  register_line,
  register_lines,
  flags_line,
  end_text,
}

pub refused : check_text 2 17 ≡ letters "check 2 at 17\n"
unfolding check_text decimal decimal_within
refused = refl

pub one_step : end_text 0 1 (5 ∷ replicate 12 0 ++ (0x20008000 ∷ 0 ∷ 0x1002 ∷ [])) clear
    ≡ letters "end 0 steps 1\nR0 00000005\nR1 00000000\nR2 00000000\nR3 00000000\nR4 00000000\nR5 00000000\n"
    ++ letters "R6 00000000\nR7 00000000\nR8 00000000\nR9 00000000\nR10 00000000\nR11 00000000\nR12 00000000\n"
    ++ letters "R13 20008000\nR14 00000000\nR15 00001002\nNZCVQ 00000\n"
unfolding end_text end_line register_lines register_line flags_line hex decimal decimal_within
one_step = refl
