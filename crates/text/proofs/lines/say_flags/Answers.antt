use Rattle.text.specs.Text.{flags_line}
use Rattle.text.proofs.Texts.{added_append}
use Rattle.text.proofs.lines.say_flags.Goals as goal

pub returns : goal.returns
unfolding flags_line
returns c =
    rw (
      c.say-3.ensures,
      c.say-2.ensures,
      c.say.ensures,
      c.bit_of-5.ensures,
      c.bit_of-4.ensures,
      c.bit_of-3.ensures,
      c.bit_of-2.ensures,
      c.bit_of.ensures,
    ) (simp added_append)
