use Rattle.text.specs.Text.{hex}
use Rattle.text.proofs.Text.say_hex.Goals as goal

pub returns : goal.returns
unfolding hex
returns c =
    let e = c.before.before in
    rw (
      c.say.ensures,
      c.digit_of-8.ensures,
      c.digit_of-7.ensures,
      c.digit_of-6.ensures,
      c.digit_of-5.ensures,
      c.digit_of-4.ensures,
      c.digit_of-3.ensures,
      c.digit_of-2.ensures,
      c.digit_of.ensures,
    )
