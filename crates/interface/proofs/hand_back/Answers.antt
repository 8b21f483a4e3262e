use Rattle.interface.specs.Interface.{place_number, with_place}
use Rattle.interface.proofs.Laws.{stored_low}
use Rattle.interface.proofs.hand_back.Goals as goal

pub returns : goal.returns
unfolding with_place
returns c = (
  c.number-number.ensures,
  c.write.ensures,
  rw (
    c.store_word.ensures,
    c.place_number_of.ensures,
    c.new.ensures,
    c.tell.ensures,
    c.number-number.ensures,
    c.place.ensures,
    stored_low _ _ 12 (place_number c.args.halted.running.stored),
  ),
)
