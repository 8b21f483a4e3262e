use Rattle.interface.specs.Interface.{with_answer}
use Rattle.interface.proofs.Laws.{stored_low}
use Rattle.interface.proofs.tell.Goals as goal

pub returns : goal.returns
unfolding with_answer
returns c =
    rw (
      c.store_word-3.ensures,
      c.store_word-2.ensures,
      c.store_word.ensures,
      c.new-first.ensures,
      stored_low _ _ 4 c.args.place,
    )
