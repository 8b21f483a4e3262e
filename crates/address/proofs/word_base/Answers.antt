use Rattle.std.proofs.Common.{arith}
use Rattle.address.proofs.Laws.{all_but_bit}
use Rattle.address.proofs.word_base.Goals as goal

pub returns : goal.returns
returns c = all_but_bit 1 c.args.x (omega arith) (omega arith)
