use Rattle.std.proofs.Common.{arith}
use Rattle.product.specs.Product.{MUL, MLS}
use Rattle.word.proofs.Integers.{wrapped_subtract}
use Rattle.product.proofs.mls.Goals as goal

pub returns : goal.returns
unfolding MUL MLS
returns c = rw wrapped_subtract (omega arith)
