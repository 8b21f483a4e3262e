use Rattle.std.proofs.Common.{ap, arith}
use Rattle.word.proofs.Integers.{wrapped_add}
use Rattle.product.specs.Product.{SMLAL, halves}
use Rattle.product.proofs.smlal.Goals as goal

pub returns : goal.returns
unfolding SMLAL
returns c = rw (c.halves_of.ensures, wrapped_add) (ap halves (omega arith))
