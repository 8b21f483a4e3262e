use Rattle.reverse.proofs.Swaps.{narrow, swap_bit}
use Rattle.reverse.proofs.swap.Goals as goal

pub overflow_shl-result : goal.overflow_shl-result
overflow_shl-result c = narrow c.args.width c.args.mask c.requires

pub returns : goal.returns
returns c = swap_bit c.args.width c.args.mask c.args.x c.requires

pub overflow_shr-result : goal.overflow_shr-result
overflow_shr-result c = narrow c.args.width c.args.mask c.requires
