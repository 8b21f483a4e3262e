use Rattle.std.proofs.Common.{arith}
use lib.Bits.{or_add_and, and_mask}
use Rattle.address.specs.Address.{cleared, linked}
use Rattle.word.proofs.Bits.{one_if_bit}
use Rattle.address.proofs.link.Goals as goal

pub returns : goal.returns
unfolding linked cleared
returns c =
    let x = c.args.x in
    rw (one_if_bit 0 x) (omega (arith, or_add_and x 1, and_mask x 1))
