use Rattle.std.proofs.Common.{sym, to_z-of_z}
use Rattle.word.proofs.Integers.{wrapped_add, wrapped_bits}
use Rattle.address.specs.Address.{moved}
use Rattle.address.proofs.offset_by.Goals as goal

pub returns : goal.returns
unfolding moved
returns c =
    let a = c.args in
    let f = c.ranges.offset in
    rw (c.wrapping_add_signed.ensures, to_z-of_z f, wrapped_bits a.offset f) (sym (wrapped_add 32 a.x a.offset))
