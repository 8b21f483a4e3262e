use mathlib.Core.Path.{refl}
use native.Mathlib.Omega.{arith}
use lib.Bits.{bit_xor}
use Rattle.reverse.proofs.Swaps.{moved_on, reversed}
use Rattle.reverse.proofs.rbit.Goals as goal

pub returns : goal.returns
returns c =
    let pairs = c.before in
    let nibbles = pairs.before in
    let bytes = nibbles.before in
    let x = c.args.x in
    reversed x c.swap.result (omega arith)
    (moved_on 1 _ x _ _ (omega arith)
    (moved_on 2 _ x _ _ (omega arith)
    (moved_on 4 _ x _ _ (omega arith)
    (moved_on 8 (λ i. bit_xor i 16) x _ _ (omega arith) c.swap-halves.ensures c.swap-bytes.ensures)
    c.swap-nibbles.ensures)
    c.swap-pairs.ensures)
    c.swap.ensures)

pub swap-halves-requires : goal.swap-halves-requires
swap-halves-requires c = refl

pub swap-bytes-requires : goal.swap-bytes-requires
swap-bytes-requires c = refl

pub swap-nibbles-requires : goal.swap-nibbles-requires
swap-nibbles-requires c = refl

pub swap-pairs-requires : goal.swap-pairs-requires
swap-pairs-requires c = refl

pub swap-requires : goal.swap-requires
swap-requires c = refl
