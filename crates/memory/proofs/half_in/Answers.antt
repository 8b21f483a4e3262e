use Rattle.std.proofs.Common.{◌≡◌, ◌+◌, ◌*◌, ◌%◌, ◌^◌, sym, ap, ◌∙◌, arith}
use lib.Bits.{bit_or}
use Rattle.little.specs.Little.{byte}
use Rattle.little.proofs.Laws.{joined_at, one_byte}
use Rattle.memory.proofs.half_in.Goals as goal

pub overflow_cast-result : goal.overflow_cast-result
overflow_cast-result c = omega (arith, c.shared_slice_known-1.given (c.args.at + 1))

pub overflow_cast-result-2 : goal.overflow_cast-result-2
overflow_cast-result-2 c = omega (arith, c.shared_slice_known-2-1.given c.args.at)

pub returns : goal.returns
returns c =
    let a = c.args in
    let bytes = a.memory.now in
    let high = byte bytes (a.at + 1) in
    let l = c.shared_slice_known-2-1.given a.at in
    let h = c.shared_slice_known-2-1.given (a.at + 1) in
    let e : high * 2 ^ 8 % 2 ^ 16 ≡ high * 2 ^ 8 = omega (arith, h) in
    ap (λ x. bit_or x (byte bytes a.at)) e
    ∙ joined_at 1 bytes a.at (byte bytes a.at) high (sym (one_byte bytes a.at)) (sym (one_byte bytes (a.at + 1))) (omega (arith, l))
