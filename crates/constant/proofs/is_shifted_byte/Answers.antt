use Prim.Native.Nat.{◌-◌, ◌^◌}
use mathlib.Core.Path.{◌≡◌, sym, ◌∙◌}
use native.Mathlib.Omega.{arith}
use native.Mathlib.Nat.{mod-eq_of_lt}
use lib.Pow.{pow_mono, pow_pos}
use lib.Bits.{and_mask}
use lib.Count.{leading_le}
use Rattle.constant.proofs.Laws.{shifted_byte_of_word}
use Rattle.constant.proofs.is_shifted_byte.Goals as goal

pub overflow_sub-length : goal.overflow_sub-length
overflow_sub-length c = leading_le 32 c.args.x

pub returns : goal.returns
returns c =
    let x = c.args.x in
    let k = c.saturating_sub.result in
    let mask : c.ones.result ≡ 2 ^ k - 1 =
    c.ones.ensures ∙ mod-eq_of_lt (omega (arith, pow_pos k, pow_mono {i = k} {j = 24} (omega arith))) in
    rw (mask, and_mask x k, c.saturating_sub.ensures) (sym (shifted_byte_of_word x (omega arith)))
