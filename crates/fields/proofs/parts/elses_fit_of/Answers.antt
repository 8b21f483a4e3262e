use Prim.Native.Nat.{◌-◌, ◌*◌, ◌%◌, ◌^◌}
use mathlib.Core.Path.{◌≡◌, sym}
use native.Mathlib.Omega.{arith}
use borrow.Author.Tests.{lt-ltb}
use lib.Pow.{pow_mono}
use Rattle.fields.proofs.parts.elses_fit_of.Goals as goal

pub returns-then-count-eq0 : goal.returns-then-count-eq0
returns-then-count-eq0 c = rw c.if-count-eq0.true

pub returns-then-count-gt8 : goal.returns-then-count-gt8
returns-then-count-gt8 c =
    let a = c.args in
    sym (lt-ltb a.elses (2 ^ (a.count - 1)) (omega (arith, pow_mono {i = 8} {j = a.count - 1} (omega arith))))

pub returns : goal.returns
returns c =
    let k = c.args.count - 1 in
    let e : 1 * 2 ^ k % 2 ^ 32 ≡ 2 ^ k = omega (arith, pow_mono {i = k} {j = 31} (omega arith)) in
    rw e
