use Prim.Native.Nat.{◌-◌}
use mathlib.Core.Path.{◌≡◌, refl}
use mathlib.Core.List.{append-nil}
use native.Mathlib.Omega.{arith}
use lib.Seq.{take_all}
use lib.ListN.{drop, set, length-set, length-drop}
use Rattle.text.specs.Text.{decimal, decimal_within}
use Rattle.text.proofs.Texts.{last_digit, one_digit}
use Rattle.text.proofs.Text.say_decimal.Goals as goal

pub loop-at-init : goal.loop-at-init
unfolding decimal
loop-at-init c = (refl, append-nil (decimal_within 10 c.args.number))

pub returns-then-rest-lt10 : goal.returns-then-rest-lt10
returns-then-rest-lt10 c =
    let l = c.loop-at in
    let at = l.at - 1 in
    let put = set l.digits at c.digit_of.result in
    rw (
      c.say.ensures,
      take_all (10 - at) (drop at put) (simp (length-drop, length-set) (omega arith)),
      c.digit_of.ensures,
      ← last_digit l.rest l.digits l.at (omega arith) (omega arith) (omega arith),
      l.invariant.1,
    )

pub loop-at-preserved : goal.loop-at-preserved
loop-at-preserved c =
    let l = c.loop-at in (
      simp length-set (omega arith),
      rw (c.digit_of.ensures, ← one_digit l.rest l.digits l.at (omega arith) (omega arith) (omega arith)) l.invariant.1,
    )

pub returns : goal.returns
unfolding decimal_within
returns c =
    let l = c.loop-at in
    let none : l.at ≡ 0 = omega arith in
    let all : l.digits ≡ decimal c.args.number = rw none at l.invariant.1 in
    rw (c.say-2.ensures, all)
