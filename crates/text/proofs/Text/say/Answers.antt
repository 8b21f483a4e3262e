use mathlib.Core.Path.{refl, ◌∙◌}
use Prim.Native.Nat.{◌-◌}
use native.Mathlib.Omega.{arith}
use Rattle.std.proofs.lemmas.List.{length-take-le}
use Rattle.text.specs.Code.{appended}
use Rattle.text.proofs.Bytes.{sized, cut, shown, longer}
use Rattle.text.proofs.Text.say.Goals as goal

pub invariant_of-self : goal.invariant_of-self
invariant_of-self c =
    let i = c.self.inside in
    let m = c.min-more in
    rw c.copy_from_slice.ensures.after
    (longer i.count m.result i.bytes _ c.self.invariant (omega (arith, m.ensures, c.self.invariant.within)) (sized c.args.words.now _ m.result m.ensures))

pub returns : goal.returns
unfolding appended
returns c =
    let i = c.self.inside in
    let m = c.min-more in
    rw (← c.self.view_is, length-take-le i.count i.bytes (omega (arith, c.self.invariant.all, c.self.invariant.within)), c.copy_from_slice.ensures.after)
    (shown i.count m.result i.bytes _ c.self.invariant (omega (arith, m.ensures, c.self.invariant.within)) (sized c.args.words.now _ m.result m.ensures)
    ∙ rw (m.ensures, cut c.args.words.now (256 - i.count)) refl)
