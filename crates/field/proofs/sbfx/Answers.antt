use Prim.Native.Nat.{ℕ, suc, ◌-◌, ◌^◌, ◌≤◌, ◌<◌, min}
use mathlib.Core.Path.{◌≡◌, sym, ◌∙◌}
use mathlib.Core.Bool.{Bool, true, false}
use native.Mathlib.Omega.{arith}
use native.Mathlib.Nat.{mod-lt}
use lib.Dec.{leb}
use lib.Pow.{pow_pos, pow_mono}
use borrow.Author.Tests.{leb-true, leb-false}
use Rattle.word.specs.Word.{bit}
use Rattle.word.proofs.Cases.{cases, le_or_gt}
use Rattle.word.proofs.Numbers.{highest, ones_mod}
use Rattle.field.specs.Field.{SBFX, UBFX}
use Rattle.field.proofs.Laws.{filled, kept}
use Rattle.field.proofs.sbfx.Goals as goal

-- the test of the field's highest bit is one of its size
module _ (f x lsb width : ℕ) (p : 1 ≤ width) (e : f ≡ UBFX x lsb width) where
  below : f < 2 ^ width
  unfolding UBFX
  below = rw e (mod-lt _ (pow_pos width))

  tested : (t : Bool) → bit (width - 1) f ≡ t → leb (2 ^ (width - 1)) f ≡ t
  tested t q =
      let s : suc (width - 1) ≡ width = omega arith in
      sym (highest (width - 1) f (rw s below)) ∙ q

pub returns-then-width-eq0 : goal.returns-then-width-eq0
unfolding SBFX UBFX
returns-then-width-eq0 c =
    let a = c.args in
    let u = c.ubfx-field in
    let z : u.result ≡ 0 = u.ensures ∙ rw c.if-width-eq0.true (omega arith) in
    rw (← u.ensures) (kept u.result a.width (omega arith) (rw (z, c.if-width-eq0.true) (omega arith)))

pub returns-then-bit_of : goal.returns-then-bit_of
unfolding SBFX
returns-then-bit_of c =
    let a = c.args in
    let f = c.ubfx-field.result in
    let e = c.ubfx-field.ensures in
    let p : 1 ≤ a.width = omega arith in
    let set = sym c.bit_of.ensures ∙ c.if-bit_of.true in
    let large = leb-true (2 ^ (a.width - 1)) f (tested f a.x a.lsb a.width p e true set) in
    let most : a.width ≤ 32 = cases (le_or_gt a.width 32) (λ l. l) (λ l. absurd (omega (arith, pow_mono {i = 32} {j = a.width - 1} (omega arith)))) in
    let m : min a.width 32 ≡ a.width = omega arith in
    rw (
      c.ones.ensures,
      ones_mod a.width 32,
      m,
      ← e,
    ) (filled f a.width (below f a.x a.lsb a.width p e) large p most)

pub returns : goal.returns
unfolding SBFX
returns c =
    let a = c.args in
    let f = c.ubfx-field.result in
    let e = c.ubfx-field.ensures in
    let clear = sym c.bit_of.ensures ∙ c.if-bit_of.false in
    let small = leb-false (2 ^ (a.width - 1)) f (tested f a.x a.lsb a.width (omega arith) e false clear) in
    rw (← e) (kept f a.width (omega arith) small)
