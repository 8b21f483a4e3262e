use mathlib.Core.Path.{◌≡◌, ap, ◌∙◌}
use native.Mathlib.Omega.{arith}
use lib.Signed.{nat_abs-le, quot_z}
use mir.Val.{to_z, of_z}
use Rattle.std.specs.Int.{int_wrapping_div}
use mir.Syntax.{w32}
use mir.Facts.{to_z-of_z}
use borrow.Author.Tests.{eq-eqb, ne_eqb}
use Rattle.word.specs.Word.{signed, wrapped}
use Rattle.quotient.specs.Quotient.{SDIV}
use Rattle.word.proofs.Integers.{bits_of_signed}
use Rattle.quotient.proofs.Laws.{quotient_bits}
use Rattle.quotient.proofs.sdiv.Goals as goal
use Rattle.quotient.proofs.sdiv.Goals.{After-signed_of, After-signed_of-2}

pub returns-then-y-eq0 : goal.returns-then-y-eq0
unfolding SDIV
returns-then-y-eq0 c = rw (eq-eqb c.args.y 0 c.if-y-eq0.true)

first : (c : After-signed_of) → to_z w32 (of_z w32 c.signed_of.result) ≡ signed c.args.x
first c = to_z-of_z {w = w32} (record { sfits = c.signed_of.type_inv }) ∙ c.signed_of.ensures

second : (c : After-signed_of-2) → to_z w32 (of_z w32 c.signed_of-2.result) ≡ signed c.args.y
second c = to_z-of_z {w = w32} (record { sfits = c.signed_of-2.type_inv }) ∙ c.signed_of-2.ensures

pub wrapping_div-requires : goal.wrapping_div-requires
wrapping_div-requires c = rw (second c, bits_of_signed c.args.y (omega arith)) (omega (arith, c.if-y-eq0.false))

pub returns : goal.returns
unfolding SDIV
returns c =
    let a = c.args in
    let d = c.before.before in
    let small = rw c.signed_of.ensures at (nat_abs-le c.signed_of.result c.signed_of.type_inv) in
    let bits : wrapped 32 (int_wrapping_div w32 (to_z w32 (of_z w32 c.signed_of.result)) (to_z w32 (of_z w32 c.signed_of-2.result))) ≡ wrapped 32 (quot_z (signed a.x) (signed a.y)) =
    rw (first d.before, second d) (quotient_bits (signed a.x) (signed a.y) small) in
    rw (ne_eqb a.y 0 c.if-y-eq0.false)
    (c.unsigned_of.ensures ∙ ap (wrapped 32) (to_z-of_z {w = w32} (record { sfits = c.wrapping_div.type_inv }) ∙ c.wrapping_div.ensures) ∙ bits)
