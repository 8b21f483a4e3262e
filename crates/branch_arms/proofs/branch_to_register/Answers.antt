use Rattle.std.proofs.Common.{sym, ◌∙◌}
use Rattle.kinds.specs.Kinds.{listing_length}
use Rattle.lent.proofs.Laws.{long_as}
use Rattle.branch_arms.proofs.Formed.{register_is, register_below}
use Rattle.branch_arms.proofs.Laws.{register_goes, register_lost}
use Rattle.branch_arms.proofs.branch_to_register.Goals as goal

pub first-requires : goal.first-requires
unfolding listing_length
first-requires c = long_as 18 c.args.r.now c.requires

pub operand-to-requires : goal.operand-to-requires
operand-to-requires c = register_below _ _ c.requires _ c.first.ensures c.register_branch_from-d.ensures

pub returns-then-not-bit_of : goal.returns-then-not-bit_of
returns-then-not-bit_of c =
    λ f bytes setup w v. let a = c.args in
    rw (register_is _ _ c.requires _ c.first.ensures c.register_branch_from-d.ensures)
    (register_lost a.registers.now f w v a.ahead bytes setup c.register_branch_from-d.result _ c.operand-to.ensures
    (sym c.bit_of.ensures ∙ c.if-not-bit_of.true))

pub returns : goal.returns
returns c =
    λ f bytes setup w v. let a = c.args in
    rw (register_is _ _ c.requires _ c.first.ensures c.register_branch_from-d.ensures)
    (register_goes a.registers.now f w v a.ahead bytes setup c.register_branch_from-d.result _ c.operand-to.ensures
    _ c.is_blx.ensures (sym c.bit_of.ensures ∙ c.if-not-bit_of.false) _ _ c.settle_link.ensures)
