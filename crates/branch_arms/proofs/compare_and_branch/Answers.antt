use Rattle.std.proofs.Common.{sym, ◌∙◌}
use Rattle.kinds.specs.Kinds.{listing_length}
use Rattle.lent.proofs.Laws.{long_as}
use Rattle.branch_arms.proofs.Formed.{compare_is, compare_below}
use Rattle.branch_arms.proofs.Laws.{compare_goes, compare_stays}
use Rattle.branch_arms.proofs.compare_and_branch.Goals as goal

pub first-requires : goal.first-requires
unfolding listing_length
first-requires c = long_as 19 c.args.r.now c.requires

pub read-requires : goal.read-requires
read-requires c = compare_below _ _ c.requires _ c.first.ensures c.compare_branch_from-d.ensures

pub returns-then-branches_of : goal.returns-then-branches_of
returns-then-branches_of c =
    λ f bytes setup w v. let a = c.args in
    rw (compare_is _ _ c.requires _ c.first.ensures c.compare_branch_from-d.ensures)
    (compare_goes a.registers.now f w v a.ahead bytes setup c.compare_branch_from-d.result _
    (sym (rw c.read.ensures at c.branches_of.ensures) ∙ c.if-branches_of.true)
    (rw (c.put.ensures, c.from.ensures, c.read-near.ensures)))

pub returns : goal.returns
returns c =
    λ f bytes setup w v. let a = c.args in
    rw (compare_is _ _ c.requires _ c.first.ensures c.compare_branch_from-d.ensures)
    (compare_stays a.registers.now f w v a.ahead bytes setup c.compare_branch_from-d.result _
    (sym (rw c.read.ensures at c.branches_of.ensures) ∙ c.if-branches_of.false)
    c.put-2.ensures)
