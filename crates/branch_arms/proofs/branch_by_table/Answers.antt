use Rattle.kinds.specs.Kinds.{listing_length}
use Rattle.lent.proofs.Laws.{long_as}
use Rattle.branch_arms.proofs.Formed.{table_is, table_below}
use Rattle.branch_arms.proofs.Laws.{table_goes, table_stays}
use Rattle.branch_arms.proofs.branch_by_table.Goals as goal

pub first-requires : goal.first-requires
unfolding listing_length
first-requires c = long_as 22 c.args.r.now c.requires

pub operand-table-requires : goal.operand-table-requires
operand-table-requires c = (table_below _ _ c.requires _ c.first.ensures c.table_branch_from-d.ensures).0

pub read-index-requires : goal.read-index-requires
read-index-requires c = (table_below _ _ c.requires _ c.first.ensures c.table_branch_from-d.ensures).1

pub returns-in_err-refusal_of : goal.returns-in_err-refusal_of
returns-in_err-refusal_of c =
    λ f w v. let a = c.args in
    let at = rw (c.read-index.ensures, c.operand-table.ensures) at c.entry_address_of-at.ensures in
    rw (table_is _ _ c.requires _ c.first.ensures c.table_branch_from-d.ensures)
    (table_stays a.registers.now f w v a.ahead a.memory.now a.setup c.table_branch_from-d.result _
    (rw (at, c.entry_width_of-width.ensures) at c.refusal_of.ensures)
    _ c.in_err-refusal_of.was _ c.from_residual.ensures.1)

pub returns : goal.returns
returns c =
    λ f w v. let a = c.args in
    let at = rw (c.read-index.ensures, c.operand-table.ensures) at c.entry_address_of-at.ensures in
    rw (table_is _ _ c.requires _ c.first.ensures c.table_branch_from-d.ensures)
    (table_goes a.registers.now f w v a.ahead a.memory.now a.setup c.table_branch_from-d.result _
    (rw (at, c.entry_width_of-width.ensures) at c.refusal_of.ensures)
    _ c.in_ok-refusal_of.was _
    (rw (c.put.ensures, c.table_target_of.ensures, c.read-from.ensures, c.load_entry-entry.ensures, at)))
