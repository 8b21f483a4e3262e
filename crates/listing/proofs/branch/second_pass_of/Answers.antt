use borrow.Author.Rules.{rules}
use Rattle.listing.proofs.Branches.{table_tells}
use Rattle.listing.proofs.branch.second_pass_of.Goals as goal

pub lowest_astray-requires : goal.lowest_astray-requires
lowest_astray-requires c =
    (c.requires.1, rw c.list_all-count.ensures (table_tells _ c.args.base c.requires.0 c.requires.1 _ _ (search rules) (search rules)))
