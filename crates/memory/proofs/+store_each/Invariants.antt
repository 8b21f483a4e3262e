use Rattle.memory.proofs.+store_each.Given as goal

-- proposed from what the function passes where it calls itself
abbrev pub decreases-store_each : goal.decreases-store_each
decreases-store_each l = l.count
