use Rattle.memory.proofs.+load_each.Given as goal

-- proposed from what the function passes where it calls itself
abbrev pub decreases-load_each : goal.decreases-load_each
decreases-load_each l = l.count
