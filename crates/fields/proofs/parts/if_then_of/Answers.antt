use Rattle.fields.proofs.parts.if_then_of.Goals as goal

pub returns : goal.returns
returns c =
    simp c.elses_fit_of.ensures
