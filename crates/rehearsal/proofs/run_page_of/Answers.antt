use Rattle.run.specs.Ended.{as_halted}
use Rattle.rehearsal.specs.Program.{run_text}
use Rattle.rehearsal.proofs.Room.{ran_is}
use Rattle.rehearsal.proofs.run_page_of.Goals as goal

pub returns : goal.returns
unfolding run_text
returns c =
    let a = c.args in
    let is = ran_is (as_halted c.begin-halted.result) c.start_of.result a.budget a.listing.now c.begin-halted.new.memory c.start_of.ensures (rw c.new-setup.ensures at c.begin-halted.ensures) in
    rw (← is, c.end_text_of.ensures, c.number.ensures, c.place.ensures)
