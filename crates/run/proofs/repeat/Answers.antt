use Prim.Native.Nat.{ℕ}
use mathlib.Core.Path.{ap, ◌∙◌}
use borrow.Author.Rules.{rules}
use lib.ListN.{length}
use Rattle.refusal.specs.Refusal.{number}
use Rattle.machine.specs.Machine.{PC, held}
use Rattle.run.specs.declared.Sight.{Sight}
use Rattle.run.specs.declared.seat.Seat.{Seat}
use Rattle.run.specs.Run.{State, rehearsal, faced, over}
use Rattle.run.specs.Ended.{end_number}
use Rattle.run.specs.Code.{facing, used_up_at, spot, parts_of, counted}
use Rattle.run.proofs.Rounds.{facing_there, sight_used, counted_none, ended_so}
use Rattle.run.proofs.repeat.Goals as goal
use Rattle.run.proofs.repeat.Goals.{After-halt, After-halt-in-None, After-race-raced}

pub race-raced-requires : goal.race-raced-requires
unfolding faced held
race-raced-requires c =
    let a = c.args in
    let size = length a.chart.now.listing.now in
    let seen = c.face.ensures ∙ (ap (λ (x : Seat). facing x a.machine.waiting size) c.requires.0 ∙ facing_there a.chart.now.listing.now a.chart.now.base (held a.machine PC) a.machine.waiting) in
    record {
      fit = record { machine_good = c.requires.1; sixteen = search rules; memory_fits = c.requires.2 };
      at = c.spot_of-place.ensures ∙ ap (λ (t : Sight). spot t size) seen;
    }

-- where the rounds stopped
abbrev stopped : (c : After-race-raced) → State
stopped c = parts_of c.race-raced.new.registers c.race-raced.new.flags c.race-raced.result.waiting c.race-raced.new.memory

-- where the rounds stopped
abbrev stopped_2 : (c : After-halt) → State
stopped_2 c = parts_of c.race-raced.new.registers c.race-raced.new.flags c.race-raced.result.waiting c.race-raced.new.memory

pub returns-in-Some : goal.returns-in-Some
unfolding held
returns-in-Some c =
    let a = c.args in
    let h = rehearsal a.chart.now.listing.now a.chart.now.base a.setup in
    let t = c.race-raced.result in
    rw c.halt.ensures
    (ended_so h t.count (number c.in-Some.refusal) t.place (stopped_2 c) c.find-at.result c.find-at.ensures
    ∙ ((rw c.in-Some.is at c.race-raced.ensures) ∙ counted_none h _))

-- where the rounds stopped
abbrev stopped_3 : (c : After-halt-in-None) → State
stopped_3 c = parts_of c.race-raced.new.registers c.race-raced.new.flags c.race-raced.result.waiting c.race-raced.new.memory

pub returns-in-None : goal.returns-in-None
unfolding faced held
returns-in-None c =
    let a = c.args in
    let h = rehearsal a.chart.now.listing.now a.chart.now.base a.setup in
    let t = c.race-raced.result in
    let x = (stopped_3 c).machine in
    let seen = c.face-in-None.ensures ∙ (ap (λ (y : Seat). facing y t.waiting (length a.chart.now.listing.now)) c.find-at.ensures ∙ facing_there a.chart.now.listing.now a.chart.now.base (held x PC) t.waiting) in
    let told = c.used_up_of-end.ensures.0 ∙ (ap used_up_at seen ∙ sight_used (faced h x)) in
    rw (c.halt-in-None.ensures, c.used_up_of-end.ensures.1)
    (ended_so h t.count (end_number c.used_up_of-end.result) 0 (stopped_3 c) c.find-at.result c.find-at.ensures
    ∙ (ap (λ (n : ℕ). counted h t.count (over n 0 (stopped_3 c))) told
    ∙ ((rw c.in-None.is at c.race-raced.ensures) ∙ counted_none h _)))
