-- What the code answers of a run, by the number and the place that paper 01 gives it.
use Rattle.std.specs.Prelude.{ℕ}
use Rattle.reading.specs.declared.Place.{Place}
use Rattle.refusal.specs.Refusal.{number}
use Rattle.run.specs.declared.End.{End}
use Rattle.run.specs.declared.End.TheVariants.{AtEnd, Refused, Nowhere, UsedUp}
use Rattle.run.specs.declared.Ran as Code
use Rattle.run.specs.declared.Halted as CodeHalted
use Rattle.run.specs.Run.{Ran}
use Rattle.run.specs.Place.{Halted}

-- 0, 8, 10 or the refusal's
abbrev pub end_number : End → ℕ
end_number AtEnd = 0
end_number (Refused refusal place) = number refusal
end_number Nowhere = 8
end_number UsedUp = 10

-- the refusal's, "else 0"
abbrev pub end_place : End → Place
end_place AtEnd = record { 0 = 0 }
end_place (Refused refusal place) = place
end_place Nowhere = record { 0 = 0 }
end_place UsedUp = record { 0 = 0 }

abbrev pub as_ran : Code.Ran → Ran
as_ran r = record { number = end_number r.end; place = end_place r.end; count = r.count; machine = r.machine }

abbrev pub as_halted : CodeHalted.Halted → Halted
as_halted r = record { number = end_number r.end; place = end_place r.end; count = r.count; running = r.running }
