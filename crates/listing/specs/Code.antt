-- What the code answers of a listing, by its number and place.
use Rattle.std.specs.Prelude.{Result, Ok, Err}
use Rattle.refusal.specs.Refusal.{number}
use Rattle.listing.specs.declared.Misfit.{Misfit}
use Rattle.listing.specs.Check.{Checked, report}

abbrev pub as_checked : {A : Type 0} → Result A Misfit → Checked
as_checked (Ok x) = report 0 0
as_checked (Err misfit) = report (number misfit.refusal) misfit.place.0
