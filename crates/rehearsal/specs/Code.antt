-- For the code alone: a text and its places.
use Rattle.std.specs.Prelude.{ℕ, Option}
use Rattle.reading.specs.declared.Place.{Place}
use Rattle.text.specs.declared.Text.{Text}
use Rattle.rehearsal.specs.declared.Page.{Page}

abbrev pub page : Text → ℕ → Option Place → Page
page text place stored = record { text = text; place = record { 0 = place }; stored = stored }
