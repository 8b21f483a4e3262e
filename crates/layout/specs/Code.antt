-- What a pass over a listing takes from a point, for the code: where the record goes, and the next point, its address kept in 64 bits.
use Rattle.std.specs.Prelude.{ℕ, ◌+◌, ◌%◌, ◌^◌, Bool, false, ◌&&◌, Option, Some, None, Result, Ok, Err}
use Rattle.refusal.specs.declared.Refusal as why
use Rattle.refusal.specs.Refusal.{number}
use Rattle.flow.specs.Flow.{way, fills, opened}
use Rattle.flow.specs.declared.Traits.{Traits}
use Rattle.flow.specs.declared.Way.{Way}
use Rattle.reading.specs.declared.Place.{Place}
use Rattle.layout.specs.declared.Point.{Point}
use Rattle.layout.specs.Layout.{Met, Onward, AtEnd, Refusal, free}

unfoldable pub in_64_bits : Point → Point
in_64_bits p =
    record { place = p.place; address = record { 0 = p.address.0 % 2 ^ 64 }; waiting = p.waiting; parted = p.parted }

-- the point after a record of these traits
unfoldable pub passed : Traits → Place → Point → Point
passed t place p = record {
  place = place;
  address = record { 0 = p.address.0 + t.length };
  waiting = opened t.opens p.waiting;
  parted = t.parts && free p;
}

-- what a pass takes from a point: where the record goes, and the next point; the end; or the number that the record is refused with
pub data Seen : Type 0 where
  Goes : Way → Point → Seen
  Ends : Seen
  Stops : ℕ → Seen

unfoldable pub seen : Met → Seen
seen (Onward r q) = Goes (way r) (in_64_bits q)
seen AtEnd = Ends
seen (Refusal number) = Stops number

-- the same of what the code answers
abbrev pub seen_of : Result (Option (Way × Point)) why.Refusal → Seen
seen_of (Ok (Some (w, q))) = Goes w q
seen_of (Ok None) = Ends
seen_of (Err refusal) = Stops (number refusal)

-- was it a filler that was seen?
unfoldable pub seen_filled : Seen → Bool
seen_filled (Goes w q) = fills w
seen_filled Ends = false
seen_filled (Stops number) = false
