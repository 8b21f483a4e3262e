-- The layout of a listing: where each record stands, and which conditions wait there.
-- "A place counts listing bytes, an address counts machine bytes"; the end of the listing is not taken modulo 2^32.
use Rattle.std.specs.Prelude.{ℕ, zero, suc, ◌+◌, Bool, true, false, ◌&&◌, Option, Some, None, List, [], ◌∷◌, length, ◌==◌}
use Rattle.std.specs.Bool.{if◌then◌else◌}
use Rattle.waiting.specs.Waiting.{nothing, waiting_count}
use Rattle.record.specs.declared.Record.{Record}
use Rattle.flow.specs.Flow.{traits, machine_length, way, fills, after}
use Rattle.reading.specs.Reading.{read_at}
use Rattle.reading.specs.declared.Place.{Place}
use Rattle.judge.specs.Judge.{refusal}
use Rattle.layout.specs.declared.Point.{Point}

-- what stands at a point of the layout: a record, and the point after it; the end; or what 2, 3 or 4 refuses there
pub data Met : Type 0 where
  Onward : Record → Point → Met
  AtEnd : Met
  Refusal : ℕ → Met

-- the first record stands at the base, and nothing waits there; a filler may be "first in the listing"
unfoldable pub start : ℕ → Point
start base = record { place = record { 0 = 0 }; address = record { 0 = base }; waiting = nothing; parted = true }

-- outside all blocks nothing waits
unfoldable pub free : Point → Bool
free p = waiting_count p.waiting == 0

-- the point after a record; order 1: a filler may stand there after some records that are "outside a block", and so never in one
unfoldable pub next : Record → Place → Point → Point
next r place p = record {
  place = place;
  address = record { 0 = p.address.0 + machine_length r };
  waiting = after r p.waiting;
  parted = (traits r).parts && free p;
}

-- the number that a record is refused with at a point, else 0: "the lowest number there"; "blocks give the waiting conditions for rule 4".
-- Order 1: "an ill-placed filler is 4 at the filler's place"; the 3 is for one that is stepped alone.
unfoldable pub refusal_at : Record → Point → ℕ
refusal_at r p = if fills (way r) then (if p.parted then 0 else 4) else refusal r (waiting_count p.waiting)

-- 2 where no record was read
unfoldable pub judged_at : Option (Record × Place) → Point → Met
judged_at (Some (r, place)) p =
    let number = refusal_at r p in if number == 0 then Onward r (next r place p) else Refusal number
judged_at None p = Refusal 2

-- what stands at a point: the end of the listing, or what is read there
unfoldable pub meets : List ℕ → Point → Met
meets listing p = if p.place.0 == length listing then AtEnd else judged_at (read_at listing p.place.0) p

-- the points after one, if a record stands there that is not refused
abbrev pub followed : Met → (Point → List Point) → List Point
followed (Onward r q) rest = rest q
followed AtEnd rest = []
followed (Refusal number) rest = []

-- the points from one on, so many at the most: to the end, or to the first that is refused
unfoldable pub walk : ℕ → List ℕ → Point → List Point
walk zero listing p = []
walk (suc count) listing p = p ∷ followed (meets listing p) (walk count listing)

-- the points of a listing: of each record and of the end, which are no more than its bytes and one
unfoldable pub layout : List ℕ → ℕ → List Point
layout listing base = walk (length listing + 1) listing (start base)

-- a point that was looked for
pub data Sought : Type 0 where
  At : Point → Sought
  Nowhere : Sought

-- what stands at an address: a record, and its point; the end; or neither
pub data AtAddress : Type 0 where
  Stands : Record → Point → AtAddress
  End : AtAddress
  Stray : AtAddress

-- the first point at an address
unfoldable pub sought : ℕ → List Point → Sought
sought address [] = Nowhere
sought address (p ∷ ps) = if p.address.0 == address then At p else sought address ps

-- does a filler stand there?
unfoldable pub filled : Met → Bool
filled (Onward r q) = fills (way r)
filled AtEnd = false
filled (Refusal number) = false

-- what stands at a point, if 2, 3 and 4 leave it; order 1: "in a run, R15 at a filler is 8", so a filler is nothing that stands there
unfoldable pub standing : Met → Point → AtAddress
standing (Onward r q) p = if fills (way r) then Stray else Stands r p
standing AtEnd p = End
standing (Refusal number) p = Stray

-- and nothing where no point is
unfoldable pub standing_at : List ℕ → Sought → AtAddress
standing_at listing (At p) = standing (meets listing p) p
standing_at listing Nowhere = Stray

-- the walk for an address: the record there, with its place and waiting conditions; or the end; or neither
unfoldable pub at_address : List ℕ → ℕ → ℕ → AtAddress
at_address listing base address = standing_at listing (sought address (layout listing base))
