-- Which bytes are a record. "record short, trailing bytes, unknown kind, field not as above" is number 2.
use Rattle.std.specs.Prelude.{ℕ, ◌+◌, Bool, true, ◌&&◌, ◌||◌, Option, Some, None, List, leb, ltb, eqb, length, take, drop}
use Rattle.std.specs.Bool.{if◌then◌else◌}
use Rattle.little.specs.Little.{byte}
use Rattle.fields.specs.Fields.{well_formed}
use Rattle.record.specs.declared.Record.{Record}
use Rattle.kinds.specs.Kinds.{listing_length, names, record_of}
use Rattle.reading.specs.declared.Place.{Place}

-- "others 0" of the form byte
abbrev pub form_known : List ℕ → ℕ → Bool
form_known r at = ltb (byte r at) 4

-- a shift, a mode, or whether the base is written back
unfoldable pub coded : List ℕ → ℕ → Bool
coded r kind =
    if eqb kind 0x01 then ltb (byte r 6) 5
    else (if eqb kind 0x0A then ltb (byte r 6) 5
    else (if eqb kind 0x0D then ltb (byte r 5) 3
    else (if eqb kind 0x0F then ltb (byte r 6) 3
    else (if eqb kind 0x10 then ltb (byte r 4) 2
    else true))))

-- every number that stands for a name has one, and the form byte's other bits are 0; IT and NOP have no op, a filler has neither
unfoldable pub named : List ℕ → Bool
named r =
    let kind = byte r 0 in
    if eqb kind 0x17 then true
    else (if eqb kind 0x14 || eqb kind 0x15 then form_known r 1
    else ltb (byte r 1) (names kind) && form_known r 2 && coded r kind)

-- all the bytes are one record, and no more
unfoldable pub read_one : List ℕ → Option Record
read_one r =
    if eqb (length r) (listing_length (byte r 0)) && named r then (if well_formed (record_of r) then Some (record_of r) else None)
    else None

-- a record and the place after it
unfoldable pub found_at : Option Record → ℕ → Option (Record × Place)
found_at (Some r) next = Some (r, record { 0 = next })
found_at None next = None

-- the bytes of a listing from a place on, as many as the kind there has; fewer where the listing ends before
abbrev pub part : List ℕ → ℕ → List ℕ
part listing place = take (listing_length (byte listing place)) (drop place listing)

-- the record at a place of a listing
unfoldable pub read_at : List ℕ → ℕ → Option (Record × Place)
read_at listing place =
    let size = listing_length (byte listing place) in
    if leb (place + size) (length listing) then found_at (read_one (part listing place)) (place + size) else None
