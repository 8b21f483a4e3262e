-- The record at a place, by the kind there, the rest of the listing and as many bytes of it as the kind has.
use Rattle.std.proofs.Common.{◌≡◌, ℕ, ◌+◌, ◌<◌, ◌≤◌, List, length, Option, None, le-leb}
use Rattle.std.specs.List.{slice_range}
use Rattle.std.proofs.lemmas.Bool.{lt-leb}
use Rattle.std.proofs.lemmas.List.{take_rest}
use Rattle.std.proofs.lemmas.Slice.{between_from_start}
use Rattle.little.specs.Little.{byte}
use Rattle.record.specs.declared.Record.{Record}
use Rattle.kinds.specs.Kinds.{listing_length}
use Rattle.reading.specs.declared.Place.{Place}
use Rattle.reading.specs.Reading.{read_one, found_at, read_at}

module _ (listing : List ℕ) (at kind size : ℕ) (first : kind ≡ byte listing at) (long : size ≡ listing_length kind) where
  pub short : length listing < at + size → ◌≡◌ {A = Option (Record × Place)} None (read_at listing at)
  unfolding read_at
  short h = rw (← first, ← long, lt-leb (at + size) (length listing) h)

  pub read_in_rest : (rest part : List ℕ) → rest ≡ slice_range listing at (length listing) → part ≡ slice_range rest 0 size → at + size ≤ length listing
      → found_at (read_one part) (at + size) ≡ read_at listing at
  unfolding read_at
  read_in_rest rest part r p h =
      rw (← first, ← long, le-leb (at + size) (length listing) h, p, between_from_start rest size, r, take_rest listing at)
