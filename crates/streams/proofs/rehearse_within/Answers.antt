-- What is written is of the bytes that were read.
use Rattle.std.proofs.Common.{◌≡◌, length, take, arith, sym, ap, ◌∙◌, refl, OnOk, IsOk, length-take-le}
use Rattle.std.specs.Io.KnownBytes.{Appends}
use Rattle.rehearsal.specs.Program.{text_of, place_of, stored_of}
use Rattle.rehearsal.proofs.Room.{told_short}
use Rattle.streams.specs.Streams.{places_text}
use Rattle.streams.proofs.Taken.{three, under, renamed, carried}
use Rattle.streams.proofs.Told.{told_text, told_place, told_stored}
use Rattle.streams.proofs.rehearse_within.Goals as goal
use Rattle.streams.proofs.rehearse_within.Goals.{After-and}
use Rattle.streams.proofs.rehearse_within.Given.{Over}

pub slice_bounds-room-end : goal.slice_bounds-room-end
slice_bounds-room-end g c =
    let told = c.rehearse_within-told in
    let short = told_short told.result _ _ _ told.new.room told.ensures in
    let kept : length told.new.room ≡ 256 = told.auto.room in
    omega arith

pub slice_bounds-write_all-end : goal.slice_bounds-write_all-end
slice_bounds-write_all-end g c =
    let told = c.rehearse_within-told in
    let short = told_short told.result _ _ _ told.new.room told.ensures in
    let kept : length told.new.room ≡ 256 = told.auto.room in
    sym (length-take-le told.result.length told.new.room (omega arith))

-- all three, where the whole did
went_well : (g : Over) (c : After-and g) → OnOk c.and.result (IsOk c.read_full-count.result.read × IsOk c.write_all-written.result × IsOk c.say-said.result)
went_well g c = three c.and.result _ c.and-sent.result _ _ c.and.ensures c.and-sent.ensures

pub returns-clause-text : goal.returns-clause-text
returns-clause-text g c =
    let told = c.rehearse_within-told in
    let filled = c.read_full-count in
    let bytes = take filled.result.count filled.new.space in
    let kept : length told.new.room ≡ 256 = told.auto.room in
    let text = told_text told.result c.args.budget bytes _ told.new.room told.ensures refl in
    carried c.and.result filled.result.read c.write_all-written.result _ _ 32769 bytes
    (λ xs. Appends (g.W.Write.contents c.args.output.now) (g.W.Write.contents c.write_all-written.new.self) (text_of c.args.budget xs))
    (under c.and.result (λ h. (h.0, h.1)) (went_well g c))
    filled.auto.space
    filled.ensures.filled
    (renamed c.write_all-written.result _ _ _ _ text c.write_all-written.ensures.bytes)

pub returns-clause-places : goal.returns-clause-places
returns-clause-places g c =
    let told = c.rehearse_within-told in
    let filled = c.read_full-count in
    let bytes = take filled.result.count filled.new.space in
    let place = told_place told.result c.args.budget bytes _ told.new.room told.ensures in
    let stored = told_stored told.result c.args.budget bytes _ told.new.room told.ensures in
    carried c.and.result filled.result.read c.say-said.result _ _ 32769 bytes
    (λ xs.
    Appends
    (g.E.Write.contents c.args.places.now)
    (g.E.Write.contents c.say-said.new.places)
    (places_text (place_of c.args.budget xs) (stored_of c.args.budget xs)))
    (under c.and.result (λ h. (h.0, h.2)) (went_well g c))
    filled.auto.space
    filled.ensures.filled
    (renamed c.say-said.result _ _ _ _ (ap (λ p. places_text p told.result.stored) place ∙ ap (places_text _) stored) c.say-said.ensures)
