use mathlib.Core.Bool.{true, false}
use Rattle.reading.specs.Reading.{read_one}
use Rattle.reading.proofs.Laws.{record_nine, whole}
use Rattle.reading.proofs.read_all.Goals as goal

pub returns-then-whole : goal.returns-then-whole
unfolding read_one
returns-then-whole c =
    let r = c.args.r.now in
    let bytes = c.nine_of-bytes in
    let size = c.listing_length_of-size in
    let t = whole r bytes.result size.result c.is_named.result true bytes.ensures size.ensures c.is_named.ensures c.if-whole.true in
    rw (t, c.formed.ensures, c.record_from.ensures, bytes.ensures, record_nine r)

pub returns-else-whole : goal.returns-else-whole
unfolding read_one
returns-else-whole c =
    let r = c.args.r.now in
    let bytes = c.nine_of-bytes in
    let size = c.listing_length_of-size in
    rw (whole r bytes.result size.result c.is_named.result false bytes.ensures size.ensures c.is_named.ensures c.if-whole.false)
