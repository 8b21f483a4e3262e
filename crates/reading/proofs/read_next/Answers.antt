use Rattle.std.proofs.Common.{arith}
use Rattle.reading.specs.Reading.{found_at}
use Rattle.reading.proofs.Parts.{short, read_in_rest}
use Rattle.reading.proofs.read_next.Goals as goal

pub returns-in_err-rest : goal.returns-in_err-rest
returns-in_err-rest c =
    rw c.from_residual.ensures
    (short c.args.listing.now c.args.place.0 _ _ c.byte_at.ensures c.listing_length_of-size.ensures (omega (arith, c.in_err-rest.ensures.lookup.0)))

pub returns-in_err-get : goal.returns-in_err-get
returns-in_err-get c =
    rw c.from_residual-in_err-get.ensures
    (short c.args.listing.now c.args.place.0 _ _ c.byte_at.ensures c.listing_length_of-size.ensures (omega (arith, c.in_ok-rest.ensures.lookup.0, c.in_err-get.ensures.lookup.0)))

pub returns-in_err-record : goal.returns-in_err-record
unfolding found_at
returns-in_err-record c =
    let l = c.args.listing.now in
    let rest = c.in_ok-rest.ensures.lookup.0 in
    let part = c.in_ok-get.ensures.lookup.0 in
    let e = read_in_rest l c.args.place.0 _ _ c.byte_at.ensures c.listing_length_of-size.ensures _ _ rest.2 part.2 (omega arith) in
    rw (c.from_residual-in_err-record.ensures, ← e, ← c.read_all.ensures, c.in_err-record.was)

pub returns : goal.returns
unfolding found_at
returns c =
    let l = c.args.listing.now in
    let rest = c.in_ok-rest.ensures.lookup.0 in
    let part = c.in_ok-get.ensures.lookup.0 in
    let e = read_in_rest l c.args.place.0 _ _ c.byte_at.ensures c.listing_length_of-size.ensures _ _ rest.2 part.2 (omega arith) in
    rw (← e, ← c.read_all.ensures, c.in_ok-record.was)
