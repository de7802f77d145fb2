use Rattle.std.proofs.Common.{◌≡◌, ◌<◌, List, ℕ, arith, length, length-take-le, sym, take}
use Rattle.mseed_text.proofs.line.Line.put_shown.Goals as goal

-- the first 57 of more than 60 bytes
first : (given : List ℕ) → 60 < length given → length (take 57 given) ≡ 57
first given more = length-take-le 57 given (omega (arith, more))

pub slice_bounds-put_shown_bytes-end : goal.slice_bounds-put_shown_bytes-end
slice_bounds-put_shown_bytes-end c = sym (first c.args.given.now c.if-given-le60.false)

pub put_shown_bytes-requires-else-given-le60 : goal.put_shown_bytes-requires-else-given-le60
put_shown_bytes-requires-else-given-le60 c =
    omega (arith, c.requires.room, first c.args.given.now c.if-given-le60.false)

pub put-requires : goal.put-requires
put-requires c = record {
  room = omega (
    arith,
    c.requires.room,
    first c.args.given.now c.if-given-le60.false,
    c.put_shown_bytes-else-given-le60.ensures.len,
  );
}

pub returns-else-given-le60-clause-most : goal.returns-else-given-le60-clause-most
returns-else-given-le60-clause-most c =
    omega (
      arith,
      c.requires.room,
      first c.args.given.now c.if-given-le60.false,
      c.put_shown_bytes-else-given-le60.ensures.len,
      c.put.ensures.len,
    )
