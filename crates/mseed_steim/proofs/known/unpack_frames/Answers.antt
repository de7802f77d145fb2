use Rattle.std.proofs.Common.{◌≡◌, ℕ, ◌+◌, ◌-◌, ◌/◌, ◌<◌, ◌++◌, ◌∙◌, List, ℤ, map, take, length, Ok, ap, arith}
use Rattle.std.proofs.Common.{rules, Result}
use Rattle.std.proofs.Math.Seq.{take-length}
use Rattle.std.proofs.lemmas.Simd.{length-chunk}
use borrow.Rule.Slice.PartMut.{put_mid}
use Rattle.mseed_steim.specs.declared.differences.BadWordAt.{BadWordAt}
use Rattle.mseed_steim.proofs.Placed.{goes_on, put_on}
use Rattle.mseed_steim.proofs.Walking.{frame_at}
use Rattle.mseed_steim.proofs.known.unpack_frames.Goals as goal

pub returns-then-met-out-clause-unpacked : goal.returns-then-met-out-clause-unpacked
returns-then-met-out-clause-unpacked c =
    let p = c.args.payload.now in
    let i : ℕ = c.loop-index.index in
    let met : ℕ = c.loop-index.met in
    let out = c.loop-index.out in
    let inside : i < length p / 64 = omega arith in
    let room = length-chunk met (length out - met) out (omega arith) in
    let after : List ℤ = put_mid met (length out - met) out c.unpack_some.new.out in
    let found = put_on c.args.scheme p _ _ i met (length out - met) c.in-Some.count _ out c.unpack_some.new.out inside
    c.begin_in-begin.ensures (rw c.as_chunks.ensures.front (frame_at (length p / 64) p i inside))
    c.in-Some.ensures.unpacked
    c.unpack_some.ensures.places (omega (arith, room)) c.loop-index.invariant.same in
    let whole : take (met + c.in-Some.count) after ≡ after =
    ap (λ (n : ℕ). take n after) c.if-met-out.true ∙ take-length after in
    (found.0, found.1 ∙ ap (λ (ys : List ℤ). map {B = Result ℤ BadWordAt} Ok ys ++ found.0) whole)

pub loop-index-preserved : goal.loop-index-preserved
loop-index-preserved c =
    let p = c.args.payload.now in
    let i : ℕ = c.loop-index.index in
    let met : ℕ = c.loop-index.met in
    let out = c.loop-index.out in
    let inside : i < length p / 64 = omega arith in
    let room = length-chunk met (length out - met) out (omega arith) in
    let after : List ℤ = put_mid met (length out - met) out c.unpack_some.new.out in
    let all : length after ≡ length out = search rules in
    let least = c.in-Some.ensures.unpacked.1.1 in
    let left : met + c.in-Some.count < length out = omega (arith, room, all, least, c.if-met-out.false) in
    record {
      places = search rules;
      left = omega (arith, left, all);
      same = goes_on c.args.scheme p _ _ i met (length out - met) c.in-Some.count _ out c.unpack_some.new.out inside
          c.begin_in-begin.ensures (rw c.as_chunks.ensures.front (frame_at (length p / 64) p i inside))
          c.in-Some.ensures.unpacked c.unpack_some.ensures.places (omega (arith, room)) (omega (arith, room, left))
          c.loop-index.invariant.same;
    }
