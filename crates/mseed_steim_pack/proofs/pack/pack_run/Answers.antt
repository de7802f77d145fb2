use Rattle.std.proofs.Common.{◌≢◌, ◌≡◌, ◌⊎◌, ℕ, ℤ, List, ◌+◌, ◌/◌, ◌%◌, ◌≤◌, ◌∙◌, arith, inl, inr, length}
use Rattle.std.proofs.Common.{sym}
use Rattle.mseed_steim.specs.declared.scheme.Scheme.{Scheme}
use Rattle.mseed_steim.specs.Frames.{word_count}
use Rattle.mseed_steim_pack.specs.declared.ahead.Lookahead.{Lookahead}
use Rattle.mseed_steim_pack.specs.declared.pack.Reached.{Reached}
use Rattle.mseed_steim_pack.specs.private.Pushing.{Filling, IsReached}
use Rattle.mseed_steim_pack.proofs.Coding.{pushing_none, pushing_past}
use Rattle.mseed_steim_pack.proofs.Filling.{filled}
use Rattle.mseed_steim_pack.proofs.Packs.{refused_packed}
use Rattle.mseed_steim_pack.proofs.pack.pack_run.Invariants.{Begun}
use Rattle.mseed_steim_pack.proofs.pack.pack_run.Goals.{then-reached-end+then-end-frames}
use Rattle.mseed_steim_pack.proofs.pack.pack_run.Goals.{else-reached-end+then-reached-count}
use Rattle.mseed_steim_pack.proofs.pack.pack_run.Given.{Over}
use Rattle.mseed_steim_pack.proofs.pack.pack_run.Goals.{In-Ok}
use Rattle.mseed_steim_pack.proofs.pack.pack_run.Goals as goal

begun : (s : Scheme) (ds : List ℤ) (known : Lookahead) (p : List ℕ) (head : ℕ) (r : Reached)
    → IsReached s ds known p head r → head + 16 ≤ length p / 4 → length p % 64 ≡ 0 → Begun s ds known p head r
begun s ds known p head r is frame whole = search (arith)

-- what is reached once a frame is filled further
next_reached : (g : Over) (c : In-Ok g) → IsReached c.args.scheme (g.P.Pending.differences c.args.pending.now)
    c.look_on-reached.new.known c.push_each.new.frames c.loop-next.head c.in-Ok.next
next_reached g c = c.in-Ok.ensures.fills c.loop-next.head (c.push_known-reached.ensures.fills _ c.loop-next.head
    (c.look_on-reached.ensures.reached c.loop-next.frames c.loop-next.head c.loop-next.invariant.reached))

same_length : (g : Over) (c : In-Ok g) → length c.push_each.new.frames ≡ length c.loop-next.frames
same_length g c = omega (arith, c.push_known-reached.auto.frames, c.push_each.auto.frames)

pub loop-next-init : goal.loop-next-init
loop-next-init g c =
    let s = c.args.scheme in
    let ds = g.P.Pending.differences c.args.pending.now in
    let long : length c.write_word-2.new.frames ≡ length c.args.frames.now =
    omega (arith, c.write_word.auto.frames, c.write_word-2.auto.frames) in
    begun s ds c.args.known.now c.write_word-2.new.frames 0 _
    (record {
      pushing = pushing_none s ds c.write_word-2.new.frames (c.write_word-2.ensures 1 ∙ c.write_word.ensures 1)
          (c.write_word-2.ensures 2);
      ahead = c.begin.ensures s ds c.requires.known.0 (sym c.count-count.ensures.value) c.requires.known.1;
    }) (omega (arith, long, c.requires.some, c.requires.whole)) (omega (arith, long, c.requires.whole))

pub push_known-reached-requires-clause-few : goal.push_known-reached-requires-clause-few
push_known-reached-requires-clause-few g c =
    let is = c.look_on-reached.ensures.reached c.loop-next.frames c.loop-next.head c.loop-next.invariant.reached in
    let inside = is.pushing.inside in
    omega (arith, inside, c.count-count.ensures.value, c.count-count.ensures.few)

pub push_known-reached-requires-clause-reached : goal.push_known-reached-requires-clause-reached
push_known-reached-requires-clause-reached g c = (
  g.P.Pending.differences c.args.pending.now,
  (
    c.loop-next.head,
    c.look_on-reached.ensures.reached c.loop-next.frames c.loop-next.head c.loop-next.invariant.reached,
  ),
)

pub push_each-requires-clause-reached : goal.push_each-requires-clause-reached
push_each-requires-clause-reached g c = (
  c.loop-next.head,
  c.push_known-reached.ensures.fills (g.P.Pending.differences c.args.pending.now) c.loop-next.head
      (c.look_on-reached.ensures.reached c.loop-next.frames c.loop-next.head c.loop-next.invariant.reached),
)

pub returns-in-Err-clause-packed : goal.returns-in-Err-clause-packed
returns-in-Err-clause-packed g c = search (arith, refused_packed)

pub loop-next-preserved-then-reached-end : goal.loop-next-preserved-then-reached-end
loop-next-preserved-then-reached-end g c =
    let ds = g.P.Pending.differences c.args.pending.now in
    let from = c.loop-next in
    let before = from.invariant in
    let next = c.in-Ok.next in
    let p = c.push_each.new.frames in
    let q = c.write_word-then-reached-end.new.frames in
    let path = (goal.at.loop-next-preserved-then-reached-end g c).In-Ok in
    let is = next_reached g path in
    let end : next.index ≡ from.head + 16 = c.if-reached-end.true in
    let first : next.index % 16 ≡ 0 = omega (arith, end, before.at) in
    let more : from.head + 16 ≢ length p / 4 = c.if-end-frames.false in
    let same : length q ≡ length p = omega (arith, c.write_word-then-reached-end.auto.frames) in
    let long = same_length g path in
    rw (← end) (begun c.args.scheme ds c.look_on-reached.new.known q next.index _
    (record {
      pushing = pushing_past c.args.scheme ds p q from.head next.codes next.index next.used first
          c.write_word-then-reached-end.ensures is.pushing;
      ahead = is.ahead;
    }) (omega (arith, end, before.at, more, same, long, before.whole, before.frame))
    (omega (arith, same, long, before.whole)))

pub loop-next-preserved : goal.loop-next-preserved
loop-next-preserved g c =
    let from = c.loop-next in
    let path = (goal.at.loop-next-preserved g c).In-Ok in
    let long = same_length g path in
    begun c.args.scheme (g.P.Pending.differences c.args.pending.now) c.look_on-reached.new.known c.push_each.new.frames
    from.head c.in-Ok.next (next_reached g path) (omega (arith, long, from.invariant.frame))
    (omega (arith, long, from.invariant.whole))

pub loop-next-smaller : goal.loop-next-smaller
loop-next-smaller g c = search (arith)

pub returns-clause-packed : goal.returns-clause-packed
returns-clause-packed g c =
    let s = c.args.scheme in
    let ds = g.P.Pending.differences c.args.pending.now in
    let from = c.loop-next in
    let before = from.invariant in
    let next = c.in-Ok.next in
    let frames = c.finish.new.frames in
    let packed = c.finish.result in
    let path = (goal.at.returns-clause-packed g c).In-Ok in
    let is = next_reached g path in
    let filling : Filling s ds frames next.index packed.used packed.words =
    rw c.finish.ensures.used (c.finish.ensures.filled s ds is.pushing) in
    let long : length frames ≡ length c.push_each.new.frames = omega (arith, c.finish.auto.frames) in
    let all : length frames ≡ length from.frames = omega (arith, long, same_length g path) in
    let inside : next.index ≤ word_count frames =
    omega (arith, before.whole, all, c.in-Ok.ensures.moves.inside, before.frame) in
    let end : (packed.used ≡ length ds) ⊎ (next.index ≡ word_count frames) = elim c.if-reached-end.branch [
      | then-reached-end+then-end-frames w ↦
          inr (omega (arith, before.whole, all, long, w.if-reached-end.true, w.if-end-frames.true))
      | else-reached-end+then-reached-count w ↦
          inl (c.finish.ensures.used ∙ w.if-reached-count.true ∙ c.count-count.ensures.value)
    ] in
    filled s ds frames next.index packed filling inside end

pub returns-clause-known : goal.returns-clause-known
returns-clause-known g c =
    rw c.finish.ensures.used (next_reached g (goal.at.returns-clause-known g c).In-Ok).ahead
