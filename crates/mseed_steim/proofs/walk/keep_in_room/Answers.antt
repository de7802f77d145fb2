use Rattle.std.proofs.Common.{◌≡◌, ◌+◌, ◌-◌, ◌*◌, ◌/◌, ℕ, length, ap, arith}
use Rattle.mseed_steim.specs.private.Items.{items_of}
use Rattle.mseed_steim.specs.private.Unpacked.{data_in, left_from}
use Rattle.mseed_steim.proofs.Continuing.{walks_over}
use Rattle.mseed_steim.proofs.Walking.{data_few, frame_at, frame_items, frames_cut}
use Rattle.mseed_steim.proofs.walk.keep_in_room.Goals as goal

pub returns-in-Some : goal.returns-in-Some
returns-in-Some g c = λ met.
    let p = c.args.payload.now in
    walks_over g.K.Keeper.kept c.args.task.samples c.args.sum c.args.out.now c.keep_unpacked.new.out _ _ _
    c.keep_unpacked.result
    (frame_items c.args.task.scheme p _ _ c.args.sum.met met c.args.index _ _ c.requires.inside
    c.begin_in-begin.ensures c.in-Some.ensures.unpacked
    (rw c.as_chunks.ensures.front (frame_at (length p / 64) p c.args.index c.requires.inside)))
    (c.keep_unpacked.ensures _)

pub returns : goal.returns
returns g c = λ met.
    let p = c.args.payload.now in
    let index : ℕ = c.args.index in
    let from : ℕ = data_in c.args.sum.met index in
    let few = data_few c.args.sum.met index in
    let count : 16 * (index + 1) - (16 * index + from) ≡ 16 - from = omega (arith, few) in
    let words = rw (c.data_in.ensures, count) at c.between-words.ensures in
    walks_over g.K.Keeper.kept c.args.task.samples c.args.sum c.args.out.now c.keep_words.new.out _ _ _
    c.keep_words.result (ap (items_of c.args.task.scheme)
    (frames_cut p c.args.sum.met met index 1 (omega arith) (omega (arith, c.requires.inside))))
    (rw words at (c.keep_words.ensures (left_from p met (index + 1))))
