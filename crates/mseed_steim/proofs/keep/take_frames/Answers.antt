use Rattle.std.proofs.Common.{◌/◌, length, Ok, rules}
use Rattle.mseed_steim.specs.private.Unpacked.{data_in}
use Rattle.mseed_steim.proofs.Continuing.{walks_over}
use Rattle.mseed_steim.proofs.Walking.{frame_at, frame_items}
use Rattle.mseed_steim.proofs.keep.take_frames.Goals as goal

pub unpack_frame-requires-clause-begins : goal.unpack_frame-requires-clause-begins
unpack_frame-requires-clause-begins g c = (data_in c.args.sum.met c.args.index, c.begin_in-begin.ensures)

pub returns-clause-taken : goal.returns-clause-taken
returns-clause-taken g c =
    let p = c.args.payload.now in
    record {
      some = search rules;
      inside = search rules;
      continues =
          walks_over g.K.Keeper.kept c.args.task.samples c.args.sum c.args.out.now c.keep_needed.new.out _ _ _
          (Ok c.keep_needed.result)
          (frame_items c.args.task.scheme p _ _ c.args.sum.met c.keep_needed.result.met c.args.index _ _
          c.requires.inside c.begin_in-begin.ensures c.in_ok-count.ensures.unpacked
          (rw c.as_chunks.ensures.front (frame_at (length p / 64) p c.args.index c.requires.inside)))
          (c.keep_needed.ensures _);
    }
