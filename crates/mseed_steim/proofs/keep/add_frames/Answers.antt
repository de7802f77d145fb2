use Rattle.std.proofs.Common.{arith, refl, rules, w32, FitsSigned}
use Rattle.std.proofs.lemmas.Int.{to_z-of_z}
use Rattle.mseed_steim.proofs.FirstRun.{taken_run}
use Rattle.mseed_steim.proofs.keep.add_frames.Goals as goal

pub overflow_sub-by : goal.overflow_sub-by
overflow_sub-by c =
    let by : FitsSigned w32 c.moves_of-run.result.by = search rules in
    let unused : FitsSigned w32 c.in_ok-unused.unused = search rules in
    let all = taken_run c.args.payload.now c.args.task.samples c.args.index c.args.sum c.in_ok-unused.unused
    c.in_ok-unused.ensures c.begin_in-begin.ensures c.as_chunks.ensures.front c.min.ensures
    c.frames_at_once.ensures.near c.moves_of-run.ensures c.requires.inside c.requires.left (omega arith) in
    simp to_z-of_z all.fits

pub add_near-requires : goal.add_near-requires
add_near-requires c =
    let by : FitsSigned w32 c.moves_of-run.result.by = search rules in
    let unused : FitsSigned w32 c.in_ok-unused.unused = search rules in
    let all = taken_run c.args.payload.now c.args.task.samples c.args.index c.args.sum c.in_ok-unused.unused
    c.in_ok-unused.ensures c.begin_in-begin.ensures c.as_chunks.ensures.front c.min.ensures
    c.frames_at_once.ensures.near c.moves_of-run.ensures c.requires.inside c.requires.left (omega arith) in
    let fits = all.fits in
    let last : FitsSigned w32 c.args.sum.last = search rules in
    simp to_z-of_z all.near

pub returns : goal.returns
returns c =
    let by : FitsSigned w32 c.moves_of-run.result.by = search rules in
    let unused : FitsSigned w32 c.in_ok-unused.unused = search rules in
    let all = taken_run c.args.payload.now c.args.task.samples c.args.index c.args.sum c.in_ok-unused.unused
    c.in_ok-unused.ensures c.begin_in-begin.ensures c.as_chunks.ensures.front c.min.ensures
    c.frames_at_once.ensures.near c.moves_of-run.ensures c.requires.inside c.requires.left (omega arith) in
    let fits = all.fits in
    let last : FitsSigned w32 c.args.sum.last = search rules in
    let next : FitsSigned w32 c.add_near.result = search rules in
    let sum = simp to_z-of_z at c.add_near.ensures in
    record {
      some = search rules;
      inside = search rules;
      continues = record {
        folded = rw (to_z-of_z w32 c.add_near.result next, sum) (all.folded _);
        kept = refl;
        met = search rules;
        places = refl;
      };
    }
