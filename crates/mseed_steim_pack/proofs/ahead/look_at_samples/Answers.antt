use Rattle.std.proofs.Common.{arith, drop, take, w32}
use Rattle.std.proofs.lemmas.Int.{to_z-of_z}
use Rattle.std.proofs.lemmas.List.{take-append-drop}
use Rattle.mseed_steim_pack.specs.private.Wrapped.{wrapped_from}
use Rattle.mseed_steim_pack.proofs.Lookaheads.{known_at, known_more}
use Rattle.mseed_steim_pack.proofs.Wrapped.{first_written}
use Rattle.mseed_steim_pack.proofs.ahead.look_at_samples.Goals as goal

pub returns : goal.returns
returns c =
    let s = c.args.scheme in
    let before = c.args.before in
    let xs = c.args.samples.now in
    let ds = wrapped_from before xs in
    let n = c.min-count.result in
    let known = known_at c.look_at.new.most c.look_at.new.cut 0 in
    let written = first_written n before xs c.put_wrapped.new.differences (omega (arith, c.min-count.ensures))
    (rw (to_z-of_z w32 before c.ranges.before) at c.put_wrapped.ensures) in
    rw take-append-drop at (known_more s known (take n ds) (drop n ds) (rw written at c.look_at.ensures))
