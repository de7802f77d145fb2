use Rattle.std.proofs.Common.{length, arith}
use Rattle.mseed_steim.proofs.Placed.{put_in_place}
use Rattle.mseed_steim.proofs.known.unpack_some.Goals as goal

pub returns-then-out-ge-PLACES-clause-unpacked : goal.returns-then-out-ge-PLACES-clause-unpacked
returns-then-out-ge-PLACES-clause-unpacked c =
    put_in_place _ c.args.scheme c.args.begin c.args.frame.now c.unpack_frame.result c.unpack_frame.new.differences
    (length c.args.out.now) c.unpack_frame.auto.differences (omega arith) c.unpack_frame.ensures
