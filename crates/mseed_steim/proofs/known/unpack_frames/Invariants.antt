use Rattle.std.proofs.Common.{◌≡◌, ◌<◌, ◌++◌, map, take, length, Ok}
use Rattle.mseed_steim.specs.Frames.{data_words}
use Rattle.mseed_steim.specs.private.Items.{items_of}
use Rattle.mseed_steim.specs.private.Unpacked.{left_from}
use Rattle.mseed_steim.proofs.known.unpack_frames.Given as goal

abbrev pub invariant-loop-index : goal.invariant-loop-index
invariant-loop-index l = record {
  places : length l.out ≡ length l.fn.out;
  left : l.met < length l.out;
  same : items_of l.scheme (data_words l.payload)
      ≡ map Ok (take l.met l.out) ++ items_of l.scheme (left_from l.payload 0 l.index);
}
