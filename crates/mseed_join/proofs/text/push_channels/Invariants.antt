use Rattle.std.proofs.Common.{◌≡◌, ◌++◌, take}
use Rattle.mseed_join.specs.Written.{channel_lines}
use Rattle.mseed_join.proofs.text.push_channels.Given as goal

abbrev pub invariant-loop-codes : goal.invariant-loop-codes
invariant-loop-codes g l = l.text.items ≡ l.fn.text.items ++ channel_lines (take l.codes-index l.channels)
