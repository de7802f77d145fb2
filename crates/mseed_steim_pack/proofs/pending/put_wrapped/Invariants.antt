use Rattle.std.proofs.Common.{◌≡◌, ◌≤◌, ◌∷◌, get_or, length, pos, take}
use Rattle.mseed_steim_pack.specs.private.Wrapped.{wrapped_from}
use Rattle.mseed_steim_pack.proofs.pending.put_wrapped.Given as goal

abbrev pub invariant-loop-index : goal.invariant-loop-index
invariant-loop-index l = record {
  room : length l.samples ≤ length l.differences;
  last : l.last ≡ get_or (l.fn.before ∷ l.samples) l.index (pos 0);
  done : take l.index l.differences ≡ take l.index (wrapped_from l.fn.before l.samples);
}
