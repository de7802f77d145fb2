use Rattle.std.proofs.Common.{◌≡◌, ◌<◌, ℕ, get_or, length, pos}
use Rattle.mseed_steim.specs.declared.scheme.Scheme.TheVariants.{Two}
use Rattle.mseed_steim_pack.specs.Lookahead.{AreSame}
use Rattle.mseed_steim_pack.specs.private.Ahead.{near_size, size_of}
use Rattle.mseed_steim_pack.proofs.ahead.put_cut.Given as goal

abbrev pub invariant-loop-index : goal.invariant-loop-index
invariant-loop-index g l = record {
  room : length l.cut ≡ 128;
  same : AreSame l.index (g.D.Steps.differences l.diffs) l.cut;
  done : (i : ℕ) → i < l.index
      → size_of (get_or l.cut i (pos 0)) ≡ near_size Two (get_or (g.D.Steps.differences l.diffs) i (pos 0));
}
