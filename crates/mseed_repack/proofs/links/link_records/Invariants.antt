use Rattle.std.proofs.Common.{◌≡◌, ◌-◌, length}
use Rattle.mseed_repack.specs.private.Links.{AreLinksFrom}
use Rattle.mseed_repack.proofs.links.link_records.Given as goal

abbrev pub invariant-loop-turn : goal.invariant-loop-turn
invariant-loop-turn l = record {
  links : AreLinksFrom (length l.views - l.turn) l.views l.channels l.firsts l.nexts;
  firsts : length l.firsts ≡ length l.channels;
  nexts : length l.nexts ≡ length l.views;
}
