use Rattle.std.proofs.Common.{◌≡◌, ◌++◌, ◌+◌, ◌*◌, ◌≤◌, codes, length, take}
use Rattle.slink_feed.specs.Reporter.{options_of, words_of}
use Rattle.slink_feed.proofs.reporter.next_line.Given as goal

abbrev pub invariant-loop-want : goal.invariant-loop-want
invariant-loop-want l = record {
  text : l.line.items ≡ codes "mseed: next" ++ options_of l.first ++ words_of (take l.want-index l.others);
  short : length l.line.items ≤ 54 + 16 * l.want-index;
}
