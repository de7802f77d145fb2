use Rattle.std.proofs.Common.{◌≡◌, ◌-◌, ◌++◌, length}
use Rattle.mseed_steim.specs.private.Digits.{digits}
use Rattle.mseed_steim.proofs.word.differences_in.Given as goal

abbrev pub invariant-loop-i : goal.invariant-loop-i
invariant-loop-i l = record {
  long : length l.differences.items ≡ l.i;
  so_far : l.differences.items ++ digits l.group.width l.word (l.group.count - l.i) ≡ digits l.group.width l.word
      l.group.count;
}
