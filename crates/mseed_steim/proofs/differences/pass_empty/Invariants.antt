use Rattle.std.proofs.Common.{◌≡◌, ◌≤◌, length}
use Rattle.mseed_steim.specs.declared.scheme.Scheme.{Scheme}
use Rattle.mseed_steim.specs.ByteRuns.{past_empty}
use Rattle.mseed_steim.specs.private.Items.{items_of}
use Rattle.mseed_steim.proofs.differences.pass_empty.Given as goal

abbrev pub invariant-empty : goal.invariant-empty
invariant-empty l = record {
  past : past_empty l.fn.words ≡ past_empty l.words;
  items : (scheme : Scheme) → items_of scheme l.fn.words ≡ items_of scheme l.words;
  fewer : length l.words ≤ length l.fn.words;
}

abbrev pub decreases-empty : goal.decreases-empty
decreases-empty l = length l.words
