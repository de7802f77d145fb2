use Rattle.std.proofs.Common.{◌≡◌, ◌+◌, ◌*◌, ◌++◌, length, take}
use Rattle.mseed_join.specs.Lines.{key_text}
use Rattle.mseed_join.proofs.writing.put_key.Given as goal

abbrev pub invariant-loop-byte : goal.invariant-loop-byte
invariant-loop-byte l = record {
  text : l.line ≡ l.fn.line ++ key_text (take l.byte-index l.key);
  len : length l.line ≡ length l.fn.line + 2 * l.byte-index;
}
