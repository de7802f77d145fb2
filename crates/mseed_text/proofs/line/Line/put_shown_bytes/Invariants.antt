use Rattle.std.proofs.Common.{◌≡◌, ◌+◌, ◌++◌, length, map, take}
use Rattle.mseed_text.specs.Shown.{shown_byte}
use Rattle.mseed_text.proofs.line.Line.put_shown_bytes.Given as goal

abbrev pub invariant-loop-byte : goal.invariant-loop-byte
invariant-loop-byte l = record {
  text : l.self ≡ l.fn.self ++ map shown_byte (take l.byte-index l.bytes);
  len : length l.self ≡ length l.fn.self + l.byte-index;
}
