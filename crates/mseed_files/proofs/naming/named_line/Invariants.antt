use Rattle.std.proofs.Common.{◌≡◌, ◌++◌, map, take}
use Rattle.mseed_text.specs.Shown.{shown_byte}
use Rattle.mseed_files.proofs.naming.named_line.Given as goal

abbrev pub invariant-loop-byte : goal.invariant-loop-byte
invariant-loop-byte l = l.line.items ≡ l.before ++ map shown_byte (take l.byte-index l.word)
