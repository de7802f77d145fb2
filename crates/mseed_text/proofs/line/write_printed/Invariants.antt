use Rattle.std.proofs.Common.{◌≡◌, ◌+◌, ◌++◌, take, map}
use Rattle.mseed_text.specs.Name.{printed}
use Rattle.mseed_text.proofs.line.write_printed.Given as goal

abbrev pub invariant-loop-i : goal.invariant-loop-i
invariant-loop-i l = take (l.fn.index + l.i) l.room
    ≡ take l.fn.index l.fn.room ++ map printed (take l.i l.fn.code)
