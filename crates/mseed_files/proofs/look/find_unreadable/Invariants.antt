use Rattle.std.proofs.Common.{◌<◌, ℕ}
use Rattle.mseed_files.specs.Looked.{MayBeRead, found_at}
use Rattle.mseed_files.proofs.look.find_unreadable.Given as goal

abbrev pub invariant-loop-index : goal.invariant-loop-index
invariant-loop-index g l = (before : ℕ) → before < l.index
    → MayBeRead (found_at (g.F.Files.found l.fn.files) l.fn.words before)
