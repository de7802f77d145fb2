-- How much a read has to do yet.
use Rattle.std.specs.Prelude.{ℕ, ◌+◌, ◌-◌, ◌*◌, length, if◌then◌else◌}
use Rattle.mseed_files.specs.ReaderState.{ReaderState}

-- how many files are to be opened or closed yet
abbrev pub steps_left : ReaderState → ℕ
steps_left s = 2 * (length s.contents - length s.begins) + (if s.is_open then 1 else 0)
