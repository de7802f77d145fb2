use Rattle.std.proofs.Common.{◌≡◌, ℕ, ◌+◌, ◌<◌, ◌++◌, List, length, take, Result, Ok, Err, OnOk, OnErr, IfErr, inl, inr}
use Rattle.mseed_stream.specs.Device.{BytesWritten}
use Rattle.mseed_stream.specs.LineWritten.{WritesLine}
use Rattle.mseed_stream.proofs.reporting.report.Goals as goal

-- the whole line, or a prefix of it where the device failed
reported : {U : Type 0} (r : Result U ℕ) (line : List ℕ) (old new : BytesWritten)
    → OnOk r (new.bytes ≡ old.bytes ++ line)
    → OnOk r (new.failures ≡ old.failures)
    → IfErr r (λ n. new.bytes ≡ old.bytes ++ take n line) → IfErr r (λ n. n < length line)
    → OnErr r (new.failures ≡ old.failures + 1) → WritesLine line old new
reported (Ok u) line old new all fine prefix part failed =
    record { either = inl (record { text = all; fine = fine }) }
reported (Err n) line old new all fine prefix part failed =
    record { either = inr (record { prefix = (n, (part, prefix)); failed = failed }) }

pub returns : goal.returns
returns g c =
    let e = c.write_all_of.ensures in
    reported _ _ _ _ e.ok e.fine e.err e.within e.failed
