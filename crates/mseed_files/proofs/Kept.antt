-- A record of what was read is one of whatever is read after it.
use Rattle.std.proofs.Common.{◌≡◌, ◌≤◌, ◌++◌, ℕ, List, Option, Some, None, IfSome, length, drop, ap}
use Rattle.std.proofs.Common.{arith, length-append, length-drop}
use Rattle.std.proofs.lemmas.List.{drop-append-le, take-append-le}
use Rattle.mseed_stream.specs.Device.{HasRecordAt}
use Rattle.mseed_files.specs.declared.tracked_source.Cut.{Cut}

record_stays : (old new more : List ℕ) (offset size : ℕ) → new ≡ old ++ more → HasRecordAt old offset size
    → HasRecordAt new offset size
record_stays old new more offset size grown has =
    let within : offset ≤ length old = omega (arith, has.inside) in
    let fits : size ≤ length (drop offset old) = omega (arith, has.inside, length-drop offset old) in
    record {
      inside = omega (arith, has.inside, ap length grown, length-append old more);
      is_record = rw (grown, drop-append-le offset old more within, take-append-le size (drop offset old) more fits)
          has.is_record;
    }

-- so is the one that is kept
pub kept_stays : (last : Option Cut) (old new more : List ℕ) → new ≡ old ++ more
    → IfSome last (λ cut. HasRecordAt old cut.offset cut.size)
    → IfSome last (λ cut. HasRecordAt new cut.offset cut.size)
kept_stays None old new more grown has = tt
kept_stays (Some cut) old new more grown has = record_stays old new more cut.offset cut.size grown has
