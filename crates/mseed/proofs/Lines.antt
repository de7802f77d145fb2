-- Lines on standard error, one after another.
use Rattle.std.proofs.Common.{List, ℕ, [], ◌∷◌, ◌++◌, refl, sym, subst}
use Rattle.mseed_repack.specs.ByStretches.{ReportsEach, also, silent}
use Rattle.mseed_stream.specs.Device.{BytesWritten}
use Rattle.mseed_stream.specs.LineWritten.{WritesLine}
use Rattle.mseed.specs.Outcome.{ReportsLines}

-- some lines, and then others
both_reported : (lines more : List (List ℕ)) (old between new : BytesWritten) → ReportsLines lines old between
    → ReportsLines more between new → ReportsLines (lines ++ more) old new
both_reported [] more old between new first then =
    subst (λ (s : BytesWritten). ReportsLines more s new) first then
both_reported (line ∷ []) [] old between new first then =
    subst (λ (s : BytesWritten). WritesLine line old s) (sym then) first
both_reported (line ∷ []) (next ∷ more) old between new first then = (between, (first, then))
both_reported (line ∷ next ∷ lines) more old between new first then =
    (first.0, (first.1.0, both_reported (next ∷ lines) more first.0 between new first.1.1 then))

-- lines that were reported, each behind the others
pub each_reported : (lines : List (List ℕ)) (old new : BytesWritten) → ReportsEach lines old new
    → ReportsLines lines old new
each_reported _ old _ (silent s) = refl
each_reported _ old _ (also lines line _ between new first then) =
    both_reported lines (line ∷ []) old between new (each_reported lines old between first) then

-- and then others
pub reported_behind : (lines more : List (List ℕ)) (old between new : BytesWritten) → ReportsEach lines old between
    → ReportsLines more between new → ReportsLines (lines ++ more) old new
reported_behind lines more old between new first then =
    both_reported lines more old between new (each_reported lines old between first) then
