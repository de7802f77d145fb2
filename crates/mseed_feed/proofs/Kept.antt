-- The lines of the rings of which more records came than they keep.
use Rattle.std.proofs.Common.{◌≡◌, ℕ, ◌+◌, zero, suc, refl, ap, ◌∙◌, arith}
use Rattle.std.proofs.Common.{List, [], ◌∷◌, ◌++◌, append_assoc, append-nil, length, map}
use Rattle.std.proofs.Common.{Some, slice_get, take}
use Rattle.mseed_stream.specs.Device.{BytesWritten}
use Rattle.slink_wire.specs.Place.{Fields}
use Rattle.slink_feed.specs.Reporter.{AreReported}
use Rattle.slink_feed.specs.Window.{Window}
use Rattle.slink_feed.proofs.Reporting.{lines_both}
use Rattle.mseed_words.specs.declared.request.Serving.{Serving}
use Rattle.mseed_feed.specs.Filling.{records_of, ring_of}
use Rattle.mseed_feed.specs.Plans.{came_to, keeps_lines, lines_by_records, ring_lines}

-- the lines of one ring more
kept_more : (s : Serving) (feed : List Window) (k : ℕ) (w : Window) → slice_get feed k ≡ Some w
    → keeps_lines s (take (suc k) feed) ≡ keeps_lines s (take k feed) ++ ring_lines s w
kept_more s [] k w there = absurd (cc there)
kept_more s (x ∷ xs) zero w there =
    let same : x ≡ w = cc there in append-nil (ring_lines s x) ∙ ap (ring_lines s) same
kept_more s (x ∷ xs) (suc k) w there =
    rw (kept_more s xs k w there, append_assoc (ring_lines s x) (keeps_lines s (take k xs)) (ring_lines s w)) refl

pub reported_more : (s : Serving) (feed : List Window) (k : ℕ) (w : Window) (a b c : BytesWritten)
    → slice_get feed k ≡ Some w → AreReported (keeps_lines s (take k feed)) a b → AreReported (ring_lines s w) b c
    → AreReported (keeps_lines s (take (k + 1) feed)) a c
reported_more s feed k w a b c there before more =
    let next : k + 1 ≡ suc k = omega arith in
    rw (next, kept_more s feed k w there) (lines_both _ _ a b c before more)

-- So many records came to a ring as there are of its station.
all_came : (s : Serving) (rs : List (List ℕ)) (p : Fields) → came_to s (ring_of s rs p) ≡ length (records_of p rs)
all_came s rs p = omega arith

pub by_records : (s : Serving) (rs : List (List ℕ)) (ps : List Fields)
    → keeps_lines s (map (ring_of s rs) ps) ≡ lines_by_records s rs ps
by_records s rs [] = refl
by_records s rs (p ∷ ps) =
    rw (all_came s rs p, by_records s rs ps) refl
