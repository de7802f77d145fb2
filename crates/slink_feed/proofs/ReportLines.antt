-- The lines of a record, and those of what is wanted next.
use Rattle.std.proofs.Common.{◌≡◌, ℕ, ◌+◌, zero, suc, sym, arith, Bool, false}
use Rattle.std.proofs.Common.{List, [], ◌∷◌, ◌++◌, append_assoc, append-nil, Option}
use Rattle.std.proofs.Common.{◌<◌, get_or, length, take, slice_get}
use Rattle.std.proofs.Common.{unwrap_or}
use Rattle.mseed_stream.specs.Device.{BytesWritten}
use Rattle.mseed_stream.specs.LineWritten.{WritesLine}
use Rattle.slink_feed.specs.declared.dialogue.Event.{Event}
use Rattle.slink_feed.specs.declared.dialogue.Wanted.{Wanted}
use Rattle.slink_feed.specs.Dialogue.{Wants, want_at}
use Rattle.slink_feed.specs.Reporter.{AreReported, Reporting, first_lines, hole_lines}
use Rattle.slink_feed.specs.Reporter.{lines_at, lines_of, none, one, word_of, words_of}
use Rattle.slink_feed.specs.Reported.{record_in}
use Rattle.slink_feed.proofs.Reporting.{lines_both}

-- a line, by its text
pub reported_line : (line text : List ℕ) (a b : BytesWritten) → line ≡ text → WritesLine line a b
    → AreReported (text ∷ []) a b
reported_line line text a b same tells = one text [] a b b (rw same at tells) (none b)

-- the lines of a record
pub lines_reported : (t : Reporting) (k number : ℕ) (o : Option Wanted) (first : Bool) (a b c : BytesWritten)
    → o ≡ want_at t.wants k → first ≡ unwrap_or (slice_get t.firsts k) false → AreReported (hole_lines o number) a b
    → AreReported (first_lines first o number) b c → AreReported (lines_at t k number) a c
lines_reported t k number o first a b c is set hole reported =
    rw is at (rw set at (lines_both (hole_lines o number) (first_lines first o number) a b c hole reported))

-- nothing is reported of what reports no record
pub unreported : (t : Reporting) (e : Event) (now : BytesWritten) → record_in e ≡ []
    → AreReported (lines_of t (record_in e)) now now
unreported t e now quiet = rw quiet (none now)

-- one station more
pub words_more : (ws : Wants) (i : ℕ) (d : Option Wanted) → i < length ws
    → words_of (take (i + 1) ws) ≡ words_of (take i ws) ++ word_of (get_or ws i d)
words_more [] i d lt = absurd (omega (arith, lt))
words_more (x ∷ xs) zero d lt = append-nil (word_of x)
words_more (x ∷ xs) (suc i) d lt =
    let next : suc i + 1 ≡ suc (i + 1) = omega arith in
    rw (next, words_more xs i d (omega (arith, lt)))
    (sym (append_assoc (word_of x) (words_of (take i xs)) (word_of (get_or xs i d))))

pub first_is : (ws : Wants) (o : Option Wanted) → 0 < length ws → o ≡ get_or ws 0 o → o ≡ want_at ws 0
first_is [] o some is = absurd (omega (arith, some))
first_is (x ∷ xs) o some is = is
