-- What is found where parts are joined, between a channel and its further records, and the lines of it.
use Rattle.std.specs.Prelude.{ℕ, List, [], ◌∷◌, ◌++◌, codes, decimal, Bool}
use Rattle.mseed_time.specs.Text.{time_text}
use Rattle.mseed_text.specs.Name.{name_text}
use Rattle.mseed_text.specs.Time.{start_by}
use Rattle.mseed_audit.specs.Text.{why_text}
pub use Rattle.mseed_join.specs.PartBorders.{Border, border_at, border_with, borders_with}
use Rattle.mseed_join.specs.Notices.{Notice}
use Rattle.mseed_join.specs.Joined.{AreJoined, counted, nothing}
use Rattle.mseed_join.specs.Written.{Written}

-- what is found at the borders of parts after others, part after part: each is joined to all before it
pub data AreBorders : List Written → List Written → List Border → Type 0 where
  none : (before : List Written) → AreBorders before [] []
  one : (before : List Written) (a w : Written) (ws : List Written) (found : List Border) → AreJoined nothing before a
      → AreBorders (before ++ w ∷ []) ws found
      → AreBorders before (w ∷ ws) (borders_with a.part w.part.channels ++ found)

-- of all parts that count
abbrev pub AreBordersOf : Bool → List Written → List Border → Type 0
AreBordersOf past ws found = AreBorders [] (counted past ws) found

-- ---- their lines
-- <offset> <name> record <number> start <time> <why>
abbrev pub border_line : Border → List ℕ
border_line b =
    decimal b.finding.offset ++ codes " " ++ name_text b.key ++ codes " record " ++ decimal b.finding.number
    ++ codes " start " ++ time_text b.start ++ codes " " ++ why_text b.finding.why ++ codes "\n"

abbrev pub border_lines : List Border → List ℕ
border_lines [] = []
border_lines (b ∷ bs) = border_line b ++ border_lines bs

-- and of all findings that are reported: of a record whose start is refused, the fault stands in its place
abbrev pub notice_line : Notice → List ℕ
notice_line n =
    decimal n.finding.offset ++ codes " " ++ name_text n.key ++ codes " record " ++ decimal n.finding.number
    ++ codes " start " ++ start_by n.fault n.start ++ codes " " ++ why_text n.finding.why ++ codes "\n"

abbrev pub notice_lines : List Notice → List ℕ
notice_lines [] = []
notice_lines (n ∷ ns) = notice_line n ++ notice_lines ns
