-- What is reported on standard error of records before they are written, and of what is wanted next.
use Rattle.std.specs.Prelude.{ℕ, Bool, true, false, ◌+◌, ◌%◌, ◌^◌, ◌==◌, List, [], ◌∷◌, ◌++◌, codes, replicate}
use Rattle.std.specs.Prelude.{drop, Option, Some, None, slice_get, slice_set, unwrap_or, if◌then◌else◌}
use Rattle.mseed_stream.specs.Device.{BytesWritten}
use Rattle.mseed_stream.specs.LineWritten.{WritesLine}
use Rattle.slink_wire.specs.Hexadecimal.{hexadecimal}
use Rattle.slink_wire.specs.Place.{Fields, code_in, label_of}
use Rattle.slink_feed.specs.declared.dialogue.Wanted.{Wanted}
use Rattle.slink_feed.specs.Delivered.{Numbered}
use Rattle.slink_feed.specs.Dialogue.{Wants, want_at, with_next}

-- Lines were written, each as far as the device accepted it.
pub data AreReported : List (List ℕ) → BytesWritten → BytesWritten → Type 0 where
  none : (now : BytesWritten) → AreReported [] now now
  one : (line : List ℕ) (lines : List (List ℕ)) (old now new : BytesWritten) → WritesLine line old now
      → AreReported lines now new → AreReported (line ∷ lines) old new

-- what is reported of records: which number each station wants next, of which stations the first record is to be
-- reported, and the last record that was reported, by the index of its station and its number
pub record Reporting : Type 0 where
  pub wants : List (Option Wanted)
  pub firsts : List Bool
  pub last : Option (ℕ × ℕ)

-- before the first record
abbrev pub reporting_of : Wants → Bool → Reporting
reporting_of wants firsts = record { wants = wants; firsts = replicate 16 firsts; last = None }

-- the line of a station's first record
abbrev pub first_line : Fields → ℕ → List ℕ
first_line place number = codes "mseed: first " ++ label_of place ++ codes ":" ++ hexadecimal 6 number ++ codes "\n"

-- the line of a record that comes after a hole: the number that was wanted, and the one that came
abbrev pub hole_line : Fields → ℕ → ℕ → List ℕ
hole_line place want got = codes "mseed: hole " ++ label_of place ++ codes " " ++ hexadecimal 6 want ++ codes " "
    ++ hexadecimal 6 got ++ codes "\n"

-- the lines of a record of a station
abbrev pub if_other : Fields → Option ℕ → ℕ → List (List ℕ)
if_other place None got = []
if_other place (Some want) got = if got == want then [] else hole_line place want got ∷ []

abbrev pub hole_lines : Option Wanted → ℕ → List (List ℕ)
hole_lines None number = []
hole_lines (Some w) number = if_other w.place w.next number

abbrev pub first_lines : Bool → Option Wanted → ℕ → List (List ℕ)
first_lines false want number = []
first_lines true None number = []
first_lines true (Some w) number = first_line w.place number ∷ []

abbrev pub lines_at : Reporting → ℕ → ℕ → List (List ℕ)
lines_at t k number = hole_lines (want_at t.wants k) number
    ++ first_lines (unwrap_or (slice_get t.firsts k) false) (want_at t.wants k) number

-- what is reported from there on
abbrev pub reporting_past : Reporting → ℕ → ℕ → Reporting
reporting_past t k number = record {
  wants = with_next t.wants k ((number + 1) % 2 ^ 24);
  firsts = slice_set t.firsts k false;
  last = Some (k, number);
}

-- records, one after another
abbrev pub lines_of : Reporting → List Numbered → List (List ℕ)
lines_of t [] = []
lines_of t (r ∷ rs) = lines_at t r.place r.number ++ lines_of (reporting_past t r.place r.number) rs

abbrev pub reporting_after : Reporting → List Numbered → Reporting
reporting_after t [] = t
reporting_after t (r ∷ rs) = reporting_after (reporting_past t r.place r.number) rs

-- the arguments that name a number, where one is known
abbrev pub named_number : List ℕ → Option ℕ → List ℕ
named_number name None = []
named_number name (Some n) = name ++ hexadecimal 6 n

-- the options that name the first station
abbrev pub options_of : Option Wanted → List ℕ
options_of None = []
options_of (Some w) = codes " --network " ++ code_in w.place.network ++ codes " --station " ++ code_in w.place.station
    ++ named_number (codes " --from ") w.next

-- the word that names a further station
abbrev pub word_of : Option Wanted → List ℕ
word_of None = []
word_of (Some w) = codes " " ++ label_of w.place ++ named_number (codes ":") w.next

abbrev pub words_of : Wants → List ℕ
words_of [] = []
words_of (w ∷ ws) = word_of w ++ words_of ws

-- the arguments of a `fetch` that goes on with these stations
abbrev pub next_line : Option Wanted → Wants → List ℕ
next_line first others = codes "mseed: next" ++ options_of first ++ words_of others ++ codes "\n"

abbrev pub next_line_of : Wants → List ℕ
next_line_of wants = next_line (want_at wants 0) (drop 1 wants)

-- what is wanted then: where the output failed, the last record that was reported again
abbrev pub wants_left : Bool → Option (ℕ × ℕ) → Wants → Wants
wants_left failed None wants = wants
wants_left false (Some last) wants = wants
wants_left true (Some last) wants = with_next wants last.0 last.1

-- what one who reports records has come to: what is reported, and whether the output accepted a whole record since it
-- was called to note that
pub record ReporterState : Type 0 where
  pub reporting : Reporting
  pub received : Bool
