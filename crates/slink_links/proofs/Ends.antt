-- What is reported at the end of a fetch.
use Rattle.std.proofs.Common.{◌≡◌, refl, subst, Bool, true, false, ℕ, List, [], ◌∷◌, Option}
use Rattle.mseed_stream.specs.Device.{BytesWritten}
use Rattle.mseed_stream.specs.LineWritten.{WritesLine}
use Rattle.slink_feed.specs.Delivered.{Numbered}
use Rattle.slink_feed.specs.Dialogue.{Wants}
use Rattle.slink_feed.specs.Listening.{Listening}
use Rattle.slink_feed.specs.Reports.{outputs}
use Rattle.slink_feed.specs.Reporter.{AreReported, Reporting, next_line_of, none, one}
use Rattle.slink_feed.specs.Reporter.{reporting_of, wants_left}
use Rattle.slink_feed.specs.Reported.{HasReported}
use Rattle.slink_feed.proofs.Quiet.{nothing_reported}
use Rattle.slink_links.specs.declared.fetching.FetchEnd.{FetchEnd}
use Rattle.slink_links.specs.declared.plan.Server.{Server}
use Rattle.slink_links.specs.declared.trouble.Trouble.{Trouble}
use Rattle.slink_links.specs.EndLines.{Outcome, ReportsOfFetch, outcome}
use Rattle.slink_links.specs.Fetched.{FetchesAll, FetchesReporting, IsQuiet, ReportsOfAll, fetch_status, is_unwritten}
use Rattle.slink_links.specs.Fetched.{next_lines}

-- the arguments of a fetch that goes on, where they are requested
pub next_reported : (called failed unwritten : Bool) (last : Option (ℕ × ℕ)) (wants : Wants) (a b : BytesWritten)
    → called ≡ true → failed ≡ unwritten → WritesLine (next_line_of (wants_left failed last wants)) a b
    → AreReported (next_lines called (wants_left unwritten last wants)) a b
next_reported called failed unwritten last wants a b set same tells =
    rw set (subst (λ (f : Bool). AreReported (next_lines true (wants_left f last wants)) a b) same
    (one (next_line_of (wants_left failed last wants)) [] a b b tells (none b)))

-- nothing but the lines of the end is reported
none_reported : (lines : List (List ℕ)) (a b : BytesWritten) → lines ≡ [] → AreReported lines a b → b ≡ a
none_reported _ _ _ is (none now) = refl
none_reported _ _ _ is (one line lines old now new tells rest) = absurd (let bad : line ∷ lines ≡ [] = is in cc bad)

end_reported : (end : FetchEnd) (known : Outcome) (old new : Wants) (records : List Numbered) (a d : BytesWritten)
    → HasReported false old new records → ReportsOfAll false end known records old new a d
    → ReportsOfFetch known end a d
end_reported end known old new records a d reported all =
    let first = none_reported _ a all.reported (nothing_reported old new records reported) all.lines in
    rw (← none_reported [] all.ended d refl all.next) at (rw first at all.end_lines)

pub end_alone : (end : FetchEnd) (server : Server) (trouble : Option Trouble) (firsts : Bool) (status : ℕ)
    (old new : Listening) (o p a d : BytesWritten)
    → FetchesAll end server trouble firsts status old new o p a d
    → IsQuiet server firsts old.talk.holes new.talk status a d
end_alone end server trouble firsts status old new o p a d f uncalled plain = (
  end,
  trouble,
  f.status_is,
  end_reported end _ old.talk.wants new.talk.wants f.fetched.records a d (rw plain at f.fetched.reported)
      (rw uncalled at f.reports),
)

-- all that is reported
pub all_fetched : (firsts : Bool) (end : FetchEnd) (server : Server) (trouble : Option Trouble) (status : ℕ)
    (old new : Listening) (t u : Reporting)
    (o p a b c d : BytesWritten) → FetchesReporting end old new (outputs o a t) (outputs p b u)
    → t ≡ reporting_of old.talk.wants firsts → status ≡ fetch_status end
    → ReportsOfFetch (outcome server trouble new.talk) end b c
    → AreReported (next_lines firsts (wants_left (is_unwritten end) u.last new.talk.wants)) c d
    → FetchesAll end server trouble firsts status old new o p a d
all_fetched firsts end server trouble status old new t u o p a b c d f begun is ended next =
    record {
      fetched = f.fetched;
      status_is = is;
      reports = record {
        reported = b;
        ended = c;
        lines = rw begun at f.handed_over.lines;
        end_lines = ended;
        next = rw (f.handed_over.reporting, begun) at next;
      };
    }
