-- What is reported at the end of a fetch: a line that says how it ended, and one more that says why.
use Rattle.std.specs.Prelude.{◌≡◌, ℕ, ◌==◌, List, [], ◌∷◌, ◌++◌, Option, Some, None, bytes_eq, codes, decimal}
use Rattle.std.specs.Prelude.{IsUtf8, if◌then◌else◌}
use Rattle.std.specs.Option.{option_map}
use Rattle.std.specs.Net.Text.{ipv4_text}
use Rattle.mseed_text.specs.Name.{code_text}
use Rattle.mseed_text.specs.Shown.{shown}
use Rattle.mseed_stream.specs.Device.{BytesWritten}
use Rattle.mseed_stream.specs.LineWritten.{WritesLine}
use Rattle.slink_wire.specs.Hexadecimal.{hexadecimal}
use Rattle.slink_wire.specs.Hosts.{name_of}
use Rattle.slink_wire.specs.Place.{label_of}
use Rattle.slink_wire.specs.declared.host.Host.{Host}
use Rattle.slink_wire.specs.declared.host.Host.TheVariants as hosts
use Rattle.slink_feed.specs.Dialogue.{Talk, want_at}
use Rattle.slink_feed.specs.Endings.{ending_at}
use Rattle.slink_feed.specs.Reporter.{AreReported, named_number}
use Rattle.slink_feed.specs.declared.dialogue.Ending.{Ending}
use Rattle.slink_feed.specs.declared.dialogue.Ending.TheVariants as endings
use Rattle.slink_feed.specs.declared.dialogue.Wanted.{Wanted}
use Rattle.slink_links.specs.Trouble.{dial_text, loss_text}
use Rattle.slink_links.specs.declared.fetching.FetchEnd.{FetchEnd}
use Rattle.slink_links.specs.declared.fetching.FetchEnd.TheVariants.{Done, Refused, BadFeed, WriteFailed, LinkFailed}
use Rattle.slink_links.specs.declared.plan.Server.{Server}
use Rattle.slink_links.specs.declared.trouble.Trouble.{Trouble}
use Rattle.slink_links.specs.declared.trouble.Trouble.TheVariants.{Undialled, Lost}

-- what a reply says, where it is more than that it refuses: none is left out, too
abbrev pub reply_words : List ℕ → List ℕ
reply_words [] = []
reply_words reply = if bytes_eq reply (codes "ERROR") then [] else codes ": " ++ shown reply

-- a line about the reply to a station, with the number that was wanted, if one was
abbrev pub reply_line : List ℕ → Wanted → List ℕ → List ℕ
reply_line words w reply = codes "mseed: " ++ label_of w.place ++ named_number (codes " from ") w.next ++ words
    ++ reply_words reply ++ codes "\n"

-- a station that the server refused
abbrev pub refused_line : Wanted → List ℕ → List ℕ
refused_line w reply = reply_line (codes ": the server refuses it") w reply

-- a station of which another record came than the one that was wanted
abbrev pub gap_line : ℕ → ℕ → Wanted → List ℕ
gap_line want got w = codes "mseed: " ++ label_of w.place ++ codes ": record " ++ hexadecimal 6 want
    ++ codes " was wanted, and " ++ hexadecimal 6 got ++ codes " came\n"

-- a station about which no reply came that says whether it is granted
abbrev pub unanswered_line : Wanted → List ℕ → List ℕ
unanswered_line w reply = reply_line (codes ": the reply is neither OK nor ERROR") w reply

-- bytes that begin no packet, and aren't the end, after `packets` packets
abbrev pub garbage_line : ℕ → List ℕ
garbage_line packets = codes "mseed: bytes came that are neither a packet nor the end, after " ++ decimal packets
    ++ (if packets == 1 then codes " packet\n" else codes " packets\n")

-- a record of another station, by the codes of its header
abbrev pub foreign_line : List ℕ → List ℕ → List ℕ
foreign_line station network = codes "mseed: a record of " ++ code_text network ++ codes "_" ++ code_text station
    ++ codes " came, which is none of the stations\n"

-- what more is said of the end that a client has come to
abbrev pub line_by : Talk → Option Ending → Option (List ℕ)
line_by t None = None
line_by t (Some endings.End) = None
line_by t (Some (endings.Refused k)) = option_map (λ w. refused_line w t.reply) (want_at t.wants k)
line_by t (Some (endings.Gap k want got)) = option_map (gap_line want got) (want_at t.wants k)
line_by t (Some (endings.Unanswered k)) = option_map (λ w. unanswered_line w t.reply) (want_at t.wants k)
line_by t (Some endings.Garbage) = Some (garbage_line t.packets)
line_by t (Some (endings.Foreign station network)) = Some (foreign_line station network)

abbrev pub ending_line : Talk → Option (List ℕ)
ending_line t = line_by t (ending_at t.stage)

-- a line, and one more if there is one
abbrev pub with_more : List ℕ → Option (List ℕ) → List (List ℕ)
with_more line None = line ∷ []
with_more line (Some more) = line ∷ more ∷ []

-- a host as it is shown: an address as it is written, or the name that was given
abbrev pub IsShownHost : Host → List ℕ → Type 0
IsShownHost (hosts.Address address) text = text ≡ ipv4_text address.octets
IsShownHost (hosts.Name name) text = (given : List ℕ) × IsUtf8 given × (name_of given ≡ Some name)
    × (text ≡ shown given)

-- a line about a server, by what stands before its host and what after its port
abbrev pub server_line : List ℕ → List ℕ → ℕ → List ℕ → List ℕ
server_line before host port words = before ++ host ++ codes ":" ++ decimal port ++ codes ": " ++ words ++ codes "\n"

-- what went wrong in a try, with the host and the port
abbrev pub trouble_line : List ℕ → ℕ → Trouble → List ℕ
trouble_line host port (Undialled fault) =
    server_line (codes "mseed: cannot connect to ") host port (dial_text fault)
trouble_line host port (Lost loss) =
    server_line (codes "mseed: lost the connection to ") host port (loss_text loss)

-- what is known of the end of a fetch: which server was asked, what went wrong in the last try, if one was made, and
-- what the client has come to
pub record Outcome : Type 0 where
  pub server : Server
  pub trouble : Option Trouble
  pub talk : Talk

abbrev pub outcome : Server → Option Trouble → Talk → Outcome
outcome server trouble talk = record { server = server; trouble = trouble; talk = talk }

-- What went wrong in the last try was reported, if one was made.
abbrev pub ReportsTrouble : Server → Option Trouble → BytesWritten → BytesWritten → Type 0
ReportsTrouble server None old new = new ≡ old
ReportsTrouble server (Some trouble) old new = (host : List ℕ) → IsShownHost server.host host
    → WritesLine (trouble_line host server.port trouble) old new

-- The links failed: this was reported, and why the last one did.
pub record ReportsLinkFailed (server : Server) (trouble : Option Trouble) (old new : BytesWritten) : Type 0 where
  pub reported : BytesWritten
  pub line : WritesLine (codes "mseed: link failed\n") old reported
  pub more : ReportsTrouble server trouble reported new

-- The lines of an end were written, if it has some.
abbrev pub ReportsOfFetch : Outcome → FetchEnd → BytesWritten → BytesWritten → Type 0
ReportsOfFetch o Done old new = new ≡ old
ReportsOfFetch o Refused old new = AreReported (with_more (codes "mseed: refused\n") (ending_line o.talk)) old new
ReportsOfFetch o BadFeed old new = AreReported (with_more (codes "mseed: bad feed\n") (ending_line o.talk)) old new
ReportsOfFetch o WriteFailed old new = WritesLine (codes "mseed: write failed\n") old new
ReportsOfFetch o LinkFailed old new = ReportsLinkFailed o.server o.trouble old new
