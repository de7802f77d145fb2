-- How what is kept of a channel is joined with what is kept of its further records.
use Rattle.std.specs.Prelude.{ℕ, ◌+◌, Option, Some, None}
use Rattle.std.specs.Option.{option_map}
use Rattle.mseed_audit.specs.declared.finding.Finding.{Finding}
use Rattle.mseed_audit.specs.declared.finding.Why.{Why}
use Rattle.mseed_audit.specs.declared.channel.Channel.{Channel}
use Rattle.mseed_audit.specs.declared.channel.Findings.{Findings}
use Rattle.mseed_audit.specs.declared.channel.Findings.TheVariants.{Nothing, Counted}
use Rattle.mseed_audit.specs.declared.channel.Head.{Head}
use Rattle.mseed_audit.specs.declared.tail.Tail.{Tail}
use Rattle.mseed_audit.specs.Audit.{break_by, head_in, tail_in}

-- what is kept of a record, with `d` more records and `e` more bytes before it
abbrev pub moved_head : ℕ → ℕ → Head → Head
moved_head d e h = record { number = d + h.number; offset = e + h.offset; start = h.start; rate = h.rate }

abbrev pub moved_finding : ℕ → ℕ → Finding → Finding
moved_finding d e f = record { number = d + f.number; offset = e + f.offset; why = f.why }

abbrev pub moved_findings : ℕ → ℕ → Findings → Findings
moved_findings d e (Nothing head tail) = Nothing (moved_head d e head) tail
moved_findings d e (Counted count first head tail) =
    Counted count (moved_finding d e first) (option_map (moved_head d e) head) tail

-- and of a channel
abbrev pub moved_channel : ℕ → ℕ → Channel → Channel
moved_channel d e c = record { records = c.records; samples = c.samples; findings = moved_findings d e c.findings }

abbrev pub found_at : Head → Option Why → Option Finding
found_at h None = None
found_at h (Some why) = Some (record { number = h.number; offset = h.offset; why = why })

-- what is found between two records, where the end of the first is known and nothing is found of the second alone
abbrev pub border_of : Option Tail → Option Head → Option Finding
border_of None h = None
border_of (Some t) None = None
border_of (Some t) (Some h) = found_at h (break_by t h.start h.rate)

-- the findings of both, with what is found between them
abbrev pub findings_with : Findings → Findings → Option Finding → Findings
findings_with (Nothing head t) (Nothing h tail) None = Nothing head tail
findings_with (Nothing head t) (Nothing h tail) (Some border) = Counted 1 border (Some head) (Some tail)
findings_with (Nothing head t) (Counted n first h tail) None = Counted n first (Some head) tail
findings_with (Nothing head t) (Counted n first h tail) (Some border) = Counted (1 + n) border (Some head) tail
findings_with (Counted m first head t) (Nothing h tail) None = Counted m first head (Some tail)
findings_with (Counted m first head t) (Nothing h tail) (Some border) = Counted (m + 1) first head (Some tail)
findings_with (Counted m first head t) (Counted n next h tail) None = Counted (m + n) first head tail
findings_with (Counted m first head t) (Counted n next h tail) (Some border) = Counted (m + (1 + n)) first head tail

abbrev pub findings_after : Findings → Findings → Findings
findings_after a b = findings_with a b (border_of (tail_in a) (head_in b))

-- a channel, and its further records after
abbrev pub channel_then : Channel → Channel → Channel
channel_then c o = record {
  records = c.records + o.records;
  samples = c.samples + o.samples;
  findings = findings_after c.findings o.findings;
}

-- of a channel something is kept in both, in one or in neither
abbrev pub channel_joined : Option Channel → Option Channel → Option Channel
channel_joined None o = o
channel_joined (Some c) None = Some c
channel_joined (Some c) (Some o) = Some (channel_then c o)

-- what is found between a channel and its further records
abbrev pub border_between : Option Channel → Channel → Option Finding
border_between None o = None
border_between (Some c) o = border_of (tail_in c.findings) (head_in o.findings)
