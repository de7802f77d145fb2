-- What is reported of records and taken by the output, one after another.
use Rattle.std.proofs.Common.{◌≡◌, ℕ, ◌+◌, ◌<◌, refl, sym, ap, ◌∙◌, arith, List, [], ◌∷◌, ◌++◌, append_assoc}
use Rattle.std.proofs.Common.{append-nil, length, length-append}
use Rattle.mseed_stream.specs.Device.{BytesWritten}
use Rattle.slink_feed.specs.declared.dialogue.Event.{Event}
use Rattle.slink_feed.specs.declared.dialogue.Event.TheVariants as events
use Rattle.slink_feed.specs.declared.fetching.Counts.{Counts}
use Rattle.slink_feed.specs.declared.turn.LinkFault.{LinkFault}
use Rattle.slink_feed.specs.declared.turn.LinkFault.TheVariants as faults
use Rattle.slink_feed.specs.Delivered.{Numbered}
use Rattle.slink_feed.specs.Dialogue.{Talk, heard}
use Rattle.slink_feed.specs.Fetching.{line_written, record_reported}
use Rattle.slink_feed.specs.Listening.{Brings, Listening, begun, whole}
use Rattle.slink_feed.specs.private.Delivery.{IsDelivered, IsReportedOf, IsUndelivered}
use Rattle.slink_feed.specs.Reports.{AreHandedOver, Outputs, Reports, TakesRecords, ReportsRecords, all, but_last}
use Rattle.slink_feed.specs.Reports.{outputs}
use Rattle.slink_feed.specs.Reporter.{ReporterState, AreReported, Reporting, lines_at, lines_of, none, one}
use Rattle.slink_feed.specs.Reporter.{reporting_after, reporting_past}
use Rattle.slink_feed.specs.Reported.{HasReported, bytes_in, record_in}
use Rattle.slink_feed.specs.Turns.{Emitted}
use Rattle.slink_feed.proofs.Noting.{nothing_noted, notes_both}
use Rattle.slink_feed.proofs.Outcomes.{kept_read}
use Rattle.slink_feed.proofs.ReportedOver.{bytes_both, reported_both, reported_none, reported_read}
use Rattle.slink_feed.proofs.Deliveries.{emitted_further, emitted_none, prefix_further}

-- What the output takes of records.
pub takes_none : (old : BytesWritten) → TakesRecords [] old old
takes_none old = all (emitted_none old)

pub takes_both : (a b c : BytesWritten) (some more : List Numbered) → Emitted a b (bytes_in some)
    → TakesRecords more b c
    → TakesRecords (some ++ more) a c
takes_both a b c some more p q = elim q [
  | all emitted ↦ all (emitted_further a b c (bytes_in some) (bytes_in more) _ (bytes_both some more) p emitted)
  | but_last prefix last n is beyond emitted ↦
      but_last (some ++ prefix) last (length (bytes_in some) + n)
      (ap (λ rs. some ++ rs) is ∙ sym (append_assoc some prefix (last ∷ [])))
      (omega (arith, beyond, ap length (bytes_both some prefix), length-append (bytes_in some) (bytes_in prefix)))
      (prefix_further a b c (bytes_in some) (bytes_in more) _ _ n (bytes_both some more) refl p emitted)
]

-- Where the output didn't fail, it accepted all.
pub all_taken : (rs : List Numbered) (a b : BytesWritten) → TakesRecords rs a b → b.failures ≡ a.failures
    → Emitted a b (bytes_in rs)
all_taken rs a b takes fine =
    elim takes [
      | all emitted ↦ emitted
      | but_last prefix last n is beyond emitted ↦
          absurd (omega (arith, emitted.failures, fine))
    ]

-- the bytes of the record that an event reports
pub record_bytes : (e : Event) → record_reported e ≡ bytes_in (record_in e)
record_bytes (events.Record k n bytes) = sym (append-nil bytes)
record_bytes event = refl

-- a line that says something reports no record
pub line_alone : (e : Event) → 0 < length (line_written e) → record_in e ≡ []
line_alone (events.Record k n bytes) some = absurd (omega (arith, some))
line_alone event some = refl

-- an event with bytes for the output reports a record
pub record_alone : (e : Event) → 0 < length (record_reported e) → (r : Numbered) × (record_in e ≡ r ∷ [])
record_alone (events.Record k n bytes) some = (record { place = k; number = n; bytes = bytes }, refl)
record_alone event some = absurd (omega (arith, some))

-- Lines that are reported, one after another.
pub lines_both : (xs ys : List (List ℕ)) (a b c : BytesWritten) → AreReported xs a b → AreReported ys b c
    → AreReported (xs ++ ys) a c
lines_both _ ys _ _ c (none now) more = more
lines_both _ ys _ _ c (one line lines old now new tells rest) more =
    one line (lines ++ ys) old now c tells (lines_both lines ys now new c rest more)

lines_more : (t : Reporting) (some more : List Numbered)
    → lines_of t (some ++ more) ≡ lines_of t some ++ lines_of (reporting_after t some) more
lines_more t [] more = refl
lines_more t (r ∷ rs) more =
    let past : Reporting = reporting_past t r.place r.number in
    let here : List (List ℕ) = lines_at t r.place r.number in
    ap (λ ls. here ++ ls) (lines_more past rs more)
    ∙ sym (append_assoc here (lines_of past rs) (lines_of (reporting_after past rs) more))

after_more : (t : Reporting) (some more : List Numbered)
    → reporting_after t (some ++ more) ≡ reporting_after (reporting_after t some) more
after_more t [] more = refl
after_more t (r ∷ rs) more = after_more (reporting_past t r.place r.number) rs more

-- Records that are reported and taken, one after another.
pub handed_over_none : (a : Outputs) → AreHandedOver [] a a
handed_over_none a = record { emitted = takes_none a.output; reporting = refl; lines = none a.errors }

pub handed_over_both : (some more : List Numbered) (a b c : Outputs) → AreHandedOver some a b
    → b.output.failures ≡ a.output.failures → AreHandedOver more b c → AreHandedOver (some ++ more) a c
handed_over_both some more a b c p fine q = record {
  emitted = takes_both a.output b.output c.output some more (all_taken some a.output b.output p.emitted fine) q.emitted;
  reporting = q.reporting ∙ (ap (λ t. reporting_after t more) p.reporting ∙ sym (after_more a.reporting some more));
  lines = rw (lines_more a.reporting some more) (lines_both _ _ _ _ _ p.lines (rw p.reporting at q.lines));
}

pub reports_none : (t : Talk) (a : Outputs) → Reports t t a a
reports_none t a = record {
  records = [];
  reported = reported_none t.holes t.wants;
  holes = refl;
  handed_over = handed_over_none a;
}

pub reports_both : (old now new : Talk) (a b c : Outputs) → Reports old now a b → b.output.failures ≡ a.output.failures
    → Reports now new b c → Reports old new a c
reports_both old now new a b c p fine q = record {
  records = p.records ++ q.records;
  reported = reported_both old.holes old.wants now.wants new.wants p.records q.records p.reported
      (rw p.holes at q.reported);
  holes = q.holes ∙ p.holes;
  handed_over = handed_over_both p.records q.records a b c p.handed_over fine q.handed_over;
}

-- What one who reports records has reported, one call after another.
pub noted_none : (t : Talk) (reporter : ReporterState) (output errors : BytesWritten)
    → ReportsRecords t t reporter reporter output output errors errors
noted_none t reporter output errors = record {
  received = nothing_noted reporter.received output;
  reports = reports_none t (outputs output errors reporter.reporting);
}

pub noted_both : (old now new : Talk) (r s t : ReporterState) (a b c d e f : BytesWritten)
    → ReportsRecords old now r s a b d e
    → b.failures ≡ a.failures → ReportsRecords now new s t b c e f → ReportsRecords old new r t a c d f
noted_both old now new r s t a b c d e f p fine q = record {
  received = notes_both r.received s.received t.received a b c fine p.received q.received;
  reports = reports_both _ _ _ _ _ _ p.reports fine q.reports;
}

-- What an event reports.
reported_event : (talk : Talk) (bytes : List ℕ) (new : Listening) (event : Event) → Brings talk bytes new event
    → HasReported talk.holes talk.wants new.talk.wants (record_in event)
reported_event talk bytes new event (whole w is h nothing) = rw h at (reported_read talk bytes w is)
reported_event talk bytes new event (begun is same quiet) = rw (quiet, same) (reported_none talk.holes talk.wants)

-- It doesn't change whether the client goes past holes.
pub kept_event : (talk : Talk) (bytes : List ℕ) (new : Listening) (event : Event) → Brings talk bytes new event
    → new.talk.holes ≡ talk.holes
kept_event talk bytes new event (whole w is h nothing) =
    ap (λ (x : Talk × Event). x.0.holes) (sym h) ∙ kept_read (heard w talk) talk.stage w
kept_event talk bytes new event (begun is same quiet) = ap (λ (l : Listening). l.talk.holes) same

-- What the output takes of it.
pub takes_event : (event : Event) (before after : Counts) (w w' o o' : BytesWritten)
    → IsDelivered event before after w w' o o' → TakesRecords (record_in event) o o'
takes_event event before after w w' o o' done = all (rw (record_bytes event) at done.output)

pub takes_cut : (fault : LinkFault) (event : Event) (before : Counts) (w w' o o' : BytesWritten)
    → IsUndelivered fault event before w w' o o' → TakesRecords (record_in event) o o'
takes_cut faults.Read event before w w' o o' cut = absurd cut
takes_cut (faults.Write count) event before w w' o o' cut =
    let quiet : record_in event ≡ [] = line_alone event (omega (arith, cut.failing.part)) in
    rw (quiet, cut.other) (takes_none o)
takes_cut (faults.Output count) event before w w' o o' cut =
    let alone = record_alone event (omega (arith, cut.failing.part)) in
    but_last [] alone.0 cut.more alone.1 (omega arith)
    (rw (record_bytes event) at cut.failing)

-- one event more
pub reports_more : (first talk : Talk) (new : Listening) (bytes : List ℕ) (event : Event) (a b c : Outputs)
    → Reports first talk a b → b.output.failures ≡ a.output.failures → Brings talk bytes new event
    → TakesRecords (record_in event) b.output c.output → IsReportedOf event b c → Reports first new.talk a c
reports_more first talk new bytes event a b c p fine brings emitted reported =
    reports_both first talk new.talk a b c p fine
    (record {
      records = record_in event;
      reported = reported_event talk bytes new event brings;
      holes = kept_event talk bytes new event brings;
      handed_over = record { emitted = emitted; reporting = reported.reporting; lines = reported.lines };
    })
