use Rattle.std.proofs.Common.{◌≡◌, ◌∙◌, arith, ap, not, refl, sym}
use Rattle.mseed_files.specs.ChainState.{ChainState}
use Rattle.mseed_files.specs.Found.{contents_of}
use Rattle.mseed_stream.specs.Device.{nothing_read}
use Rattle.mseed.proofs.ReadFiles.{named_is, named_reported, read_files, unnamed_reported}
use Rattle.mseed.proofs.files.run_over_files.Goals.{then-is_empty, else-is_empty}
use Rattle.mseed.proofs.files.run_over_files.Goals as goal

pub returns-clause-ok : goal.returns-clause-ok
returns-clause-ok g c =
    let found = g.F.Files.found c.args.files.now in
    let old : ChainState = c.new-input.result in
    let new : ChainState = c.run-ended.new.input in
    let unread = c.new-input.ensures ∙ c.in-Ok.ensures in
    let none : old.read ≡ nothing_read = ap (λ (s : ChainState). s.read) unread in
    let run = rw none at c.run-ended.ensures.called in
    let read = read_files (contents_of found c.args.names.now) (g.F.Files.failures c.args.files.now) old new unread
    c.run-ended.ensures.reads in
    let named = named_is c.args.command.now.files.items _ c.is_empty.result c.is_empty.ensures
    (omega (arith, c.args.command.now.files.ok)) in
    elim c.if-is_empty.branch [
      | then-is_empty w ↦ (
        new.read,
        record {
          ended = c.run-ended.result;
          reported = g.E.Sink.written c.run-ended.new.errors;
          files = new;
          carried_out = run;
          status_is = refl;
          read = read;
          blames = unnamed_reported _ _ _ _ _ _ _ (sym named ∙ ap not w.if-is_empty.true)
              (ap (λ e. g.E.Sink.written e) w.errors-is) w.report_reason.ensures;
        },
      )
      | else-is_empty w ↦ (
        new.read,
        record {
          ended = c.run-ended.result;
          reported = g.E.Sink.written c.run-ended.new.errors;
          files = new;
          carried_out = run;
          status_is = refl;
          read = read;
          blames = named_reported _ _ _ _ _ _ _ (sym named ∙ ap not w.if-is_empty.false)
              (ap (λ e. g.E.Sink.written e) w.errors-is) w.report_blame.ensures;
        },
      )
    ]
