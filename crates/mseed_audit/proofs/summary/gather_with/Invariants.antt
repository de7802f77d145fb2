use Rattle.std.proofs.Common.{◌≡◌, ◌+◌, ◌-◌, ◌^◌}
use Rattle.mseed_stream.specs.Cutting.{GivesMore}
use Rattle.mseed_audit.specs.private.Gathered.{HasJudged}
use Rattle.mseed_audit.proofs.summary.gather_with.Given as goal

abbrev pub invariant-records : goal.invariant-records
invariant-records g l = record {
  judged : HasJudged (g.C.Choice.selection l.fn.choice) (g.R.Source.read l.source) l.cutter l.audit l.passed
      (g.P.Report.stands l.fn.output l.report l.output);
  more : GivesMore (g.R.Source.read l.fn.source) (g.R.Source.read l.source) (g.R.Source.remaining l.fn.source)
      (g.R.Source.remaining l.source);
  beside : g.R.Source.beside l.source ≡ g.R.Source.beside l.fn.source;
}

abbrev pub decreases-records : goal.decreases-records
decreases-records g l = 2 ^ 40 + 1 - (g.R.Source.read l.source).calls
