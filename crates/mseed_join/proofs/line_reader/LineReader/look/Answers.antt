use Rattle.std.proofs.Common.{◌≡◌, ◌∙◌, Bool, Ok, Err, ap, refl, rules}
use Rattle.mseed_join.proofs.LinesAhead.{grows_not, grows_on, read_by_more}
use Rattle.mseed_join.proofs.LinesAhead.{no_end_by, reads_so_far, reads_to, if_it_does}
use Rattle.mseed_join.proofs.LinesAhead.{fault_since}
use Rattle.mseed_join.proofs.line_reader.LineReader.look.Goals as goal

pub loop-ahead-init : goal.loop-ahead-init
loop-ahead-init g c = record {
  more = grows_not (g.R.Source.read c.args.source.now) (g.R.Source.remaining c.args.source.now) c.args.self.now;
  goes_on = c.requires.goes_on;
  beside = refl;
}

pub returns-in-Some-clause-more : goal.returns-in-Some-clause-more
returns-in-Some-clause-more g c = rw c.see.ensures.stays c.loop-ahead.invariant.more

pub returns-in-Some-clause-reads : goal.returns-in-Some-clause-reads
returns-in-Some-clause-reads g c =
    let inv = c.loop-ahead.invariant in
    reads_so_far inv.more inv.goes_on.is_at_end inv.beside

pub returns-in-Some-clause-goes_on : goal.returns-in-Some-clause-goes_on
returns-in-Some-clause-goes_on g c = if_it_does c.in-Some.ahead _ c.loop-ahead.invariant.goes_on

pub returns-in_err-fill-clause-more : goal.returns-in_err-fill-clause-more
returns-in_err-fill-clause-more g c =
    grows_on c.loop-ahead.invariant.more (rw c.see.ensures.stays at c.fill.ensures.more)

pub returns-in_err-fill-clause-fault : goal.returns-in_err-fill-clause-fault
returns-in_err-fill-clause-fault g c =
    let same : c.from_residual.result ≡ Err c.in_err-fill.field-0.0 = search rules in
    rw same (fault_since _ _ _ _ c.in_err-fill.ensures.read.fault
    (read_by_more (returns-in_err-fill-clause-more g c) c.requires.along) c.loop-ahead.invariant.goes_on)

pub returns-in_err-fill-clause-reads : goal.returns-in_err-fill-clause-reads
returns-in_err-fill-clause-reads g c =
    let inv = c.loop-ahead.invariant in
    reads_so_far (returns-in_err-fill-clause-more g c)
    (no_end_by _ _ _ _ c.in_err-fill.ensures.read.fault inv.goes_on) (c.fill.ensures.beside ∙ inv.beside)

pub returns-then-branch-clause-more : goal.returns-then-branch-clause-more
returns-then-branch-clause-more g c =
    grows_on c.loop-ahead.invariant.more (rw c.see.ensures.stays at c.fill.ensures.more)

pub returns-then-branch-clause-reads : goal.returns-then-branch-clause-reads
returns-then-branch-clause-reads g c =
    reads_to (returns-then-branch-clause-more g c)
    (λ end. (c.in_ok-fill.ensures.read.ended (ap (λ (b : Bool). Ok b) c.if-branch.true)).2)
    (c.fill.ensures.beside ∙ c.loop-ahead.invariant.beside)

pub loop-ahead-preserved : goal.loop-ahead-preserved
loop-ahead-preserved g c =
    let inv = c.loop-ahead.invariant in
    let read = c.in_ok-fill.ensures.read in
    record {
      more = grows_on inv.more (rw c.see.ensures.stays at c.fill.ensures.more);
      goes_on = record {
        failures = read.fine ∙ inv.goes_on.failures;
        is_at_end = read.whole (ap (λ (b : Bool). Ok b) c.if-branch.false);
      };
      beside = c.fill.ensures.beside ∙ inv.beside;
    }
