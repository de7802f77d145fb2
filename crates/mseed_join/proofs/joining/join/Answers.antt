use Rattle.std.proofs.Common.{◌≡◌, ◌∙◌, ◌++◌, Err, List, ap, inr, refl, rules, sym, subst, ℕ}
use Rattle.mseed_stream.specs.Device.{BytesRead, BytesWritten}
use Rattle.mseed_stream.proofs.Calls.{writes_none}
use Rattle.mseed_join.specs.Joins.{IsJoinOutcome, text_by}
use Rattle.mseed_join.specs.ReadParts.{written_of}
use Rattle.mseed_join.proofs.Refusing.{refused_so}
use Rattle.mseed_join.proofs.joining.join.Goals as goal

pub returns-in_err-part-clause-outcome : goal.returns-in_err-part-clause-outcome
returns-in_err-part-clause-outcome g c =
    let h : BytesRead = g.R.Source.read c.read_parts.new.source in
    let old : BytesWritten = g.W.Sink.written c.args.sink.now in
    let reported : BytesWritten = g.E.Sink.written c.args.errors.now in
    let now : BytesWritten = g.E.Sink.written c.read_parts.new.errors in
    let same : c.from_residual.result ≡ Err c.in_err-part.field-0.0 = search rules in
    subst (λ r. IsJoinOutcome c.args.form c.args.past_faults c.args.expected r h old old reported now) (sym same)
    (refused_so g.row.A.Denot c.args.form c.args.past_faults c.args.expected c.in_err-part.field-0.0
    h old reported now c.in_err-part.ensures.outcome)

pub returns-in_err-part-clause-writes : goal.returns-in_err-part-clause-writes
returns-in_err-part-clause-writes g c = writes_none _ _ _

pub returns-in-Err-clause-writes : goal.returns-in-Err-clause-writes
returns-in-Err-clause-writes g c = writes_none _ _ _

pub returns-in-Err-clause-outcome : goal.returns-in-Err-clause-outcome
returns-in-Err-clause-outcome g c = (
  refl,
  inr (
    written_of c.in_ok-part.field-0,
    c.in_ok-part.ensures.outcome,
  ),
)

pub returns-in-Ok-write_all_of-clause-outcome : goal.returns-in-Ok-write_all_of-clause-outcome
returns-in-Ok-write_all_of-clause-outcome g c =
    let write = c.in-Ok-write_all_of.ensures in (
      written_of c.in_ok-part.field-0,
      (
        c.in_ok-part.ensures.outcome,
        c.in-Ok.ensures.answer,
        record {
          bytes = write.ok
              ∙ ap (λ (t : List ℕ). (g.W.Sink.written c.args.sink.now).bytes ++ t)
              (c.deref.ensures.value ∙ c.in-Ok.ensures.text
              ∙ ap (λ (t : List ℕ). t ++ text_by c.args.form (written_of c.in_ok-part.field-0))
              c.new-text.ensures.items);
          fine = write.fine;
        },
      ),
    )

pub returns-clause-outcome : goal.returns-clause-outcome
returns-clause-outcome g c =
    let write = c.in-Err-write_all_of.ensures in
    let text = c.deref.ensures.value ∙ c.in-Ok.ensures.text
    ∙ ap (λ (t : List ℕ). t ++ text_by c.args.form (written_of c.in_ok-part.field-0)) c.new-text.ensures.items in (
      written_of c.in_ok-part.field-0,
      (
        c.in_ok-part.ensures.outcome,
        (
          c.in-Err-write_all_of.field-0,
          record { text = rw text at write.err; part = rw text at write.within; failed = write.failed },
        ),
      ),
    )
