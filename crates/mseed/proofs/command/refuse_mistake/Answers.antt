use Rattle.std.proofs.Common.{◌∙◌, List, ℕ, subst}
use Rattle.mseed_files.specs.Given.{given_line}
use Rattle.mseed_stream.specs.Device.{BytesWritten}
use Rattle.mseed_stream.specs.LineWritten.{WritesLine}
use Rattle.mseed_words.specs.Mistakes.{before_text}
use Rattle.mseed.proofs.command.refuse_mistake.Goals as goal

pub returns-clause-reported : goal.returns-clause-reported
returns-clause-reported g c =
    let between : BytesWritten = g.E.Sink.written c.report.new.errors in
    let new : BytesWritten = g.E.Sink.written c.report_given.new.errors in
    let argument : List ℕ = c.word_of-argument.result.now in
    let head = c.as_bytes.ensures.value ∙ c.before-head.ensures.text in
    let tail = c.as_bytes-2.ensures.value ∙ c.after-tail.ensures.text in
    record {
      argument = argument;
      argument_is = c.word_of-argument.ensures;
      reported = (
        between,
        (
          c.report.ensures,
          subst (λ (t : List ℕ). WritesLine (given_line (before_text c.args.mistake) argument t) between new) tail
              (subst (λ (h : List ℕ). WritesLine (given_line h argument c.as_bytes-2.result.now) between new) head
              c.report_given.ensures),
        ),
      );
    }
