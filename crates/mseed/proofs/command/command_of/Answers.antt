use Rattle.mseed_words.specs.Arguments.{texts_in}
use Rattle.mseed.proofs.Asking.{asked_is, asks_no_mistake, asks_not_refused, refused_anyway, refused_request}
use Rattle.mseed.proofs.command.command_of.Goals as goal

pub returns-in-Ok-clause-called : goal.returns-in-Ok-clause-called
returns-in-Ok-clause-called g c request asked files asks =
    asked_is (texts_in c.args.line.now) c.in-Ok.command request asked files (g.E.Sink.written c.args.errors.now)
    (rw c.deref.ensures.value at c.in-Ok.ensures.request) asks

pub returns-in-Ok-clause-bad : goal.returns-in-Ok-clause-bad
returns-in-Ok-clause-bad g c mistake given nothing =
    absurd (asks_no_mistake _ _ mistake given (rw c.deref.ensures.value at c.in-Ok.ensures.request) nothing)

pub returns-in-Ok-clause-refused : goal.returns-in-Ok-clause-refused
returns-in-Ok-clause-refused g c refused =
    absurd (asks_not_refused _ _ (rw c.deref.ensures.value at c.in-Ok.ensures.request) refused)

pub returns-in-Err-clause-called : goal.returns-in-Err-clause-called
returns-in-Err-clause-called g c request asked files asks =
    refused_anyway _ _ c.in-Err.refusal c.refuse.result _ _ request asked files
    (rw c.deref.ensures.value at c.in-Err.ensures.refused) c.refuse.ensures asks

pub returns-in-Err-clause-bad : goal.returns-in-Err-clause-bad
returns-in-Err-clause-bad g c mistake given nothing =
    refused_request _ _ c.in-Err.refusal c.refuse.result _ _ mistake given
    (rw c.deref.ensures.value at c.in-Err.ensures.refused)
    (rw c.deref-in-Err.ensures.value at c.refuse.ensures) nothing
