use Rattle.mseed.proofs.command.joined_as.Goals as goal

pub returns-clause-joined : goal.returns-clause-joined
returns-clause-joined g c =
    let join = c.join-outcome in
    (join.result, (g.E.Sink.written join.new.errors, (join.ensures.outcome, c.joined.ensures)))
