use Rattle.std.proofs.Common.{sym, ◌∙◌}
use Rattle.mseed_join.proofs.LineEnds.{line_found, no_line_found}
use Rattle.mseed_join.proofs.line_reader.size_of_line.Goals as goal

pub returns-in-Some-clause-some : goal.returns-in-Some-clause-some
returns-in-Some-clause-some c = line_found c.args.held.now c.min.result c.in-Some.place c.min.ensures
    (sym c.place_of_end.ensures ∙ c.in-Some.is)

pub returns-in-None-clause-none : goal.returns-in-None-clause-none
returns-in-None-clause-none c = no_line_found c.args.held.now c.min.result c.min.ensures
    (sym c.place_of_end.ensures ∙ c.in-None.is)
