use Rattle.std.proofs.Common.{sym, ◌∙◌}
use Rattle.mseed_join.proofs.LineEnds.{found_after, nowhere_after}
use Rattle.mseed_join.proofs.line_reader.place_of_end.Goals as goal

pub returns-in-Some : goal.returns-in-Some
returns-in-Some c = found_after c.args.bytes.now c.pass_lanes-passed.result c.in-Some.place
    c.pass_lanes-passed.ensures.within c.pass_lanes-passed.ensures.lacks
    (sym c.place_one_by_one.ensures ∙ c.in-Some.is)

pub returns-in-None : goal.returns-in-None
returns-in-None c = nowhere_after c.args.bytes.now c.pass_lanes-passed.result
    c.pass_lanes-passed.ensures.within c.pass_lanes-passed.ensures.lacks
    (sym c.place_one_by_one.ensures ∙ c.in-None.is)
