use Rattle.std.proofs.Common.{List, map, string_bytes}
use Rattle.clap.specs.Walk.{Text}
use Rattle.clap.specs.Faults.{fault_of}
use Rattle.clap.specs.Simple.{app_of}
use Rattle.mseed_words.specs.Options.{the_command}
use Rattle.mseed_words.proofs.Taken.{fails_by, found_by, refused_by, taken_by}
use Rattle.mseed_words.proofs.words.matches_of.Goals as goal

pub returns-clause-taken : goal.returns-clause-taken
returns-clause-taken c =
    let words : List Text = map string_bytes c.args.words.now in
    taken_by (fault_of (the_command c.args.name) words) c.try_get_matches_from.result (fails_by c.args.name
    (app_of c.in_ok-command.field-0) words c.try_get_matches_from.result c.in_ok-command.ensures
    c.try_get_matches_from.ensures.kinds)

pub returns-clause-found : goal.returns-clause-found
returns-clause-found c =
    found_by c.args.name (app_of c.in_ok-command.field-0) (map string_bytes c.args.words.now)
    c.try_get_matches_from.result c.in_ok-command.ensures c.try_get_matches_from.ensures.matches

pub returns-clause-refused : goal.returns-clause-refused
returns-clause-refused c =
    let words : List Text = map string_bytes c.args.words.now in
    refused_by (fault_of (the_command c.args.name) words) c.try_get_matches_from.result (fails_by c.args.name
    (app_of c.in_ok-command.field-0) words c.try_get_matches_from.result c.in_ok-command.ensures
    c.try_get_matches_from.ensures.kinds)
