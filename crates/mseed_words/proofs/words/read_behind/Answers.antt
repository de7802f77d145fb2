use Rattle.std.proofs.Common.{List, map, string_bytes}
use Rattle.clap.specs.Faults.{fault_of}
use Rattle.clap.specs.Simple.{matches_of}
use Rattle.clap.specs.Walk.{Row, Text}
use Rattle.mseed_words.specs.Options.{the_command}
use Rattle.mseed_words.specs.Words.{command_of, reading_by}
use Rattle.mseed_words.proofs.words.read_behind.Goals as goal

pub returns-in-Err-clause-refused : goal.returns-in-Err-clause-refused
returns-in-Err-clause-refused c =
    let words : List Text = map string_bytes c.args.words.now in
    let rows : List Row = matches_of (the_command c.args.name) words in
    c.refusal_of.ensures (fault_of (the_command c.args.name) words) (reading_by (command_of c.args.name rows) rows)
    c.in-Err.ensures.refused
