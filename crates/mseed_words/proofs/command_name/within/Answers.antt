use Rattle.std.proofs.Common.{◌<◌, ◌≤◌}
use Rattle.std.proofs.Common.{get_or}
use Rattle.std.proofs.lemmas.Bool.{le-leb, lt-leb}
use Rattle.std.proofs.lemmas.List.{drop_more}
use Rattle.clap.specs.Walk.{Text}
use Rattle.mseed_words.specs.Names.{all_commands, edits_to}
use Rattle.mseed_words.specs.declared.command_name.CommandName.{CommandName}
use Rattle.mseed_words.specs.declared.command_name.CommandName.TheVariants.{Audit}
use Rattle.mseed_words.proofs.command_name.within.Goals as goal

pub returns-then-branch-edits : goal.returns-then-branch-edits
returns-then-branch-edits c =
    let word : Text = c.args.word.now in
    let name : CommandName = get_or all_commands c.loop-name.name-index Audit in
    let few : edits_to word name ≤ c.args.edits =
    rw (c.in_ok-levenshtein.ensures.value, c.word.ensures) at c.if-branch-edits.true in
    rw (drop_more all_commands c.loop-name.name-index Audit c.loop-name-test.true, le-leb _ _ few)
    at c.loop-name.invariant

pub loop-name-preserved : goal.loop-name-preserved
loop-name-preserved c =
    let word : Text = c.args.word.now in
    let name : CommandName = get_or all_commands c.loop-name.name-index Audit in
    let many : c.args.edits < edits_to word name =
    rw (c.in_ok-levenshtein.ensures.value, c.word.ensures) at c.if-branch-edits.false in
    rw (drop_more all_commands c.loop-name.name-index Audit c.loop-name-test.true, lt-leb _ _ many)
    at c.loop-name.invariant
