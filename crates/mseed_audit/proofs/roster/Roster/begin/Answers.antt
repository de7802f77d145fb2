use Rattle.mseed_record.specs.Viewing.{view_of}
use Rattle.mseed_audit.proofs.Steps.{new_adds}
use Rattle.mseed_audit.proofs.roster.Roster.begin.Goals as goal

pub returns-clause-adds : goal.returns-clause-adds
returns-clause-adds g c =
    new_adds _ _ c.args.codes c.begin-channel.result.0
    (record { view = view_of c.args.view.now; offset = c.args.offset; number = c.args.number })
    c.begin-channel.result.1 c.in_ok-keep.ensures.kept c.requires.new c.requires.key c.requires.some
    c.begin-channel.ensures.stands c.begin-channel.ensures.found c.begin-channel.ensures.bounded
