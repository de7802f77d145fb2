use Rattle.mseed_repack.proofs.AskedFor.{are_asked}
use Rattle.mseed_repack.proofs.input.split_asked.Goals as goal

pub returns-clause-asked : goal.returns-clause-asked
returns-clause-asked g c =
    let kept = c.keep_asked-without_time in
    are_asked (g.C.Choice.selection c.args.choice.now) c.in-Ok.views.items kept.new.views.items kept.result c.requires
    c.in-Ok.ensures.archive c.in-Ok.ensures.views c.in-Ok.ensures.few kept.ensures.kept kept.ensures.count
