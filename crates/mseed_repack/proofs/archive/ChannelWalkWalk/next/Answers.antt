use Rattle.mseed_repack.proofs.Linked.{next_on}
use Rattle.mseed_repack.proofs.archive.ChannelWalkWalk.next.Goals as goal

pub returns-clause-next : goal.returns-clause-next
returns-clause-next c =
    let t = c.args.self.now in
    next_on _ _ _ _ _ c.if-self.false c.index-self-self.is c.requires.of c.requires.nexts_are
