use Rattle.slink_live.proofs.Granting.{fits_in}
use Rattle.slink_live.proofs.links.Links.receive.Goals as goal

pub receive-requires : goal.receive-requires
receive-requires g c = fits_in _ c.args.slot (rw (← c.self.view_is) at c.requires.within) c.index_mut.ensures.value _
    (rw (← c.self.view_is) at c.requires.fits)
