use Rattle.slink_live.proofs.Granting.{filled_covered, fits_in}
use Rattle.slink_live.proofs.links.Links.fill.Goals as goal

pub fill-requires : goal.fill-requires
fill-requires c = fits_in _ c.args.slot (rw (← c.self.view_is) at c.requires.within) c.index_mut.ensures.value _
    (rw (← c.self.view_is) at c.requires.fits)

pub invariant_of-self : goal.invariant_of-self
invariant_of-self c = filled_covered _ c.args.slot (rw (← c.self.view_is) at c.requires.within)
    c.index_mut.ensures.value c.args.feed.now c.fill.new.link c.self.invariant c.fill.ensures.filled
