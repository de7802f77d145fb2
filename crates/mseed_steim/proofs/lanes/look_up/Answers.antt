use Rattle.mseed_steim.proofs.LaneTables.{swizzle_ok}
use Rattle.mseed_steim.proofs.lanes.look_up.Goals as goal

pub swizzle : goal.swizzle
swizzle c = swizzle_ok c.args.rows c.fits-rows.0 c.requires
