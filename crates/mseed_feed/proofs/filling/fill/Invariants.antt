use Rattle.std.proofs.Common.{◌≡◌, ◌+◌, ◌-◌, ◌^◌, ◌≤◌, List, length}
use Rattle.mseed_record.specs.View.{View}
use Rattle.mseed_stream.specs.Cutting.{GivesMore, IsAlong}
use Rattle.mseed_feed.specs.private.Pushing.{HasFilled}
use Rattle.mseed_feed.proofs.filling.fill.Given as goal

abbrev pub invariant-records : goal.invariant-records
invariant-records g l = IsAlong (g.R.Source.read l.input) l.cutter × (l.records ≤ (g.R.Source.read l.input).calls)
    × ((views : List View) × HasFilled l.serving (g.R.Source.read l.input) l.cutter l.feed views
    × (l.records ≡ length views))
    × GivesMore (g.R.Source.read l.fn.input) (g.R.Source.read l.input) (g.R.Source.remaining l.fn.input)
    (g.R.Source.remaining l.input)
    × (g.R.Source.beside l.input ≡ g.R.Source.beside l.fn.input)

abbrev pub decreases-records : goal.decreases-records
decreases-records g l = 2 ^ 40 + 1 - (g.R.Source.read l.input).calls
