use Rattle.std.proofs.Common.{[]}
use Rattle.slink_feed.specs.Reporter.{none, one}
use Rattle.mseed_feed.specs.Plans.{station_line}
use Rattle.mseed_feed.proofs.refusal.report_more.Goals as goal

pub returns-in-Stream : goal.returns-in-Stream
returns-in-Stream g c = rw c.in-Stream.is (none (g.E.Sink.written c.args.errors.now))

pub returns-in-Foreign : goal.returns-in-Foreign
returns-in-Foreign g c =
    rw c.in-Foreign.is (one (station_line c.in-Foreign.foreign) [] _ _ _ c.report_station.ensures (none _))
