use Rattle.std.proofs.Common.{◌∙◌}
use Rattle.mseed_feed.proofs.refusal.report_station.Goals as goal

pub returns : goal.returns
returns g c =
    rw (
      c.as_slice.ensures ∙ c.before_station.ensures.text,
      c.as_slice-2.ensures ∙ c.station_of.ensures,
      c.as_slice-3.ensures ∙ c.after_station.ensures.text,
    ) at c.report_given.ensures
