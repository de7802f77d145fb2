-- The ranges of a date and of a time of day.
use Rattle.std.specs.Prelude.{◌≤◌, ◌<◌}
use Rattle.mseed_time.specs.Btime.{days_in_year}
use Rattle.mseed_select.specs.declared.clocks.Clock.{Clock}
use Rattle.mseed_select.specs.declared.dates.Date.{Date}

abbrev pub IsDate : Date → Type 0
IsDate d = (1900 ≤ d.year) × (d.year ≤ 2100) × (1 ≤ d.day) × (d.day ≤ days_in_year d.year)

abbrev pub IsClock : Clock → Type 0
IsClock c = (c.hour ≤ 23) × (c.minute ≤ 59) × (c.second ≤ 60) × (c.micros < 1_000_000)
