-- What a `Btime` says.
use Rattle.mseed_time.specs.declared.btime.Btime.{Btime}
use Rattle.mseed_time.specs.Btime.{Parts}

abbrev pub parts_of : Btime → Parts
parts_of b = record {
  year = b.year;
  day = b.day;
  hour = b.hour;
  minute = b.minute;
  second = b.second;
  fraction = b.fraction;
}
