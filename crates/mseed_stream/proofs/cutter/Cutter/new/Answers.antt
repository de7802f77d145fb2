use Rattle.std.proofs.Common.{refl, arith}
use Rattle.mseed_record.specs.Scan.{short}
use Rattle.mseed_stream.specs.Cutting.{at_start}
use Rattle.mseed_stream.proofs.cutter.Cutter.new.Goals as goal

pub returns-clause-along : goal.returns-clause-along
returns-clause-along g c = record {
  read = grind (arith, c.new.ensures.len);
  stop = λ same. at_start;
  asks = λ same. (48, short refl (omega arith));
  going_on = λ same. refl;
  ended = tt;
}

pub returns-clause-handed : goal.returns-clause-handed
returns-clause-handed g c = record {
  along = returns-clause-along g c;
  goes_on = refl;
  fine = refl;
  records = record { each = tt; records = record { joined = refl; each = tt }; offset_is = refl };
  called = omega arith;
}
