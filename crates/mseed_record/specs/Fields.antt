-- What contracts read of `Fields`.
use Rattle.mseed_time.specs.Parts.{parts_of}
use Rattle.mseed_record.specs.declared.fields.Fields.{Fields}
use Rattle.mseed_record.specs.Written.{Header}

abbrev pub header_of : Fields → Header
header_of f = record {
  sequence = f.sequence;
  key = f.codes;
  start = parts_of f.start;
  microseconds = f.usec;
  samples = f.samples;
  factor = f.rate.factor;
  multiplier = f.rate.multiplier;
  encoding = f.encoding;
  exponent = f.exponent;
  frames = f.frames;
  activity = f.activity;
}
