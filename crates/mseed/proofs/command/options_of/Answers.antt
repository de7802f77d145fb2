use Rattle.std.proofs.Common.{◌∙◌}
use Rattle.mseed.proofs.Encodings.{one_encoding}
use Rattle.mseed.proofs.command.options_of.Goals as goal

pub returns : goal.returns
returns c = record {
  exponent = c.in-Ok.ensures.exponent;
  encoding = one_encoding c.in-Ok.options.encoding c.args.packing.encoding (c.in-Ok.ensures.encoding ∙ c.code.ensures);
  sequence = c.in-Ok.ensures.sequence;
}
