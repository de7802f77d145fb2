use Rattle.std.proofs.Common.{◌∙◌}
use Rattle.mseed_record.proofs.Bytes.{key_at-bytes}
use Rattle.mseed_record.proofs.codes.codes_at.Goals as goal

pub returns : goal.returns
returns c = c.of_key.ensures ∙ key_at-bytes c.args.bytes.now c.requires
