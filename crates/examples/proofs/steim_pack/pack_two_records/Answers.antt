use Rattle.std.proofs.Common.{[], ◌++◌}
use Rattle.mseed_steim.specs.declared.scheme.Scheme.TheVariants.{Two}
use Rattle.examples.proofs.steim_pack.pack_two_records.Goals as goal

pub pack_words_ahead-requires-clause-known : goal.pack_words_ahead-requires-clause-known
pack_words_ahead-requires-clause-known c = ([], c.new-known.ensures Two (c.args.differences.now ++ []))
