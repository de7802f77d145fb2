use Rattle.std.proofs.Common.{[], ◌++◌}
use Rattle.mseed_steim_pack.proofs.pack.pack_words.Goals as goal

pub pack_words_ahead-requires-clause-known : goal.pack_words_ahead-requires-clause-known
pack_words_ahead-requires-clause-known c = ([], c.new.ensures c.args.scheme (c.args.diffs.now ++ []))
