use Rattle.std.proofs.Common.{take, drop}
use Rattle.mseed_steim_pack.proofs.Coding.{pushing_more}
use Rattle.mseed_steim_pack.proofs.Rows.{spelled_code}
use Rattle.mseed_steim_pack.proofs.pack.push_word.Goals as goal

pub returns : goal.returns
returns c = λ s ds head used count plain f full.
    pushing_more s ds c.args.frames.now c.write_word.new.frames head c.args.codes c.args.index used c.args.code
    c.args.word count c.with_code.result plain
    (spelled_code s c.args.code c.args.word (take count (drop used ds)) full.spelled) f full c.write_word.ensures
    c.with_code.ensures
