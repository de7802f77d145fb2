use Rattle.std.proofs.Common.{◌≡◌, ◌-◌, arith}
use Rattle.mseed_steim.proofs.Walking.{words_none}
use Rattle.mseed_steim.proofs.data_words.Words.pass_all.Goals as goal

pub returns : goal.returns
returns c =
    let none : c.self.inside.end - c.self.inside.end ≡ 0 = omega arith in
    rw none (words_none c.self.inside.payload.now c.self.inside.end)
