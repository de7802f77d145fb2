use Rattle.std.proofs.Common.{◌≡◌, ◌-◌, refl, arith}
use Rattle.std.proofs.lemmas.Bool.{le-ltb}
use Rattle.mseed_steim.proofs.Walking.{words_none}
use Rattle.mseed_steim.proofs.data_words.Words.begins_empty.Goals as goal

pub returns-else-next-self : goal.returns-else-next-self
returns-else-next-self c =
    let next = c.first_data_word-next.result.0 in
    let over : c.self.inside.end - next ≡ 0 = omega arith in
    rw (
      ← c.self.view_is,
      c.first_data_word-next.ensures.same,
      over,
      words_none c.self.inside.payload.now next,
      le-ltb next c.self.inside.end c.if-next-self.false,
    ) refl
