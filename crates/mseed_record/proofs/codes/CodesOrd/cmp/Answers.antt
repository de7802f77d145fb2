use Rattle.std.proofs.Common.{refl}
use Rattle.mseed_record.proofs.Keys.{words_cmp}
use Rattle.mseed_record.proofs.codes.CodesOrd.cmp.Goals as goal

pub returns-in-Less : goal.returns-in-Less
returns-in-Less c =
    let same = words_cmp _ _ _ _ _ _ c.words_of-front.ensures c.words_of-other_front.ensures in
    rw (← c.self.view_is, ← c.other.view_is, ← same, ← c.in-Less.ensures) refl

pub returns-in-Equal : goal.returns-in-Equal
returns-in-Equal c =
    let same = words_cmp _ _ _ _ _ _ c.words_of-front.ensures c.words_of-other_front.ensures in
    rw (← c.self.view_is, ← c.other.view_is, ← same, ← c.in-Equal.ensures) c.cmp-in-Equal.ensures

pub returns-in-Greater : goal.returns-in-Greater
returns-in-Greater c =
    let same = words_cmp _ _ _ _ _ _ c.words_of-front.ensures c.words_of-other_front.ensures in
    rw (← c.self.view_is, ← c.other.view_is, ← same, ← c.in-Greater.ensures) refl
