use Rattle.std.proofs.Common.{rules, refl}
use Rattle.slink_feed.proofs.Intakes.{not_of_feed, of_feed, pushed_is}
use Rattle.slink_feed.proofs.feed.Feed.take_record.Goals as goal

pub push-requires : goal.push-requires
push-requires g c =
    let here = c.in-Some-place_of.ensures.some in
    (search rules, (here.within, (here.bears, λ w there. c.requires c.in-Some-place_of.k w there)))

pub returns-in-Some-place_of-clause-of : goal.returns-in-Some-place_of-clause-of
returns-in-Some-place_of-clause-of g c =
    of_feed _ _ _ _ c.in-Some.ensures.cases.long c.in-Some.ensures.cases.same c.in-Some-place_of.ensures.some

pub returns-in-Some-place_of-clause-pushed : goal.returns-in-Some-place_of-clause-pushed
returns-in-Some-place_of-clause-pushed g c =
    pushed_is _ _ _ _ _ c.in-Some.ensures.cases.same c.in-Some-place_of.ensures.some c.push.ensures.pushed

pub returns-in-None-clause-foreign : goal.returns-in-None-clause-foreign
returns-in-None-clause-foreign g c = not_of_feed _ _ _ c.in-Some.ensures.cases.same (c.in-None.ensures.none refl)

pub returns-in-Some-place_of-clause-most : goal.returns-in-Some-place_of-clause-most
returns-in-Some-place_of-clause-most g c = c.in-Some-place_of.ensures.most
