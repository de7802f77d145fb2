use Rattle.std.proofs.Common.{◌∙◌, arith, nat_lt, sym}
use Rattle.std.proofs.lemmas.Bool.{OnFalse_from, OnTrue_from}
use Rattle.std.proofs.lemmas.Bool.Decides.{Decides-ltb}
use Rattle.slink_feed.proofs.Items.{lt_false}
use Rattle.slink_live.proofs.Losing.{has_left, has_not_left, none_left}
use Rattle.slink_live.proofs.link.Link.has_left.Goals as goal

pub returns-in-Some-clause-yes : goal.returns-in-Some-clause-yes
returns-in-Some-clause-yes c = OnTrue_from (nat_lt c.in-Some.position c.oldest.result) _
    (λ lt. rw (← c.self.view_is) (has_left _ _ c.args.k c.ring.result.now (sym c.position.ensures ∙ c.in-Some.is)
    c.ring.ensures.ring (omega (arith, (Decides-ltb c.in-Some.position c.oldest.result).0 lt, c.oldest.ensures.value))))

pub returns-in-Some-clause-no : goal.returns-in-Some-clause-no
returns-in-Some-clause-no c = OnFalse_from (nat_lt c.in-Some.position c.oldest.result) _
    (λ ge. rw (← c.self.view_is) (has_not_left _ _ c.args.k c.ring.result.now (sym c.position.ensures ∙ c.in-Some.is)
    c.ring.ensures.ring (omega (arith, lt_false c.in-Some.position c.oldest.result ge, c.oldest.ensures.value))))

pub returns-in-None-clause-no : goal.returns-in-None-clause-no
returns-in-None-clause-no c =
    rw (← c.self.view_is) (none_left _ _ c.args.k (sym c.position.ensures ∙ c.in-None.is))
