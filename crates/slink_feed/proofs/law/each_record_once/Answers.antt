use Rattle.std.proofs.Common.{Bool, subst}
use Rattle.slink_feed.specs.Dialogue.{next_at}
use Rattle.slink_feed.specs.Holding.{GoBy, numbers_of, talk_past}
use Rattle.slink_feed.proofs.Numbers.{numbers_go_on}
use Rattle.slink_feed.proofs.law.each_record_once.Goals as goal

pub returns : goal.returns
returns c k t arrivals plain =
    subst (λ (h : Bool). GoBy h (next_at t.wants k) (numbers_of k t arrivals) (next_at (talk_past t arrivals).wants k))
    plain (numbers_go_on k t arrivals)
