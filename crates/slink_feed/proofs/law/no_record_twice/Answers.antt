use Rattle.slink_feed.proofs.Numbers.{are_rising, numbers_go_on}
use Rattle.slink_feed.proofs.law.no_record_twice.Goals as goal

pub returns : goal.returns
returns c k t arrivals short = are_rising _ _ _ _ short (numbers_go_on k t arrivals)
