use Rattle.std.proofs.Common.{rules}
use Rattle.std.proofs.lemmas.List.Sorted.{answers_always}
use Rattle.mseed_repack.proofs.Linked.{searched_none, searched_some}
use Rattle.mseed_repack.proofs.links.find_channel.Goals as goal

-- the closure gives a channel's key
pub returns-in-Ok-clause-some : goal.returns-in-Ok-clause-some
returns-in-Ok-clause-some c = searched_some c.args.channels.now c.args.codes c.in-Ok.number
    (rw c.in-Ok.is at (c.binary_search_by_key.ensures.position (λ channel. channel.0)
    (answers_always _ _ _ (λ f a r g called. search rules))))

pub returns-in-Err-clause-none : goal.returns-in-Err-clause-none
returns-in-Err-clause-none c = searched_none c.args.channels.now c.args.codes c.in-Err.field-0 c.requires
    (rw c.in-Err.is at (c.binary_search_by_key.ensures.position (λ channel. channel.0)
    (answers_always _ _ _ (λ f a r g called. search rules))))
