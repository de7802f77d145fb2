use Rattle.std.proofs.Common.{rules, sym, arith}
use Rattle.slink_feed.proofs.Done.{done_all, done_more, not_done, some_at}
use Rattle.slink_feed.proofs.progress.Progress.has_sent_all.Goals as goal

pub returns-then-not-has_sent_place : goal.returns-then-not-has_sent_place
returns-then-not-has_sent_place g c =
    let at = some_at c.args.feed.now c.loop-k.k (omega arith) in
    sym (not_done c.args.feed.now c.args.self.now.grants c.loop-k.k at.0 c.has_sent_place.result at.1
    (c.has_sent_place.ensures at.0 at.1) (search rules))

pub loop-k-preserved : goal.loop-k-preserved
loop-k-preserved g c =
    let at = some_at c.args.feed.now c.loop-k.k (omega arith) in
    done_more c.args.feed.now c.args.self.now.grants c.loop-k.k at.0 c.has_sent_place.result at.1
    (c.has_sent_place.ensures at.0 at.1) (search rules) c.loop-k.invariant

pub returns : goal.returns
returns g c = sym (done_all c.args.feed.now c.args.self.now.grants c.loop-k.k (omega arith) c.loop-k.invariant)
