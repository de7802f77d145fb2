use Rattle.std.proofs.Common.{arith}
use Rattle.std.proofs.lemmas.Option.{slice_get_within}
use Rattle.slink_feed.proofs.Items.{no_value}
use Rattle.slink_feed.proofs.Places.{carries_by, carries_not, none_more}
use Rattle.slink_feed.proofs.feed.Feed.place_of.Goals as goal

pub returns-then-bears-clause-some : goal.returns-then-bears-clause-some
returns-then-bears-clause-some g c = record {
  within = slice_get_within c.args.self.now c.loop-k.k c.ring.result.now c.ring.ensures.ring;
  bears = λ w there. carries_by c.args.self.now c.loop-k.k c.ring.result.now w c.args.bytes.now c.place.result
      c.bears.result c.ring.ensures.ring there c.place.ensures c.bears.ensures.0 c.if-bears.true;
  first = c.loop-k.invariant;
}

pub loop-k-preserved : goal.loop-k-preserved
loop-k-preserved g c =
    none_more c.args.self.now c.args.bytes.now c.loop-k.k c.ring.result.now c.ring.ensures.ring
    (carries_not c.ring.result.now c.args.bytes.now c.place.result c.bears.result c.place.ensures c.bears.ensures.1
    c.if-bears.false) c.loop-k.invariant

pub returns-clause-none : goal.returns-clause-none
returns-clause-none g c =
    λ none k w there. c.loop-k.invariant k w
    (omega (arith, slice_get_within c.args.self.now k w there, c.len-k-end.ensures.value, c.loop-k-test.false)) there

pub returns-then-bears-clause-none : goal.returns-then-bears-clause-none
returns-then-bears-clause-none g c none = absurd (no_value c.loop-k.k none)
