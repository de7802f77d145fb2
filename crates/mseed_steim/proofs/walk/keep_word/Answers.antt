use Rattle.std.proofs.Common.{arith}
use Rattle.mseed_steim.specs.private.Items.{items_of}
use Rattle.mseed_steim.specs.private.Reads.{as_data}
use Rattle.mseed_steim.proofs.Continuing.{continues_done, continues_self}
use Rattle.mseed_steim.proofs.Folds.{word_walks}
use Rattle.mseed_steim.proofs.walk.keep_word.Goals as goal

pub returns-then-samples-sum : goal.returns-then-samples-sum
returns-then-samples-sum g c = λ rest.
    continues_done (items_of c.args.scheme rest) (continues_self c.requires.met c.requires.places) (omega arith)

pub returns-in-Some : goal.returns-in-Some
returns-in-Some g c = word_walks g.K.Keeper.kept c.args.samples c.args.scheme (as_data c.args.word) _ c.args.sum
    c.args.out.now c.keep_group.new.out c.keep_group.result c.in-Some.ensures c.keep_group.ensures
