use Rattle.std.proofs.Common.{◌-◌}
use Rattle.mseed_steim.specs.Frames.{data_words, word_count}
use Rattle.mseed_steim.proofs.Given.{given_items, items_given, words_small}
use Rattle.mseed_steim.proofs.differences.Differences.over.Goals as goal

pub returns-clause-items : goal.returns-clause-items
returns-clause-items c =
    rw (c.new.ensures, c.of.ensures)
    (items_given c.args.scheme (data_words c.args.payload.now)
    (words_small c.args.payload.now (λ i. (c.type_inv.payload i).fits) 3 (word_count c.args.payload.now - 3)))

pub returns-clause-only : goal.returns-clause-only
returns-clause-only c = λ items given.
    rw (c.new.ensures, c.of.ensures)
    (given_items c.args.scheme (data_words c.args.payload.now) items
    (words_small c.args.payload.now (λ i. (c.type_inv.payload i).fits) 3 (word_count c.args.payload.now - 3)) given)
