use Rattle.std.proofs.Common.{rules}
use Rattle.mseed_steim_pack.proofs.Packs.{is_fullest, fullest_not_large, none_large}
use Rattle.mseed_steim_pack.proofs.pack.pack_word.Goals as goal

pub returns-in-Some : goal.returns-in-Some
returns-in-Some c =
    let full = is_fullest c.args.scheme c.args.diffs.now c.in-Some.row c.word_of.result c.in-Some.ensures.best
    (search rules) in
    record {
      fullest = full;
      refused = fullest_not_large c.args.scheme c.args.diffs.now c.in-Some.row.code
          c.word_of.result c.in-Some.row.count 0 full full.some;
    }

pub returns-in-None : goal.returns-in-None
returns-in-None c =
    record {
      fullest = tt;
      refused = none_large c.args.scheme c.args.diffs.now c.requires
          (c.fullest_row.ensures.fits c.requires) c.in-None.ensures.best;
    }
