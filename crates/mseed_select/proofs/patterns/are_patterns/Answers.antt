use Rattle.std.proofs.Common.{ℕ, List, eqb, rules, tests}
use Rattle.std.proofs.lemmas.Iterator.Search.{all_from_yields_List}
use Rattle.std.proofs.lemmas.Iterator.Splits.{YieldsList-from_slice_split}
use Rattle.mseed_record.specs.Pattern.{is_pattern}
use Rattle.mseed_select.proofs.patterns.are_patterns.Goals as goal

pub returns : goal.returns
returns c =
    all_from_yields_List (λ (pattern : List ℕ). is_pattern pattern) _ _ _ c.all.ensures.ran
    (YieldsList-from_slice_split _ (λ (x : ℕ). eqb x 44) c.args.text.now c.split.ensures.rest
    c.split.ensures.done c.split.ensures.closure (λ x b q k. search (rules, tests)))
    (λ x b q k. search (rules, tests))
