use Rattle.std.proofs.Common.{◌∙◌, ℕ, List, Some, eqb, sym, rules, tests}
use Rattle.std.proofs.lemmas.Iterator.Search.{any_from_yields_List}
use Rattle.std.proofs.lemmas.Iterator.Splits.{YieldsList-from_slice_split}
use Rattle.mseed_record.specs.Pattern.{matches}
use Rattle.mseed_select.proofs.Matched.{channels_back, channels_yes}
use Rattle.mseed_select.proofs.patterns.Patterns.are_of.Goals as goal

pub returns-clause-value : goal.returns-clause-value
returns-clause-value c =
    any_from_yields_List (λ (pattern : List ℕ). matches pattern c.args.codes.now) _ _ _ c.any.ensures.ran
    (YieldsList-from_slice_split _ (λ (x : ℕ). eqb x 44) c.args.self.now.text.now c.split.ensures.rest
    c.split.ensures.done c.split.ensures.closure (λ x b q k. search (rules, tests)))
    (λ x b q k. search (rules, tests))

pub returns-clause-exactly : goal.returns-clause-exactly
returns-clause-exactly c = (
  λ e. channels_yes (Some c.args.self.now.text.now) c.args.codes.now (sym (returns-clause-value c) ∙ e),
  λ m. returns-clause-value c ∙ channels_back (Some c.args.self.now.text.now) c.args.codes.now m,
)
