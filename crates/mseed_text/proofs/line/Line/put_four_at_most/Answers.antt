use Rattle.std.proofs.Common.{◌++◌, ◌∙◌, ℕ, List, ap, sym, rules}
use Rattle.std.proofs.lemmas.Fmt.{decimal_digit}
use Rattle.mseed_text.proofs.Decimals.{decimal_two, decimal_three, decimal_four}
use Rattle.mseed_text.proofs.line.Line.put_four_at_most.Goals as goal

pub returns-then-count-lt10-clause-text : goal.returns-then-count-lt10-clause-text
returns-then-count-lt10-clause-text c =
    c.put.ensures.text ∙ ap (λ (xs : List ℕ). c.args.self.now ++ xs) (sym (decimal_digit c.args.count (search rules)))

pub returns-then-count-lt100-clause-text : goal.returns-then-count-lt100-clause-text
returns-then-count-lt100-clause-text c =
    c.put-then-count-lt100.ensures.text ∙ ap (λ (xs : List ℕ). c.args.self.now ++ xs) (c.two_digits.ensures
    ∙ decimal_two c.args.count (search rules) (search rules))

pub returns-then-count-lt1000-clause-text : goal.returns-then-count-lt1000-clause-text
returns-then-count-lt1000-clause-text c =
    let digits = decimal_three c.args.count (search rules) (search rules) in
    c.put-then-count-lt1000.ensures.text
    ∙ ap (λ (xs : List ℕ). c.args.self.now ++ xs) (rw c.two_digits-low.ensures digits)

pub returns-clause-text : goal.returns-clause-text
returns-clause-text c =
    c.put_last_four.ensures.text ∙ ap (λ (xs : List ℕ). c.args.self.now ++ xs)
    (decimal_four c.args.count (search rules) c.requires.few)
