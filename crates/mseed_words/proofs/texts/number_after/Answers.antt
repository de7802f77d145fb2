use Rattle.std.proofs.Common.{◌≡◌, ◌∙◌, ℕ, List, ap, drop}
use Rattle.std.proofs.lemmas.Fmt.{parse-decimal}
use Rattle.std.specs.Prelude.{decimal}
use Rattle.mseed_words.proofs.texts.number_after.Goals as goal

pub returns-in-Some : goal.returns-in-Some
returns-in-Some c = λ index few is.
    let it = c.in-Some.ensures.cases in
    let digits : c.in-Some.digits.now ≡ decimal index =
    it.2 ∙ (ap (λ (n : ℕ). drop n c.args.text.now) it.1.0 ∙ ap (λ (xs : List ℕ). drop 1 xs) is) in
    let parsed = parse-decimal 64 index c.in-Some.digits.now c.parse.result few few digits c.parse.ensures.value.0 in
    rw parsed at c.unwrap_or.ensures

pub returns-in-None : goal.returns-in-None
returns-in-None c = λ index few is. absurd (c.in-None.ensures.cases (decimal index) is)
