use Rattle.std.proofs.Common.{◌≡◌, ◌++◌, ◌∙◌, List, ℕ, append_assoc, codes, decimal}
use Rattle.mseed_time.specs.Text.{time_text}
use Rattle.mseed_text.specs.Time.{ratio_text}
use Rattle.mseed_audit.proofs.text.put_continuous.Goals as goal

-- what was put, one after another
joined : (line words start rate-word rate record-word records sample-word samples end : List ℕ)
    → ((((((((line ++ words) ++ start) ++ rate-word) ++ rate) ++ record-word) ++ records) ++ sample-word) ++ samples)
    ++ end
    ≡ line ++ (words ++ start ++ rate-word ++ rate ++ record-word ++ records ++ sample-word ++ samples ++ end)
joined line words start rate-word rate record-word records sample-word samples end = simp append_assoc

pub returns : goal.returns
returns c =
    let end = rw (c.put_labelled-2.ensures.text, c.put_labelled.ensures.text, c.put_ratio.ensures.text)
    at c.put-4.ensures.text in
    let all = rw (c.put-3.ensures.text, c.put-2.ensures.text, c.put.ensures.text, c.show_time.ensures) at end in
    all ∙ joined c.args.line.now (codes " continuous ") (time_text c.args.start) (codes " rate ")
    (ratio_text c.args.rate) (codes " records ") (decimal c.args.records) (codes " samples ") (decimal c.args.samples)
    (codes "\n")
