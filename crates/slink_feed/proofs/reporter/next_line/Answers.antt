use Rattle.std.proofs.Common.{◌++◌, ◌∙◌, List, ℕ, Option, ap, append_assoc, arith, codes, sym, take}
use Rattle.slink_feed.specs.declared.dialogue.Wanted.{Wanted}
use Rattle.slink_feed.specs.Reporter.{options_of, word_of, words_of}
use Rattle.slink_feed.proofs.ReportLines.{words_more}
use Rattle.slink_feed.proofs.reporter.next_line.Goals as goal

pub loop-want-preserved : goal.loop-want-preserved
loop-want-preserved c =
    let head : List ℕ = codes "mseed: next" ++ options_of c.args.first.now in
    let words : List ℕ = words_of (take c.loop-want.want-index c.args.others.now) in
    let want : Option Wanted = c.want-item.result in record {
      text = c.put_word.ensures.text ∙ (ap (λ line. line ++ word_of want) c.loop-want.invariant.text
          ∙ (append_assoc head words (word_of want)
          ∙ ap (λ ws. head ++ ws) (ap (λ (x : Option Wanted). words ++ word_of x) c.want-item.is
          ∙ sym (words_more c.args.others.now c.loop-want.want-index want c.loop-want-test.true))));
      short = omega (arith, c.loop-want.invariant.short, c.put_word.ensures.short);
    }
