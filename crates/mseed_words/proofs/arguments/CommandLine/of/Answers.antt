use Rattle.std.proofs.Common.{◌∙◌, ◌+◌, ◌∷◌, [], ap, length, length-append, string_bytes, sym}
use Rattle.mseed_words.proofs.GivenWords.{word_more}
use Rattle.mseed_words.proofs.WordTexts.{texts_on}
use Rattle.mseed_words.proofs.arguments.CommandLine.of.Goals as goal

pub loop-index-preserved : goal.loop-index-preserved
loop-index-preserved g c =
    let pushed = c.in_ok-push-2.ensures.items in (
      word_more (λ word. word.items) (g.G.Arguments.given c.args.arguments.now) c.loop-index.index
          c.loop-index.words.items c.push-in-loop-index.new.self.items c.in-Some.word c.loop-index.invariant.0 pushed
          (rw c.in-Some.is at c.in_ok-word.ensures),
      texts_on (λ word. word.items) (λ text. string_bytes text) c.loop-index.words.items
          c.push-in-loop-index.new.self.items c.loop-index.texts.items c.push.new.self.items c.loop-index.index
          c.in-Some.word c.in_ok-text_of.field-0 c.loop-index.have_ended c.ends_options.result
          c.loop-index.invariant.2 pushed c.in_ok-push.ensures.items c.loop-index.invariant.1
          (rw c.deref-in-loop-index.ensures.value at c.ends_options.ensures)
          (rw c.deref.ensures.value at c.in_ok-text_of.ensures),
      ap (λ n. n + 1) c.loop-index.invariant.2
          ∙ sym (ap length pushed ∙ length-append c.loop-index.words.items (c.in-Some.word ∷ [])),
    )
