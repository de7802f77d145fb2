use Rattle.mseed.proofs.ReadFiles.{word_pushed}
use Rattle.mseed.proofs.files.names_of.Goals as goal

pub loop-text-preserved : goal.loop-text-preserved
loop-text-preserved c =
    word_pushed _ c.args.texts.now c.loop-text.names.items c.push-in-loop-text.new.self.items c.loop-text.text-index _
    c.word_of.result c.loop-text-test.true c.loop-text.invariant c.in_ok-push-2.ensures.items c.word_of.ensures
