use Rattle.std.proofs.Common.{◌≡◌}
use Rattle.std.proofs.Common.{arith}
use Rattle.mseed_steim.specs.private.Items.{items_of}
use Rattle.mseed_steim.proofs.Unpacking.{stepped, progressed}
use Rattle.mseed_steim.proofs.differences.DifferencesIterator.next.Goals.{In-None}
use Rattle.mseed_steim.proofs.differences.DifferencesIterator.next.Goals as goal

-- what was unpacked is all given, so the words' items are what is left
rest : (c : In-None) → c.args.self.now.items ≡ items_of c.self.inside.scheme c.self.inside.words
rest c = search arith

pub returns-in-None-clause-steps : goal.returns-in-None-clause-steps
returns-in-None-clause-steps c = grind (arith, rest, stepped)

pub returns-in-None-clause-goes : goal.returns-in-None-clause-goes
returns-in-None-clause-goes c =
    progressed c.self.inside.scheme c.args.self.now c.self.inside.words c.unpack_next.new.words c.unpack_next.new.ready
    c.unpack_next.result (rest (goal.at.returns-in-None-clause-goes c).In-None) c.unpack_next.ensures.step
