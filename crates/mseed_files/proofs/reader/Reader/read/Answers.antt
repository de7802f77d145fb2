use Rattle.std.proofs.Common.{Ok, ap}
use Rattle.mseed_files.proofs.Opening.{nothing_given}
use Rattle.mseed_files.proofs.reader.Reader.read.Goals as goal

pub returns-clause-bytes : goal.returns-clause-bytes
returns-clause-bytes g c =
    let given = nothing_given c.args.self.now c.loop-self.self c.has_file.new.self c.loop-self.invariant.known
    c.in_ok-has_file.ensures.known (c.in_ok-has_file.ensures.ended (ap Ok c.if-branch.false)) in
    (given.0, λ none some. given.1)
