use Rattle.examples.proofs.record.record_length.Goals as goal

-- What framing answers is a record.
pub returns-in-Record : goal.returns-in-Record
returns-in-Record c = ((c.scan.ensures.record c.in-Record.length).0 c.in-Record.is).1
