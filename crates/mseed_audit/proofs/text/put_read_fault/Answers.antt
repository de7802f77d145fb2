use Rattle.std.proofs.Common.{append_assoc}
use Rattle.mseed_audit.proofs.text.put_read_fault.Goals as goal

pub returns-in-Blockette100-clause-text : goal.returns-in-Blockette100-clause-text
returns-in-Blockette100-clause-text c = rw c.in-Blockette100.is c.put.ensures.text

pub returns-in-LittleSteim-clause-text : goal.returns-in-LittleSteim-clause-text
returns-in-LittleSteim-clause-text c = rw c.in-LittleSteim.is c.put-in-LittleSteim.ensures.text

pub returns-in-Short-clause-text : goal.returns-in-Short-clause-text
returns-in-Short-clause-text c = rw (c.in-Short.is, c.put_labelled-in-Short.ensures.text) (simp append_assoc)

pub returns-in-Overflow-clause-text : goal.returns-in-Overflow-clause-text
returns-in-Overflow-clause-text c = rw (c.in-Overflow.is, c.put_labelled-in-Overflow.ensures.text) (simp append_assoc)

pub returns-in-BadWord-clause-text : goal.returns-in-BadWord-clause-text
returns-in-BadWord-clause-text c =
    rw (c.in-BadWord.is, c.put_labelled-in-BadWord-2.ensures.text, c.put_labelled-in-BadWord.ensures.text)
    (simp append_assoc)
