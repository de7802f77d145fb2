use Rattle.std.proofs.Common.{◌≡◌, [], sym}
use Rattle.mseed_audit.proofs.assembly.channel_with.Goals as goal

pub returns-in-Some-clause-bounded : goal.returns-in-Some-clause-bounded
returns-in-Some-clause-bounded c = λ n h. c.add.ensures.bounded n (rw c.in-Some.is at h)

-- a record of the channel comes after the others
pub returns-in-None-clause-stands : goal.returns-in-None-clause-stands
returns-in-None-clause-stands c = λ ps before.
    let none : ps ≡ [] = rw c.in-None.is at before in
    rw (sym c.if-not-is_of_channel.ensures, none) c.begin.ensures.stands

pub returns-in-Some-clause-stands : goal.returns-in-Some-clause-stands
returns-in-Some-clause-stands c = λ ps before.
    rw (sym c.if-not-is_of_channel.ensures) (c.add.ensures.takes.stands ps (rw c.in-Some.is at before))
