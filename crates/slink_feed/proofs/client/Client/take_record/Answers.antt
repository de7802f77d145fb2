use Rattle.std.proofs.Common.{sym}
use Rattle.std.proofs.lemmas.Bool.{eqb-true}
use Rattle.std.proofs.lemmas.List.{nil_from_length}
use Rattle.slink_feed.proofs.Received.{begun_none}
use Rattle.slink_feed.proofs.client.Client.take_record.Goals as goal

pub returns-in-Packets-clause-brings : goal.returns-in-Packets-clause-brings
returns-in-Packets-clause-brings c =
    let none = nil_from_length _ (eqb-true _ 0 (sym c.if-not-is_empty.ensures)) in
    rw (← c.self.view_is, none) c.read_leading.ensures.brings

pub invariant_of-self : goal.invariant_of-self
invariant_of-self c = rw (nil_from_length _ (eqb-true _ 0 (sym c.if-not-is_empty.ensures))) (begun_none _)
