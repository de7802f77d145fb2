use Rattle.std.proofs.Common.{◌≡◌, ◌^◌, ◌∙◌, None, sym, arith, rules}
use Rattle.std.specs.Map.{lookup}
use Rattle.mseed_record.specs.Viewing.{view_of}
use Rattle.mseed_audit.specs.Channels.{same_key}
use Rattle.mseed_audit.proofs.Found.{room_with}
use Rattle.mseed_audit.proofs.Rosters.{none_there}
use Rattle.mseed_audit.proofs.Steps.{adds_silent, is_there, there_adds, there_bounded}
use Rattle.mseed_audit.proofs.roster.Roster.add.Goals as goal

pub add-requires-clause-bounded : goal.add-requires-clause-bounded
add-requires-clause-bounded g c =
    there_bounded (is_there c.codes-codes.result _ _ _ _ _ c.find.ensures.stays c.self.view_is
    c.in-Some.ensures.place c.channel_mut.ensures.value) (2 ^ 40) c.requires.bounded

pub invariant_of-self : goal.invariant_of-self
invariant_of-self g c = room_with _ _ _ _ _ _ c.find.ensures.stays c.self.invariant

pub returns-then-samples-eq0-clause-adds : goal.returns-then-samples-eq0-clause-adds
returns-then-samples-eq0-clause-adds g c = search (rules, arith, adds_silent)

pub returns-in-Some-clause-adds : goal.returns-in-Some-clause-adds
returns-in-Some-clause-adds g c =
    there_adds (is_there c.codes-codes.result _ _ _ _ _ c.find.ensures.stays c.self.view_is c.in-Some.ensures.place
    c.channel_mut.ensures.value) _
    (record { view = view_of c.args.view.now; offset = c.args.offset; number = c.args.number }) c.add.result
    c.codes-codes.ensures (search rules) c.add.ensures.takes c.add.ensures.bounded

pub begin-requires-clause-new : goal.begin-requires-clause-new
begin-requires-clause-new g c =
    rw c.find.ensures.stays (none_there (same_key c.codes-codes.result) _ (sym c.in-None.ensures.place))

pub returns-in_ok-begin-in-None-clause-adds : goal.returns-in_ok-begin-in-None-clause-adds
returns-in_ok-begin-in-None-clause-adds g c =
    rw (c.find.ensures.stays ∙ c.self.view_is) at c.in_ok-begin-in-None.ensures.adds

pub returns-in_err-begin-in-None-clause-memory : goal.returns-in_err-begin-in-None-clause-memory
returns-in_err-begin-in-None-clause-memory g c =
    let none : lookup (same_key c.codes-codes.result) c.args.self.now ≡ None =
    rw (← c.self.view_is) (none_there (same_key c.codes-codes.result) _ (sym c.in-None.ensures.place)) in
    grind (arith, rw c.codes-codes.ensures at none)
