use Rattle.std.proofs.Common.{◌^◌, None, rules, arith}
use Rattle.mseed_record.specs.Viewing.{view_of}
use Rattle.mseed_audit.proofs.Found.{on_err, room_with, there_unchanged}
use Rattle.mseed_audit.proofs.Steps.{adds_silent, is_there, there_adds, there_bounded}
use Rattle.mseed_audit.proofs.roster.Roster.add_sound.Goals as goal

pub add_sound-requires-clause-bounded : goal.add_sound-requires-clause-bounded
add_sound-requires-clause-bounded g c =
    there_bounded (is_there c.codes.result _ _ _ _ _ c.find.ensures.stays c.self.view_is
    c.in-Some.ensures.place c.channel_mut.ensures.value) (2 ^ 40) c.requires

pub invariant_of-self-2 : goal.invariant_of-self-2
invariant_of-self-2 g c = room_with _ _ _ _ _ _ c.find.ensures.stays c.self.invariant

pub invariant_of-self-in_err-add_sound : goal.invariant_of-self-in_err-add_sound
invariant_of-self-in_err-add_sound g c = room_with _ _ _ _ _ _ c.find.ensures.stays c.self.invariant

pub returns-in_err-add_sound-clause-unchanged : goal.returns-in_err-add_sound-clause-unchanged
returns-in_err-add_sound-clause-unchanged g c =
    on_err _ (there_unchanged _ _ _ _ _ _ c.find.ensures.stays c.self.view_is c.channel_mut.ensures.value
    c.in_err-add_sound.ensures.unchanged)

pub returns-then-samples-eq0-clause-adds : goal.returns-then-samples-eq0-clause-adds
returns-then-samples-eq0-clause-adds g c = λ offset number. search (rules, arith, adds_silent)

pub returns-clause-adds : goal.returns-clause-adds
returns-clause-adds g c = λ offset number.
    there_adds (is_there c.codes.result _ _ _ _ _ c.find.ensures.stays c.self.view_is c.in-Some.ensures.place
    c.channel_mut.ensures.value) _ (record { view = view_of c.args.view.now; offset = offset; number = number }) None
    c.codes.ensures (search rules) (c.in_ok-add_sound.ensures.takes offset number) c.in_ok-add_sound.ensures.bounded
