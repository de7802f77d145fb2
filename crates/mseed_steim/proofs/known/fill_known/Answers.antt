use Rattle.mseed_record.specs.Viewing.{view_of}
use Rattle.mseed_steim.specs.declared.form.Form.TheVariants.{Frames}
use Rattle.mseed_steim.specs.Reading.{HoldsIn}
use Rattle.mseed_steim.proofs.Constants.{constants_ends}
use Rattle.mseed_steim.proofs.known.fill_known.Goals as goal

pub returns-in-Ok-Frames-default-clause-ends : goal.returns-in-Ok-Frames-default-clause-ends
returns-in-Ok-Frames-default-clause-ends c =
    let found = c.in-Ok-Frames-default in
    let held : HoldsIn (view_of c.args.view.now) (Frames found.scheme) found.payload.now =
    rw found.field-0-0-is at found.ensures.held in
    constants_ends (view_of c.args.view.now) found.scheme found.payload.now c.fill_payload.result held
    c.fill_payload.ensures.first c.fill_payload.ensures.last
