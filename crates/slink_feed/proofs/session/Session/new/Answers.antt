use Rattle.slink_feed.specs.Serving.{SessionState}
use Rattle.slink_feed.proofs.Fitting.{fits_new}
use Rattle.slink_feed.proofs.Stands.{new_stands}
use Rattle.slink_feed.proofs.session.Session.new.Goals as goal

pub invariant_of-result : goal.invariant_of-result
invariant_of-result c =
    let s : SessionState = record { state = c.new.result; held = c.new-2.result } in
    new_stands s c.new-2.ensures

pub returns-clause-fits : goal.returns-clause-fits
returns-clause-fits c feed = fits_new feed c.new.result c.new.ensures

pub returns-clause-stands : goal.returns-clause-stands
returns-clause-stands c = invariant_of-result c
