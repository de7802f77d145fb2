use Rattle.slink_feed.proofs.ReportedOver.{reported_both, reported_link}
use Rattle.slink_feed.proofs.reported.wants_move_by_records.Goals as goal

pub returns-clause-link : goal.returns-clause-link
returns-clause-link c = λ start stream events now reads. reported_link start stream events now reads

pub returns-clause-links : goal.returns-clause-links
returns-clause-links c = λ holes old now new some more h too. reported_both holes old now new some more h too
