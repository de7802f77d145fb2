use Rattle.slink_live.proofs.Inputs.{input_grows, one_feed, one_input}
use Rattle.slink_live.proofs.Rings.{shows_fed}
use Rattle.slink_live.proofs.law.input_in_order.Goals as goal

pub returns-clause-one : goal.returns-clause-one
returns-clause-one c places bytes records others rest left a b = one_input places bytes records others rest left a b

pub returns-clause-grows : goal.returns-clause-grows
returns-clause-grows c places bytes more records others rest left a b =
    input_grows places bytes more records others rest left a b

pub returns-clause-rings : goal.returns-clause-rings
returns-clause-rings c start bytes feed other a b = one_feed start bytes feed other a b

pub returns-clause-shows : goal.returns-clause-shows
returns-clause-shows c start records k first w pushed here s = shows_fed start records k first w pushed here s
