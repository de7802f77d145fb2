use Rattle.mseed_pack.proofs.payloads.PayloadsFillerRefSliceI32.fill.Goals as goal

pub returns-in-Int16-clause-filled : goal.returns-in-Int16-clause-filled
returns-in-Int16-clause-filled c = λ xs stands left.
    rw c.in-Int16.is (rw stands.0 at c.fill_integers.ensures.holds, (stands.0, rw c.in-Int16.is at stands.1))

pub returns-in-Int32-clause-filled : goal.returns-in-Int32-clause-filled
returns-in-Int32-clause-filled c = λ xs stands left. rw c.in-Int32.is (
  rw stands.0 at c.fill_integers-in-Int32.ensures.holds,
  (stands.0, rw c.in-Int32.is at stands.1),
)

pub returns-in-Steim1-clause-filled : goal.returns-in-Steim1-clause-filled
returns-in-Steim1-clause-filled c = λ xs stands left. rw c.in-Steim1.is (
  rw stands.0 at c.fill_listed.ensures.filled,
  (stands.0, rw stands.0 at c.fill_listed.ensures.ahead),
)

pub returns-in-Steim2-clause-filled : goal.returns-in-Steim2-clause-filled
returns-in-Steim2-clause-filled c = λ xs stands left. rw c.in-Steim2.is (
  rw stands.0 at c.fill_listed-in-Steim2.ensures.filled,
  (stands.0, rw stands.0 at c.fill_listed-in-Steim2.ensures.ahead),
)
