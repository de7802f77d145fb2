use Rattle.std.proofs.Common.{◌≡◌, ℕ, List, ℤ, length}
use Rattle.mseed_time.specs.declared.order.Order.{Order}
use Rattle.mseed_steim.specs.declared.form.Form.{Form}
use Rattle.mseed_steim.specs.declared.form.Form.TheVariants.{Integers, Frames}
use Rattle.mseed_steim.specs.Samples.{IsPayloadReading}
use Rattle.mseed_steim.proofs.law.reading_has_count.Goals as goal

counted : (form : Form) (order : Order) (payload : List ℕ) (n : ℕ) (samples : List ℤ)
    → IsPayloadReading form order payload n samples → length samples ≡ n
counted (Integers width) order payload n samples h = h.0
counted (Frames scheme) order payload n samples h = h.1.count

pub returns : goal.returns
returns c = λ v s h. counted h.form v.payload_order _ _ s h.spelled
