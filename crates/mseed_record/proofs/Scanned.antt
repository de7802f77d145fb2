-- What the answer of the framing steps says of the records that there may be.
use Rattle.std.proofs.Common.{◌≡◌, ℕ, ◌^◌, ◌≤◌, ◌<◌, List, length, take, ◌↔◌}
use Rattle.mseed_record.specs.declared.framer.Scan.{Scan}
use Rattle.mseed_record.specs.declared.framer.Scan.TheVariants.{Need, Record, Not}
use Rattle.mseed_record.specs.declared.fault.FrameFault.{FrameFault}
use Rattle.mseed_record.specs.Record.{IsRecord}
use Rattle.mseed_record.specs.Scan.{Decides, HasNoRecord, HasNoShorter, Needs}
use Rattle.mseed_record.proofs.Framed.{framed}
use Rattle.mseed_record.proofs.Answered.{answered, refused, settles, no_record_yet}
use Rattle.mseed_record.proofs.Reached.{Comes, before, at, comes}
use Rattle.mseed_record.proofs.Prefixes.{Octets}
use Rattle.mseed_record.proofs.Needed.{needed}
use Rattle.mseed_record.proofs.Called.{asks_more, few_called, called}
use Rattle.mseed_record.proofs.OneAnswer.{one_answer}

framed_of : (prefix : List ℕ) (k : ℕ) → Octets prefix → Comes prefix (Record k)
    → (k ≤ length prefix) × IsRecord (take k prefix)
framed_of prefix k octets (before e) = absurd (no_record_yet prefix k e)
framed_of prefix k octets (at r h e) = framed r prefix k octets h e

-- an answer by the steps, and what follows
pub record Scanned (prefix : List ℕ) (a : Scan) : Type 0 where
  pub decides : Decides prefix a
  pub one : (other : Scan) → Decides prefix other → other ≡ a
  pub record_is : (k : ℕ) → (a ≡ Record k) ↔ ((k ≤ length prefix) × IsRecord (take k prefix))
  pub refused_is : (f : FrameFault) → a ≡ Not f → HasNoRecord prefix
  pub needed_is : (k : ℕ) → a ≡ Need k → Needs prefix k
  pub bound : (k : ℕ) → a ≡ Need k → (length prefix < k) × (k ≤ 2 ^ 20)
  pub least : (k : ℕ) → a ≡ Need k → HasNoShorter prefix k

pub scanned : (prefix : List ℕ) (a : Scan) → Octets prefix → Decides prefix a → Scanned prefix a
scanned prefix a octets d =
    let settled = settles prefix a d in
    let come = comes prefix a octets settled in
    record {
      decides = d;
      one = λ other o. one_answer prefix other a o d;
      record_is = λ k. (λ e. framed_of prefix k octets (rw e at come), λ r. answered prefix k a d r.0 r.1);
      refused_is = λ f e. refused prefix f (rw e at d);
      needed_is = λ k e. needed prefix k octets (rw e at come);
      bound = λ k e. (asks_more prefix k (rw e at settled), few_called prefix k (rw e at come));
      least = λ k e more n r. called prefix more k n (rw e at d) r;
    }
