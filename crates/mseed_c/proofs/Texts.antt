-- What was read of bytes that are lent, and what of a text is shown.
use Rattle.std.proofs.Common.{◌≡◌, ◌∙◌, ◌++◌, ℕ, List, Option, Some, true, length, sym, ap, subst, refl}
use Rattle.std.proofs.Common.{Result, Ok, Err, IfSome}
use Rattle.std.specs.Result.{result_ok}
use Rattle.std.specs.Io.KnownBytes.{IsAtEnd}
use Rattle.mseed_stream.specs.Device.{BytesRead, BytesWritten, nothing_read}
use Rattle.mseed_stream.specs.Cutting.{GivesMore}
use Rattle.mseed_audit.specs.declared.summary.Summary.{Summary}
use Rattle.mseed_c.specs.Audited.{IsReadOf, IsShown, status_of, totals_of}
use Rattle.mseed_c.specs.Lent.{read_by, lent_by, left_of}
use Rattle.mseed_c.specs.Room.{overwritten}
use Rattle.mseed_c.specs.private.Reported.{IsReported}
use Rattle.mseed_c.specs.declared.auditing.Totals.{Totals}
use Rattle.mseed_c.specs.declared.lent.Lent.{Lent}

read_of : (bytes : List ℕ) (old new : Lent) → read_by old ≡ nothing_read → left_of old ≡ Some bytes
    → GivesMore (read_by old) (read_by new) (left_of old) (left_of new)
    → ((read_by new).is_at_end ≡ true → IsAtEnd (left_of new)) → IsReadOf bytes (read_by new)
read_of bytes old new read left tells known =
    let P : BytesRead → Type 0 = λ h. GivesMore h (read_by new) (left_of old) (left_of new) in
    let Q : Option (List ℕ) → Type 0 = λ o. GivesMore nothing_read (read_by new) o (left_of new) in
    let t = subst Q left (subst P read tells) in
    record {
      rest = lent_by new;
      whole = t.2 ∙ ap (λ (xs : List ℕ). xs ++ lent_by new) (sym t.1);
      at_end = known;
      fine = refl;
    }

pub shown : (Says : BytesRead → Summary → List ℕ → Type 0) (bytes room after : List ℕ) (old new : Lent)
    (summary : Summary) (text held : List ℕ) (totals : Totals) (status : ℕ)
    → read_by old ≡ nothing_read → left_of old ≡ Some bytes
    → GivesMore (read_by old) (read_by new) (left_of old) (left_of new)
    → ((read_by new).is_at_end ≡ true → IsAtEnd (left_of new))
    → Says (read_by new) summary text → held ≡ text
    → after ≡ overwritten held room → totals ≡ totals_of summary (length held) → status ≡ status_of summary
    → IsShown Says bytes room after totals status
shown Says bytes room after old new summary text held totals status read left tells known says same over counted is =
    record {
      read = read_by new;
      of_bytes = read_of bytes old new read left tells known;
      summary = summary;
      text = text;
      says = says;
      room = over ∙ ap (λ (xs : List ℕ). overwritten xs room) same;
      totals_are = counted ∙ ap (λ (xs : List ℕ). totals_of summary (length xs)) same;
      status_is = is;
    }

-- a call that succeeded wrote a text
pub reported_by : {F : Type 0} {h : BytesRead} {old new : BytesWritten} (Says : BytesRead → Summary → List ℕ → Type 0)
    (Outcome : Result Summary F → BytesRead → BytesWritten → BytesWritten → Type 0)
    → ((s : Summary) → Outcome (Ok s) h old new
    → (text : List ℕ) × (Says h s text × (new.bytes ≡ old.bytes ++ text)))
    → (r : Result Summary F) → Outcome r h old new → (found : Option Summary) → found ≡ result_ok r
    → IfSome found (λ s. IsReported Says s h old new)
reported_by {h = h} {old = old} {new = new} Says Outcome wrote (Ok s) is found e =
    let one = wrote s is in
    subst (λ (o : Option Summary). IfSome o (λ s. IsReported Says s h old new)) (sym e)
    (record { text = one.0; says = one.1.0; bytes = one.1.1 })
reported_by {h = h} {old = old} {new = new} Says Outcome wrote (Err f) is found e =
    subst (λ (o : Option Summary). IfSome o (λ s. IsReported Says s h old new)) (sym e) tt
