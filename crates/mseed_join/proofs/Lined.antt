-- What reading answers.
use Rattle.std.proofs.Common.{◌≡◌, ◌≢◌, ℕ, List, Option, Some, None, IfSome, IfNone, sym, ap, ◌∙◌}
use Rattle.mseed_stream.specs.declared.fault.StreamFault.{StreamFault}
use Rattle.mseed_audit.specs.declared.channel.Channel.{Channel}
use Rattle.mseed_join.specs.Lines.{channel_line, counts_line, faults_line, HasChannelLine, HasCountsLine}
use Rattle.mseed_join.specs.Lines.{HasFaultsLine}
use Rattle.mseed_join.specs.Lines.{HasFaultLine}
use Rattle.mseed_text.specs.Fault.{fault_line}
use Rattle.mseed_join.specs.private.Reading.{channel_at, counts_at, faults_at, fault_at}
use Rattle.mseed_join.proofs.Backwards.{channel_back, counts_back, faults_back, fault_back}
use Rattle.mseed_join.proofs.Spelled.{channel_spelled, counts_spelled, fault_spelled, faults_spelled}

-- what holds of each value that reading gives, and where it gives nothing
abbrev pub Lined : {X : Type 0} → (X → Type 0) → (X → Type 0) → Type 0 → Option X → Type 0
Lined Is Fits Never o = IfSome o Is × IfSome o Fits × IfNone o Never

lined : {X : Type 0} (Is Fits : X → Type 0) (Never : Type 0) (o r : Option X) → o ≡ r
    → ((x : X) → r ≡ Some x → Is x × Fits x) → (r ≡ None → Never) → Lined Is Fits Never o
lined Is Fits Never None r e some none = (tt, tt, none (sym e))
lined Is Fits Never (Some x) r e some none = ((some x (sym e)).0, (some x (sym e)).1, tt)

both : {X : Type 0} (o : Option X) (x : X) → o ≡ None → o ≡ Some x → ⊥
both o x e h = cc

-- ---- a line is read as what is written so, or as nothing
pub channel_lined : (bytes : List ℕ) (o : Option (List ℕ × Channel)) → o ≡ channel_at bytes
    → Lined (λ x. bytes ≡ channel_line x.0 x.1) (λ x. HasChannelLine x.0 x.1)
    ((key : List ℕ) (c : Channel) → HasChannelLine key c → bytes ≢ channel_line key c) o
channel_lined bytes o e =
    lined _ _ _ o (channel_at bytes) e (channel_spelled bytes) (λ none key c l is.
    both (channel_at bytes) (key, c) none (ap channel_at is ∙ channel_back key c l))

pub counts_lined : (bytes : List ℕ) (o : Option (ℕ × ℕ)) → o ≡ counts_at bytes
    → Lined (λ x. bytes ≡ counts_line x.0 x.1) (λ x. HasCountsLine x.0 x.1)
    ((records held : ℕ) → HasCountsLine records held → bytes ≢ counts_line records held) o
counts_lined bytes o e =
    lined _ _ _ o (counts_at bytes) e (counts_spelled bytes) (λ none n held l is.
    both (counts_at bytes) (n, held) none (ap counts_at is ∙ counts_back n held l))

pub faults_lined : (bytes : List ℕ) (o : Option ℕ) → o ≡ faults_at bytes
    → Lined (λ n. bytes ≡ faults_line n) HasFaultsLine ((n : ℕ) → HasFaultsLine n → bytes ≢ faults_line n) o
faults_lined bytes o e =
    lined _ _ _ o (faults_at bytes) e (faults_spelled bytes) (λ none n l is.
    both (faults_at bytes) n none (ap faults_at is ∙ faults_back n l))

pub fault_lined : (bytes : List ℕ) (offset : ℕ) (o : Option StreamFault) → o ≡ fault_at bytes offset
    → Lined (λ f. bytes ≡ fault_line f) (HasFaultLine offset)
    ((f : StreamFault) → HasFaultLine offset f → bytes ≢ fault_line f) o
fault_lined bytes offset o e =
    lined _ _ _ o (fault_at bytes offset) e (fault_spelled bytes offset) (λ none f l is.
    both (fault_at bytes offset) f none (ap (λ (xs : List ℕ). fault_at xs offset) is ∙ fault_back f offset l))
