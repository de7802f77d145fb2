-- Texts before what follows them, joined from the left to the right.
use Rattle.std.proofs.Common.{◌≡◌, ℕ, suc, List, [], ◌++◌, Option, Some, ℤ, sym, ap, ◌∙◌, append_assoc, arith}
use Rattle.std.specs.Prelude.{decimal, codes}
use Rattle.std.specs.Fmt.{signed_decimal}
use Rattle.std.proofs.lemmas.Fmt.{decimal_digit}
use Rattle.mseed_time.specs.Rate.{Ratio}
use Rattle.mseed_audit.specs.declared.finding.Finding.{Finding}
use Rattle.mseed_text.specs.Fault.{frame_words, fault_line}
use Rattle.mseed_audit.specs.Text.{why_text, read_text}
use Rattle.mseed_steim.specs.declared.fault.ReadFault.TheVariants.{BadWord, LastDiffers}
use Rattle.mseed_stream.specs.declared.fault.StreamFault.{StreamFault}
use Rattle.mseed_stream.specs.declared.fault.StreamFault.TheVariants.{Frame, Truncated, Read, Turns, Memory}
use Rattle.mseed_audit.specs.declared.channel.Channel.{Channel}
use Rattle.mseed_audit.specs.declared.channel.Findings.{Findings}
use Rattle.mseed_audit.specs.declared.channel.Findings.TheVariants.{Nothing, Counted}
use Rattle.mseed_audit.specs.declared.channel.Head.{Head}
use Rattle.mseed_audit.specs.declared.tail.Tail.{Tail}
use Rattle.mseed_join.specs.Lines.{key_text, leap_text, ratio_text, head_text, tail_text, text_or_none, first_text}
use Rattle.mseed_join.specs.Lines.{findings_text, channel_line, counts_line, faults_line, IsFaultAfter}
use Rattle.mseed_join.proofs.Digits.{Ends}

abbrev pub ratio_then : Ratio → List ℕ → List ℕ
ratio_then r rest = decimal r.num ++ (codes "/" ++ (decimal r.den ++ rest))

pub ratio_leading : (r : Ratio) (rest : List ℕ) → ratio_text r ++ rest ≡ ratio_then r rest
ratio_leading r rest = simp append_assoc

abbrev pub head_then : Head → List ℕ → List ℕ
head_then h rest =
    decimal h.number ++ (codes " " ++ (decimal h.offset ++ (codes " " ++ (signed_decimal h.start ++ (codes " "
    ++ ratio_then h.rate rest)))))

pub head_leading : (h : Head) (rest : List ℕ) → head_text h ++ rest ≡ head_then h rest
head_leading h rest = simp append_assoc

abbrev pub tail_then : Tail → List ℕ → List ℕ
tail_then t rest =
    signed_decimal t.start ++ (codes " " ++ (decimal t.samples ++ (codes " " ++ ratio_then t.rate (codes " "
    ++ (leap_text t.leap ++ rest)))))

pub tail_leading : (t : Tail) (rest : List ℕ) → tail_text t ++ rest ≡ tail_then t rest
tail_leading t rest = simp append_assoc

pub bad_word_leading : (frame word : ℕ) (rest : List ℕ) → read_text (BadWord frame word) ++ rest
    ≡ codes "badword " ++ (decimal frame ++ (codes " " ++ (decimal word ++ rest)))
bad_word_leading frame word rest = simp append_assoc

pub last_differs_leading : (found constant : ℤ) (rest : List ℕ) → read_text (LastDiffers found constant) ++ rest
    ≡ codes "lastdiffers " ++ (signed_decimal found ++ (codes " " ++ (signed_decimal constant ++ rest)))
last_differs_leading found constant rest = simp append_assoc

abbrev pub first_then : Finding → List ℕ → List ℕ
first_then f rest =
    codes " first " ++ (decimal f.number ++
    (codes " " ++ (decimal f.offset ++ (codes " " ++ (why_text f.why ++ rest)))))

pub first_leading : (f : Finding) (rest : List ℕ) → (codes " " ++ first_text f) ++ rest ≡ first_then f rest
first_leading f rest = simp append_assoc

-- the findings, by the number of them and what follows it
abbrev pub findings_then : Option Head → Option Tail → ℕ → List ℕ → List ℕ
findings_then head tail count rest =
    codes " head " ++ (text_or_none head_text head ++ (codes " tail " ++ (text_or_none tail_text tail
    ++ (codes " findings " ++ (decimal count ++ rest)))))

pub nothing_leading : (head : Head) (tail : Tail) (rest : List ℕ)
    → findings_text (Nothing head tail) ++ rest ≡ findings_then (Some head) (Some tail) 0 rest
nothing_leading head tail rest =
    joined (head_text head) (tail_text tail)
    ∙ ap (λ (ds : List ℕ). codes " head " ++ (head_text head ++ (codes " tail " ++ (tail_text tail
    ++ (codes " findings " ++ (ds ++ rest)))))) zero_text
  where
    zero_text : codes "0" ≡ decimal 0
    zero_text = sym (decimal_digit 0 (omega arith))

    joined : (a b : List ℕ) → (codes " head " ++ a ++ codes " tail " ++ b ++ codes " findings 0") ++ rest
        ≡ codes " head " ++ (a ++ (codes " tail " ++ (b ++ (codes " findings " ++ (codes "0" ++ rest)))))
    joined a b = simp append_assoc

pub counted_leading : (count : ℕ) (first : Finding) (head : Option Head) (tail : Option Tail) (rest : List ℕ)
    → findings_text (Counted count first head tail) ++ rest ≡ findings_then head tail count (first_then first rest)
counted_leading count first head tail rest =
    search (arith, first_leading, append_assoc)

pub channel_leading : (key : List ℕ) (c : Channel) → channel_line key c
    ≡ key_text key ++ (codes " records " ++ (decimal c.records ++ (codes " samples " ++ (decimal c.samples
    ++ (findings_text c.findings ++ codes "\n")))))
channel_leading key c = search (arith, append_assoc)

pub counts_leading : (records bytes : ℕ) → counts_line records bytes
    ≡ codes "records " ++ (decimal records ++ (codes " bytes " ++ (decimal bytes ++ codes "\n")))
counts_leading records bytes = simp append_assoc

pub faults_leading : (n : ℕ) → faults_line (suc n) ≡ codes "faults " ++ (decimal (suc n) ++ codes "\n")
faults_leading n = simp append_assoc

-- what fails, after the offset
abbrev pub fault_words : StreamFault → List ℕ
fault_words (Frame offset f) = frame_words f
fault_words (Truncated offset have) = codes "truncated " ++ decimal have
fault_words (Read offset) = codes "read"
fault_words (Turns offset) = codes "turns"
fault_words Memory = []

abbrev pub fault_then : ℕ → StreamFault → List ℕ
fault_then offset f = codes "fault at " ++ (decimal offset ++ (codes " " ++ (fault_words f ++ codes "\n")))

-- after so many bytes
pub fault_of : (f : StreamFault) (bytes : ℕ) → IsFaultAfter bytes f → fault_line f ≡ fault_then bytes f
fault_of f bytes h1 = grind (arith, append_assoc)

-- a channel's findings begin with a space
pub findings_ends : (f : Findings) (rest : List ℕ) → Ends (findings_text f ++ rest)
findings_ends f rest = grind arith
