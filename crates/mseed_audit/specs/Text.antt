-- The text of an audit.
use Rattle.std.specs.Prelude.{ℕ, List, [], ◌∷◌, ◌++◌, length, codes, decimal, ℤ, Option}
use Rattle.std.specs.Fmt.{signed_decimal}
use Rattle.mseed_time.specs.Rate.{Ratio}
use Rattle.mseed_time.specs.Text.{fault_word, time_text}
use Rattle.mseed_record.specs.Header.{key_at}
use Rattle.mseed_steim.specs.declared.fault.ReadFault.{ReadFault}
use Rattle.mseed_steim.specs.declared.fault.ReadFault.TheVariants.{Blockette100, Encoding, LittleSteim, DataOffset}
use Rattle.mseed_steim.specs.declared.fault.ReadFault.TheVariants.{Short, BadWord, Overflow, LastDiffers}
use Rattle.mseed_steim.specs.declared.fault.ReadFault.TheVariants.{Memory as NoMemory}
use Rattle.mseed_stream.specs.declared.fault.StreamFault.{StreamFault}
use Rattle.mseed_text.specs.Fault.{end_line}
use Rattle.mseed_text.specs.Name.{name_text}
use Rattle.mseed_text.specs.Time.{ratio_text, start_text}
use Rattle.mseed_audit.specs.declared.finding.Why.{Why}
use Rattle.mseed_audit.specs.declared.finding.Why.TheVariants.{Time, Rate, Read as ReadFailed, RateChange, Leap, Gap}
use Rattle.mseed_audit.specs.declared.finding.Why.TheVariants.{Overlap}
use Rattle.mseed_audit.specs.declared.finding.Finding.{Finding}
use Rattle.mseed_audit.specs.declared.verdict.Verdict.{Verdict}
use Rattle.mseed_audit.specs.declared.verdict.Verdict.TheVariants.{Continuous, Broken}
use Rattle.mseed_audit.specs.Reported.{Reported}

-- the text of samples that can't be read; a want of memory is no finding
abbrev pub read_text : ReadFault → List ℕ
read_text Blockette100 = codes "blockette100"
read_text (Encoding code) = codes "encoding " ++ decimal code
read_text LittleSteim = codes "littlesteim"
read_text DataOffset = codes "dataoffset"
read_text (Short found) = codes "short " ++ decimal found
read_text (BadWord frame word) = codes "badword " ++ decimal frame ++ codes " " ++ decimal word
read_text (Overflow index) = codes "overflow " ++ decimal index
read_text (LastDiffers found constant) =
    codes "lastdiffers " ++ signed_decimal found ++ codes " " ++ signed_decimal constant
read_text NoMemory = []

abbrev pub why_text : Why → List ℕ
why_text (Time fault) = codes "time " ++ fault_word fault
why_text Rate = codes "norate"
why_text (ReadFailed fault) = read_text fault
why_text RateChange = codes "ratechange"
why_text Leap = codes "leap"
why_text (Gap us) = codes "gap " ++ decimal us
why_text (Overlap us) = codes "overlap " ++ decimal us

-- the line of a continuous channel, from its name on
abbrev pub continuous_words : ℤ → Ratio → ℕ → ℕ → List ℕ
continuous_words start rate records samples =
    codes " continuous " ++ time_text start ++ codes " rate " ++ ratio_text rate ++ codes " records " ++ decimal records
    ++ codes " samples " ++ decimal samples ++ codes "\n"

-- the line of a broken channel, from its name on
abbrev pub broken_words : Finding → ℕ → List ℕ
broken_words first count =
    codes " broken findings " ++ decimal count ++ codes " first record " ++ decimal first.number
    ++ codes " offset " ++ decimal first.offset ++ codes " " ++ why_text first.why ++ codes "\n"

-- a channel's line, by its verdict
abbrev pub verdict_line : List ℕ → Verdict → List ℕ
verdict_line key (Continuous start rate records samples) =
    name_text key ++ continuous_words start rate records samples
verdict_line key (Broken first count) = name_text key ++ broken_words first count

-- how many records and channels there are
abbrev pub total_line : ℕ → ℕ → List ℕ
total_line records channels =
    codes "records " ++ decimal records ++ codes " channels " ++ decimal channels ++ codes "\n"

-- the line of a record with a finding
abbrev pub reported_line : Reported → List ℕ
reported_line t =
    decimal t.finding.offset ++ codes " " ++ name_text (key_at t.view.bytes) ++ codes " record "
    ++ decimal t.finding.number
    ++ codes " start " ++ start_text t.view ++ codes " " ++ why_text t.finding.why ++ codes "\n"

abbrev pub reported_lines : List Reported → List ℕ
reported_lines [] = []
reported_lines (t ∷ ts) = reported_line t ++ reported_lines ts

-- the lines of the verdicts
abbrev pub verdict_lines : List (List ℕ × Verdict) → List ℕ
verdict_lines [] = []
verdict_lines (v ∷ vs) = verdict_line v.0 v.1 ++ verdict_lines vs

-- the text of an audit: a line for each verdict, how many records and channels there are, and the fault
abbrev pub audit_text : List (List ℕ × Verdict) → ℕ → Option StreamFault → List ℕ
audit_text verdicts records end = verdict_lines verdicts ++ total_line records (length verdicts) ++ end_line end
