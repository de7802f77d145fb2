-- Channels, one after another: their lines, and how many are broken.
use Rattle.std.proofs.Common.{◌≡◌, ℕ, ◌+◌, ◌<◌, ◌++◌, List, [], ◌∷◌, length, map, take, get_or, Option, refl, sym}
use Rattle.std.proofs.Common.{ap, ◌∙◌, append_assoc, append-nil, arith}
use Rattle.mseed_audit.specs.declared.channel.Channel.{Channel}
use Rattle.mseed_audit.specs.declared.channel.Findings.{Findings}
use Rattle.mseed_audit.specs.declared.channel.Findings.TheVariants.{Nothing, Counted}
use Rattle.mseed_audit.specs.Summary.{broken_count}
use Rattle.mseed_text.specs.Fault.{end_line}
use Rattle.mseed_stream.specs.declared.fault.StreamFault.{StreamFault}
use Rattle.mseed_audit.proofs.OneMore.{prefix_more, text_more}
use Rattle.mseed_join.specs.Lines.{channel_line, counts_line, faults_line, header_line}
use Rattle.mseed_join.specs.Joined.{verdict_at}
use Rattle.mseed_join.specs.Written.{channel_lines, part_text}

lines_snoc : (cs : List (List ℕ × Channel)) (c : List ℕ × Channel)
    → channel_lines (cs ++ c ∷ []) ≡ channel_lines cs ++ channel_line c.0 c.1
lines_snoc [] c = append-nil (channel_line c.0 c.1)
lines_snoc (d ∷ cs) c = ap (λ (xs : List ℕ). channel_line d.0 d.1 ++ xs) (lines_snoc cs c)
    ∙ sym (append_assoc (channel_line d.0 d.1) (channel_lines cs) (channel_line c.0 c.1))

-- the lines with one more, after some text
pub lines_more : (cs : List (List ℕ × Channel)) (n : ℕ) (c : List ℕ × Channel) (first old new : List ℕ)
    → n < length cs → c ≡ get_or cs n c → old ≡ first ++ channel_lines (take n cs)
    → new ≡ old ++ channel_line c.0 c.1 → new ≡ first ++ channel_lines (take (n + 1) cs)
lines_more = text_more (λ c. channel_line c.0 c.1) channel_lines lines_snoc

-- a channel with findings is broken
abbrev pub broken_by : Findings → ℕ
broken_by (Nothing head tail) = 0
broken_by (Counted count first head tail) = 1

count_one : (key : List ℕ) (records samples : ℕ) (findings : Findings) (cs : List (List ℕ × Channel))
    → broken_count (map verdict_at ((key, record { records = records; samples = samples; findings = findings }) ∷ cs))
    ≡ broken_count (map verdict_at cs) + broken_by findings
count_one key records samples (Nothing head tail) cs = omega arith
count_one key records samples (Counted count first head tail) cs = refl

count_snoc : (cs : List (List ℕ × Channel)) (c : List ℕ × Channel)
    → broken_count (map verdict_at (cs ++ c ∷ [])) ≡ broken_count (map verdict_at cs) + broken_by c.1.findings
count_snoc [] c = count_one c.0 c.1.records c.1.samples c.1.findings []
count_snoc (d ∷ cs) c =
    let one = count_one d.0 d.1.records d.1.samples d.1.findings (cs ++ c ∷ []) in
    let before = count_one d.0 d.1.records d.1.samples d.1.findings cs in
    let later = count_snoc cs c in
    omega (arith, one, before, later)

-- the count with one more
pub count_more : (cs : List (List ℕ × Channel)) (n : ℕ) (c : List ℕ × Channel) → n < length cs → c ≡ get_or cs n c
    → broken_count (map verdict_at (take (n + 1) cs))
    ≡ broken_count (map verdict_at (take n cs)) + broken_by c.1.findings
count_more cs n c h is =
    ap (λ (ds : List (List ℕ × Channel)). broken_count (map verdict_at ds)) (prefix_more cs n c h is)
    ∙ count_snoc (take n cs) c

-- the lines of a part, in their order
part_joined : (text header channels counts faults end : List ℕ)
    → text ++ header ++ channels ++ counts ++ (faults ++ end) ≡ text ++ (header ++ channels ++ counts ++ faults ++ end)
part_joined text header channels counts faults end = simp append_assoc

pub part_lines : (channels : List (List ℕ × Channel)) (records bytes faults : ℕ) (end : Option StreamFault)
    (text : List ℕ)
    → text ++ header_line ++ channel_lines channels ++ counts_line records bytes ++ (faults_line faults ++ end_line end)
    ≡ text ++ part_text (record {
      part = record { channels = channels; records = records; bytes = bytes };
      faults = faults;
      end = end;
    })
part_lines channels records bytes faults end text =
    part_joined text header_line (channel_lines channels) (counts_line records bytes) (faults_line faults)
    (end_line end)
