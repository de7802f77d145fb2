-- A part without its last line.
use Rattle.std.proofs.Common.{◌≡◌, ℕ, ◌++◌, List, [], take, None, refl, sym, ap, ◌∙◌, subst, append-nil, append_assoc}
use Rattle.std.proofs.Common.{length, arith}
use Rattle.std.proofs.Math.Seq.{take-append_seam}
use Rattle.std.specs.List.{concat}
use Rattle.mseed_record.specs.View.{View}
use Rattle.mseed_stream.specs.Archive.{clean, is_clean}
use Rattle.mseed_stream.specs.Cutting.{read_from}
use Rattle.mseed_stream.specs.Device.{BytesRead}
use Rattle.mseed_stream.specs.Walk.{bytes_in}
use Rattle.mseed_text.specs.Fault.{end_line}
use Rattle.mseed_join.specs.Parts.{Held, IsPartOf}
use Rattle.mseed_join.specs.AuditPart.{AuditedPart}
use Rattle.mseed_join.specs.Headline.{EndsByBytes, IsReadOf, without_end}
use Rattle.mseed_join.specs.Written.{Written, part_text}
use Rattle.mseed_join.proofs.Cuts.{IsKnown, known, one_known, read_joined}
use Rattle.mseed_join.proofs.Parting.{sizes}

-- the first bytes of an archive, up to its last record
first_known : (archive : List ℕ) (h : BytesRead) (a : AuditedPart h) → IsReadOf archive h
    → IsKnown (take a.written.part.bytes archive) a.audited.views None
first_known archive h a read =
    let all = a.audited.all in
    let records : List ℕ = concat (bytes_in a.audited.views) in
    let left : List ℕ = read_from all.offset h ++ read.rest in
    let whole = read.bytes ∙ ap (λ (xs : List ℕ). xs ++ read.rest) (read_joined h a.audited.views a.audited.end all)
    ∙ append_assoc records (read_from all.offset h) read.rest in
    let size : a.written.part.bytes ≡ length records = a.part.bytes ∙ sym (sizes a.audited.views) in
    record {
      rest = [];
      cut = record {
        views_are = all.records.each;
        joined = (λ i. take (size i) (whole i)) ∙ take-append_seam records left ∙ sym (append-nil records);
      };
      ends = record { at = clean; is = is_clean refl; end_is = refl };
    }

pub cut_is : ((a b : Held) (views : List View) → IsPartOf a views → IsPartOf b views → a ≡ b)
    → (archive : List ℕ) (h g : BytesRead) (a : AuditedPart h) (b : AuditedPart g) → IsReadOf archive h
    → IsReadOf (take a.written.part.bytes archive) g → EndsByBytes b.written.end → b.written ≡ without_end a.written
cut_is only archive h g a b read cut by =
    let both = one_known (take a.written.part.bytes archive) a.audited.views b.audited.views None b.audited.end
    (first_known archive h a read)
    (known (take a.written.part.bytes archive) g b.audited.views b.audited.end cut b.audited.all
    (subst EndsByBytes b.end by)) in
    let part : IsPartOf a.written.part b.audited.views = search arith in
    let same : b.written.part ≡ a.written.part = search arith in
    let faults : b.written.faults ≡ a.written.faults = b.faults ∙ sym a.faults in
    let none : b.written.end ≡ None = b.end ∙ sym both.1 in
    λ i. record { part = same i; faults = faults i; end = none i }

-- the line that is left out
pub cut_text : (w : Written) → part_text w ≡ part_text (without_end w) ++ end_line w.end
cut_text w = search (arith, append-nil)
