use Rattle.std.proofs.Common.{◌≡◌, [], ◌++◌, ◌∙◌, List, ℕ, append_assoc, codes, decimal}
use Rattle.mseed_record.specs.Header.{key_at}
use Rattle.mseed_record.specs.View.{View}
use Rattle.mseed_record.specs.Viewing.{view_of}
use Rattle.mseed_audit.specs.declared.finding.Finding.{Finding}
use Rattle.mseed_text.specs.Name.{name_text}
use Rattle.mseed_text.specs.Time.{start_text}
use Rattle.mseed_audit.specs.Text.{why_text}
use Rattle.mseed_audit.proofs.text.push_reported_line.Goals as goal

-- what was put, one after another
joined : (line offset space name record-word number start-word start gap why end : List ℕ)
    → (((((((((line ++ offset) ++ space) ++ name) ++ record-word) ++ number) ++ start-word) ++ start) ++ gap) ++ why)
    ++ end
    ≡ line ++ (offset ++ space ++ name ++ record-word ++ number ++ start-word ++ start ++ gap ++ why ++ end)
joined line offset space name record-word number start-word start gap why end = simp append_assoc

pub returns-clause-ok : goal.returns-clause-ok
returns-clause-ok g c =
    let v : View = view_of c.args.view.now in
    let f : Finding = c.args.finding.now in
    let end = rw (c.put_why.ensures.text, c.put-3.ensures.text, c.put_start.ensures.text, c.put-2.ensures.text)
    at c.put-4.ensures.text in
    let all = rw (
      c.put_labelled.ensures.text,
      c.put_name.ensures.text,
      c.codes.ensures,
      c.put.ensures.text,
      c.put_count.ensures.text,
      c.new-line.ensures,
    ) at end in
    rw (c.as_slice.ensures ∙ all ∙ joined [] (decimal f.offset) (codes " ") (name_text (key_at v.bytes))
    (codes " record ") (decimal f.number) (codes " start ") (start_text v) (codes " ") (why_text f.why) (codes "\n"))
    at c.push_line.ensures.ok
