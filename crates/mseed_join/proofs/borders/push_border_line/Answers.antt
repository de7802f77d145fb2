use Rattle.std.proofs.Common.{◌≡◌, [], ◌++◌, ◌∙◌, List, ℕ, append_assoc, codes, decimal}
use Rattle.mseed_time.specs.Text.{time_text}
use Rattle.mseed_text.specs.Name.{name_text}
use Rattle.mseed_audit.specs.declared.finding.Finding.{Finding}
use Rattle.mseed_audit.specs.Text.{why_text}
use Rattle.mseed_join.proofs.borders.push_border_line.Goals as goal

-- what was put, one after another
joined : (line offset space name record-word number start-word start gap why end : List ℕ)
    → (((((((((line ++ offset) ++ space) ++ name) ++ record-word) ++ number) ++ start-word) ++ start) ++ gap) ++ why)
    ++ end
    ≡ line ++ (offset ++ space ++ name ++ record-word ++ number ++ start-word ++ start ++ gap ++ why ++ end)
joined line offset space name record-word number start-word start gap why end = simp append_assoc

pub returns : goal.returns
returns g c =
    let f : Finding = c.args.finding.now in
    let a1 = rw c.new-line.ensures at c.put_count.ensures.text in
    let a2 = rw a1 at c.put.ensures.text in
    let a3 = rw a2 at c.put_name.ensures.text in
    let a4 = rw a3 at c.put_labelled.ensures.text in
    let a5 = rw a4 at c.put-2.ensures.text in
    let a6 = rw (a5, c.show_time.ensures) at c.put-3.ensures.text in
    let a7 = rw a6 at c.put-4.ensures.text in
    let a8 = rw a7 at c.put_why.ensures.text in
    let a9 = rw a8 at c.put-5.ensures.text in
    rw (c.as_slice.ensures ∙ a9 ∙ joined [] (decimal f.offset) (codes " ") (name_text c.args.codes.now)
    (codes " record ") (decimal f.number) (codes " start ") (time_text c.args.start) (codes " ") (why_text f.why)
    (codes "\n")) at c.push_line.ensures.ok
