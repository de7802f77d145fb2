use Rattle.std.proofs.Common.{◌∙◌, ◌++◌, ◌∷◌, [], List, ap, append-nil, sym, ℕ}
use Rattle.mseed_record.specs.Viewing.{view_of}
use Rattle.mseed_audit.specs.Reported.{Reported}
use Rattle.mseed_audit.specs.Text.{reported_line}
use Rattle.mseed_audit.proofs.Gathers.{lined_more}
use Rattle.mseed_audit.proofs.report.VecU8Report.add.Goals as goal

pub returns-in-Ok : goal.returns-in-Ok
returns-in-Ok g c = λ first now reported before.
    let here : Reported = record { view = view_of c.args.view.now; finding = c.args.finding.now } in
    lined_more before c.push_reported_line.new.text.items (here ∷ [])
    (c.in-Ok.ensures.ok ∙ ap (λ (xs : List ℕ). c.args.self.now.items ++ xs) (sym (append-nil (reported_line here))))

pub returns-in-Err : goal.returns-in-Err
returns-in-Err g c = λ first now reported before.
    rw c.in-Err.ensures.unchanged before
