use Rattle.mseed.proofs.command.run.Goals as goal

pub returns-in-Audit-clause-called : goal.returns-in-Audit-clause-called
returns-in-Audit-clause-called g c =
    let found = rw c.requires.asked at c.audit_selected.ensures.outcome in
    rw c.in-Audit.is (c.audit_selected.result, (found, c.audited.ensures))

pub returns-in-AuditEach-clause-called : goal.returns-in-AuditEach-clause-called
returns-in-AuditEach-clause-called g c =
    let audit = c.audit_each_selected-outcome in
    let found = rw c.requires.asked at audit.ensures.outcome in
    rw c.in-AuditEach.is (audit.result, (found, c.audited_each.ensures))

pub returns-in-AuditPart-clause-called : goal.returns-in-AuditPart-clause-called
returns-in-AuditPart-clause-called g c =
    let ended = rw c.of_all.ensures at c.audited-in-AuditPart.ensures in
    rw c.in-AuditPart.is (c.audit_part.result, (c.audit_part.ensures.outcome, ended))

pub returns-in-AuditPartEach-clause-called : goal.returns-in-AuditPartEach-clause-called
returns-in-AuditPartEach-clause-called g c =
    let part = c.audit_part_each-outcome in
    let ended = rw c.of_all-in-AuditPartEach.ensures at c.audited_each-in-AuditPartEach.ensures in
    rw c.in-AuditPartEach.is (part.result, (part.ensures.outcome, ended))

pub returns-in-Join-clause-called : goal.returns-in-Join-clause-called
returns-in-Join-clause-called g c = rw c.in-Join.is c.joined_as.ensures.joined

pub returns-in-JoinEach-clause-called : goal.returns-in-JoinEach-clause-called
returns-in-JoinEach-clause-called g c =
    let join = c.join_each-outcome in
    rw c.in-JoinEach.is (join.result, (g.E.Sink.written join.new.errors, (join.ensures.outcome, c.joined.ensures)))

pub returns-in-JoinPart-clause-called : goal.returns-in-JoinPart-clause-called
returns-in-JoinPart-clause-called g c = rw c.in-JoinPart.is c.joined_as-in-JoinPart.ensures.joined

pub returns-in-Show-clause-called : goal.returns-in-Show-clause-called
returns-in-Show-clause-called g c =
    let found = rw c.requires.asked at c.show_selected.ensures.shown in
    rw c.in-Show.is (c.show_selected.result, (found, c.shown.ensures))

pub returns-in-Select-clause-called : goal.returns-in-Select-clause-called
returns-in-Select-clause-called g c =
    let found = rw c.requires.asked at c.select.ensures.selected in
    rw c.in-Select.is (c.select.result, (found, c.selected.ensures))

pub returns-in-Repack-clause-called : goal.returns-in-Repack-clause-called
returns-in-Repack-clause-called g c =
    let options = c.options_of-options in
    let came = c.repack_selected-outcome in
    let packed = rw c.requires.asked at came.ensures.repacked in
    rw c.in-Repack.is (
      options.result,
      (options.ensures, (came.result, (g.E.Sink.written came.new.errors, (packed, c.repacked.ensures)))),
    )

pub returns-in-RepackStretches-clause-called : goal.returns-in-RepackStretches-clause-called
returns-in-RepackStretches-clause-called g c =
    let options = c.options_of-options-in-RepackStretches in
    let came = c.repack_selected_stretches-outcome in
    let packed = rw c.requires.asked at came.ensures.repacked in
    rw c.in-RepackStretches.is (
      options.result,
      (options.ensures, (came.result, (g.E.Sink.written came.new.errors, (packed, c.restretched.ensures)))),
    )
