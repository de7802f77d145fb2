use Rattle.std.proofs.Common.{◌≡◌, ◌≢◌, ◌≤◌, ◌↔◌, ℕ, List, length, take, true, false}
use Rattle.mseed_record.specs.declared.framer.Scan.{Scan}
use Rattle.mseed_record.specs.declared.framer.Scan.TheVariants.{Record, Need, Not}
use Rattle.mseed_record.specs.Record.{IsRecord}
use Rattle.mseed_record.specs.Scan.{Decides}
use Rattle.mseed_record.specs.Viewing.{view_of}
use Rattle.mseed_record.proofs.Answered.{answered, refused}
use Rattle.mseed_record.proofs.Scanned.{scanned}
use Rattle.mseed_record.proofs.Viewed.{view_once}
use Rattle.mseed_record.proofs.view.RecordView.of.Goals as goal

-- what is decided that isn't a record leaves none
none_there : (b : List ℕ) (s : Scan) → Decides b s → ((k : ℕ) → s ≢ Record k)
    → (false ≡ true) ↔ ((k : ℕ) × ((k ≤ length b) × IsRecord (take k b)))
none_there b s d other = (λ e. cc e, λ r. absurd (other r.0 (answered b r.0 s d r.1.0 r.1.1)))

pub returns-in-Err-Need-clause-ok : goal.returns-in-Err-Need-clause-ok
returns-in-Err-Need-clause-ok c = none_there c.args.bytes.now _ c.in-Err-Need.ensures.err c.in-Err-Need.ensures.none

pub returns-in-Err-Need-clause-needed : goal.returns-in-Err-Need-clause-needed
returns-in-Err-Need-clause-needed c k e =
    let same : c.in-Err-Need.field-0 ≡ Need k = cc in
    (scanned c.args.bytes.now _ (λ i. (c.type_inv.bytes i).fits) c.in-Err-Need.ensures.err).needed_is k same

pub returns-in-Err-Not-clause-ok : goal.returns-in-Err-Not-clause-ok
returns-in-Err-Not-clause-ok c = none_there c.args.bytes.now _ c.in-Err-Not.ensures.err c.in-Err-Not.ensures.none

pub returns-in-Err-Not-clause-refused : goal.returns-in-Err-Not-clause-refused
returns-in-Err-Not-clause-refused c f e =
    let same : c.in-Err-Not.field-0 ≡ Not f = cc in
    refused c.args.bytes.now f (rw same at c.in-Err-Not.ensures.err)

pub returns-in-Ok-clause-only : goal.returns-in-Ok-clause-only
returns-in-Ok-clause-only c w h e = view_once (view_of c.by.result) w c.by.ensures.view h e
