use Rattle.std.proofs.Common.{◌≡◌, Some, None, false, true}
use Rattle.std.proofs.lemmas.Bool.{false≢true}
use Rattle.mseed_record.specs.Viewing.{view_of}
use Rattle.mseed_steim.specs.Samples.{form_of}
use Rattle.mseed_steim.specs.Reading.{blockette_100, encoding, data_offset, is_little_steim}
use Rattle.mseed_steim.proofs.Laws.{little_fault, readable_else}
use Rattle.mseed_steim.proofs.check.payload_of.Goals as goal

pub returns-then-has_rate_blockette-clause-fault : goal.returns-then-has_rate_blockette-clause-fault
returns-then-has_rate_blockette-clause-fault c = blockette_100 (cc)

pub returns-in_default-clause-fault : goal.returns-in_default-clause-fault
returns-in_default-clause-fault c =
    let one_rate : (view_of c.args.view.now).has_rate_blockette ≡ false = cc in
    let none : form_of (view_of c.args.view.now).encoding ≡ None = cc in
    rw c.encoding-code.ensures (encoding one_rate none)

pub returns-then-is_little_steim-clause-fault : goal.returns-then-is_little_steim-clause-fault
returns-then-is_little_steim-clause-fault c =
    let one_rate : (view_of c.args.view.now).has_rate_blockette ≡ false = cc in
    let some : form_of (view_of c.args.view.now).encoding ≡ Some c.in-Some.form = cc in
    let little : is_little_steim c.in-Some.form (view_of c.args.view.now).payload_order ≡ true = cc in
    little_fault (view_of c.args.view.now) c.in-Some.form one_rate some little

pub returns-in-Err-clause-fault : goal.returns-in-Err-clause-fault
returns-in-Err-clause-fault c =
    let one_rate : (view_of c.args.view.now).has_rate_blockette ≡ false = cc in
    let some : form_of (view_of c.args.view.now).encoding ≡ Some c.in-Some.form = cc in
    let big : is_little_steim c.in-Some.form (view_of c.args.view.now).payload_order ≡ false = cc in
    data_offset one_rate c.in-Some.form some (readable_else c.in-Some.form (view_of c.args.view.now).payload_order big)
    (λ p. false≢true (c.in-Err.ensures.ok.1 p))
