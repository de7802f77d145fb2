-- What `run` comes to, by what is requested, and of which records.
use Rattle.std.specs.Prelude.{⊤, Bool, Option, Result}
use Rattle.mseed_audit.specs.Selected.{IsEachSelectedOutcome, IsSelectedOutcome}
use Rattle.mseed_record.specs.Selection.{Selection}
use Rattle.mseed_join.specs.AuditPart.{IsPartOutcome, IsPartEachOutcome}
use Rattle.mseed_join.specs.Joins.{IsJoinOutcome}
use Rattle.mseed_join.specs.JoinsEach.{IsJoinEachOutcome}
use Rattle.mseed_join.specs.declared.joining.Form.{Form}
use Rattle.mseed_join.specs.declared.joining.Form.TheVariants as forms
use Rattle.mseed_pack.specs.declared.options.Options.{Options}
use Rattle.mseed_repack.specs.Selected.{IsSelectedRepacking, IsSelectedRestretching}
use Rattle.mseed_repack.specs.declared.fault.RepackFault.{RepackFault}
use Rattle.mseed_select.specs.Select.{IsSelected}
use Rattle.mseed_select.specs.Show.{IsSelectedShown}
use Rattle.mseed_stream.specs.Device.{BytesRead, BytesWritten}
use Rattle.mseed_words.specs.declared.request.Joining.{Joining}
use Rattle.mseed_words.specs.declared.request.Request.{Request}
use Rattle.mseed_words.specs.declared.request.Request.TheVariants.{Audit, AuditEach, AuditPart, AuditPartEach}
use Rattle.mseed_words.specs.declared.request.Request.TheVariants.{Join, JoinEach, JoinPart, Show, Select}
use Rattle.mseed_words.specs.declared.request.Request.TheVariants.{Repack, RepackStretches, Serve, Live, Fetch}
use Rattle.mseed.specs.Joined.{EndsJoin}
use Rattle.mseed.specs.Outcome.{EndsAudit, EndsEach, of_all}
use Rattle.mseed.specs.Repacked.{AreOptionsOf, EndsRepack}
use Rattle.mseed.specs.Restretched.{EndsStretches}
use Rattle.mseed.specs.Selected.{EndsSelect, EndsShow, asked_or_all}
use Rattle.mseed.specs.Streams.{Streams}
use Rattle.mseed.specs.declared.outcome.Ended.{Ended}

-- it came to an outcome, by what was read and written, and ended by it
abbrev pub IsDone : {O : Type 0} → (O → BytesRead → BytesWritten → BytesWritten → Type 0)
    → (O → Ended → BytesWritten → BytesWritten → Type 0) → Ended → Streams → Streams → Type 0
IsDone {O} Is Ends ended old new =
    (outcome : O) × (Is outcome new.input old.output new.output × Ends outcome ended old.errors new.errors)

-- after what was reported before it ended
abbrev pub IsReported : {O : Type 0}
    → (O → BytesRead → BytesWritten → BytesWritten → BytesWritten → BytesWritten → Type 0)
    → (O → Ended → BytesWritten → BytesWritten → Type 0) → Ended → Streams → Streams → Type 0
IsReported {O} Is Ends ended old new =
    (outcome : O) × ((reported : BytesWritten) × (Is outcome new.input old.output new.output old.errors reported
    × Ends outcome ended reported new.errors))

-- parts were joined to the text of an audit, or to a part
abbrev pub HasJoined : Form → Joining → Ended → Streams → Streams → Type 0
HasJoined form joining ended old new =
    IsReported (IsJoinOutcome form joining.past_faults joining.expected) EndsJoin ended old new

-- the records that are asked for were packed anew
abbrev pub HasRepacked : Options → Option Selection → Ended → Streams → Streams → Type 0
HasRepacked options asked ended old new =
    IsReported {O = Result ⊤ RepackFault} (IsSelectedRepacking (asked_or_all asked) options)
    (EndsRepack options.encoding) ended old new

-- by stretches
abbrev pub HasRestretched : Options → Bool → Option Selection → Ended → Streams → Streams → Type 0
HasRestretched options leave asked ended old new =
    IsReported (IsSelectedRestretching (asked_or_all asked) options leave) (EndsStretches options.encoding)
    ended old new

-- An audit, a joint, a listing, a selection and a packing are done with an input, with the records that are asked for,
-- and end so. Serving and fetching aren't.
abbrev pub HasCarriedOut : Request → Option Selection → Ended → Streams → Streams → Type 0
HasCarriedOut Audit asked ended old new = IsDone (IsSelectedOutcome (asked_or_all asked)) EndsAudit ended old new
HasCarriedOut AuditEach asked ended old new = IsDone (IsEachSelectedOutcome (asked_or_all asked)) EndsEach ended old new
HasCarriedOut AuditPart asked ended old new = IsDone IsPartOutcome (λ outcome. EndsAudit (of_all outcome)) ended old new
HasCarriedOut AuditPartEach asked ended old new =
    IsDone IsPartEachOutcome (λ outcome. EndsEach (of_all outcome)) ended old new
HasCarriedOut (Join joining) asked ended old new = HasJoined forms.Audit joining ended old new
HasCarriedOut (JoinEach joining) asked ended old new =
    IsReported (IsJoinEachOutcome joining.past_faults joining.expected) EndsJoin ended old new
HasCarriedOut (JoinPart joining) asked ended old new = HasJoined forms.Part joining ended old new
HasCarriedOut Show asked ended old new = IsDone (IsSelectedShown (asked_or_all asked)) EndsShow ended old new
HasCarriedOut Select asked ended old new = IsDone (IsSelected (asked_or_all asked)) EndsSelect ended old new
HasCarriedOut (Repack packing) asked ended old new =
    (options : Options) × (AreOptionsOf packing options × HasRepacked options asked ended old new)
HasCarriedOut (RepackStretches packing leave) asked ended old new =
    (options : Options) × (AreOptionsOf packing options × HasRestretched options leave asked ended old new)
HasCarriedOut (Serve serving) asked ended old new = ⊥
HasCarriedOut (Live live) asked ended old new = ⊥
HasCarriedOut (Fetch fetching) asked ended old new = ⊥
