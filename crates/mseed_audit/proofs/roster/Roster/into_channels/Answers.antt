use Rattle.std.proofs.Common.{◌≡◌, ◌∙◌, List, ℕ, Vec, ap}
use Rattle.std.specs.Map.{lookup}
use Rattle.std.proofs.lemmas.Result.{IfOk-weaker}
use Rattle.mseed_audit.specs.declared.channel.Channel.{Channel}
use Rattle.mseed_audit.specs.Channels.{same_key}
use Rattle.mseed_audit.specs.Places.{by_key}
use Rattle.mseed_audit.proofs.ByKey.{IsAscending, by_key_ascends, kept_by_key}
use Rattle.mseed_audit.proofs.roster.Roster.into_channels.Goals as goal

pub returns-clause-ascending : goal.returns-clause-ascending
returns-clause-ascending g c =
    let es : List (List ℕ × Channel) = c.self.inside.channels in
    IfOk-weaker c.by_key.result (λ (s : Vec (List ℕ × Channel) g.row.A.Denot). s.items ≡ by_key es)
    (λ (s : Vec (List ℕ × Channel) g.row.A.Denot). IsAscending s.items)
    (λ s e. rw e (by_key_ascends es)) c.by_key.ensures

pub returns-clause-each : goal.returns-clause-each
returns-clause-each g c =
    let es : List (List ℕ × Channel) = c.self.inside.channels in
    IfOk-weaker c.by_key.result (λ (s : Vec (List ℕ × Channel) g.row.A.Denot). s.items ≡ by_key es)
    (λ (s : Vec (List ℕ × Channel) g.row.A.Denot).
    (key : List ℕ) → lookup (same_key key) s.items ≡ lookup (same_key key) c.args.self)
    (λ s e. λ key. ap (λ (fs : List (List ℕ × Channel)). lookup (same_key key) fs) e ∙ kept_by_key es key
    ∙ ap (λ (fs : List (List ℕ × Channel)). lookup (same_key key) fs) c.self.view_is) c.by_key.ensures
