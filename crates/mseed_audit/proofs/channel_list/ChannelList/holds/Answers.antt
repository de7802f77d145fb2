use Rattle.std.proofs.Common.{◌≡◌, ◌∙◌, ℕ, List, is_some, sym}
use Rattle.std.specs.Map.{lookup}
use Rattle.mseed_audit.specs.Channels.{same_key}
use Rattle.mseed_audit.proofs.Rosters.{same_some}
use Rattle.mseed_audit.proofs.channel_list.ChannelList.holds.Goals as goal

pub returns : goal.returns
returns g c =
    let key : List ℕ = c.args.codes.now in
    let is : c.contains_key.result ≡ is_some (lookup (same_key key) c.args.self.now) =
    c.contains_key.ensures ∙ rw (← c.self.view_is, c.self.invariant.0.places.each key) (same_some (same_key key) _) in
    (λ t. sym is ∙ t, λ t. is ∙ t)
