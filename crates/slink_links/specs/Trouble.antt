-- What goes wrong in a try of a fetch, in words.
use Rattle.std.specs.Prelude.{◌≡◌, ℕ, ◌<◌, List, codes, nat_lt, is_some, Option}
use Rattle.std.specs.declared.io.Error.{Error}
use Rattle.slink_links.specs.NetworkFault.{IsFaultOf, network_text}
use Rattle.slink_links.specs.declared.network_fault.NetworkFault.TheVariants as faults
use Rattle.slink_links.specs.declared.trouble.DialFault.{DialFault}
use Rattle.slink_links.specs.declared.trouble.DialFault.TheVariants as dials
use Rattle.slink_links.specs.declared.trouble.Loss.{Loss}
use Rattle.slink_links.specs.declared.trouble.Loss.TheVariants as losses
use Rattle.slink_links.specs.declared.trouble.Trouble.{Trouble}

-- why there was no link
abbrev pub dial_text : DialFault → List ℕ
dial_text dials.Unresolved = codes "no IPv4 address of this name"
dial_text (dials.Unconnected fault) = network_text fault

-- why nothing more came over a link
abbrev pub loss_text : Loss → List ℕ
loss_text losses.Closed = codes "closed by the server before the end"
loss_text losses.LongHandshake = codes "the handshake took too long"
loss_text (losses.Failed fault) = network_text fault

-- Nothing more came since a call failed with this error: for its reason, or since the time of the handshake was over.
abbrev pub IsLossBy : Error → Loss → Type 0
IsLossBy error losses.Closed = ⊥
IsLossBy error losses.LongHandshake = IsFaultOf error faults.TimedOut
IsLossBy error (losses.Failed fault) = IsFaultOf error fault

-- What is known of `tries` tries is what went wrong in the last one; and something is known exactly where there was
-- one.
pub record IsOfLastTry (tries : ℕ) (known last : Option Trouble) : Type 0 where
  pub some : is_some known ≡ nat_lt 0 tries
  pub last_one : 0 < tries → known ≡ last
