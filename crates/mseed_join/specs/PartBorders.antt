-- What is found where parts are joined, between a channel and its further records.
use Rattle.std.specs.Prelude.{ℕ, ℤ, List, [], ◌∷◌, ◌++◌, Option, Some, None}
use Rattle.mseed_audit.specs.declared.channel.Channel.{Channel}
use Rattle.mseed_audit.specs.declared.channel.Head.{Head}
use Rattle.mseed_audit.specs.declared.finding.Finding.{Finding}
use Rattle.mseed_audit.specs.Audit.{head_in}
use Rattle.mseed_join.specs.Joining.{border_between, moved_channel}
use Rattle.mseed_join.specs.Parts.{Held, kept_of}

-- what is found of the first of a channel's further records, and when that record begins
pub record Border : Type 0 where
  pub key : List ℕ
  pub start : ℤ
  pub finding : Finding

abbrev pub border_at : List ℕ → Option Head → Option Finding → List Border
border_at key None found = []
border_at key (Some h) None = []
border_at key (Some h) (Some f) = record { key = key; start = h.start; finding = f } ∷ []

-- between what is kept of a part and a channel of the next, whose numbers and offsets go up
abbrev pub border_with : Held → List ℕ × Channel → List Border
border_with a e =
    border_at e.0 (head_in e.1.findings)
    (border_between (kept_of e.0 a.channels) (moved_channel a.records a.bytes e.1))

-- and all channels of the next, in their order
abbrev pub borders_with : Held → List (List ℕ × Channel) → List Border
borders_with a [] = []
borders_with a (e ∷ es) = border_with a e ++ borders_with a es
