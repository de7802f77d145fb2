-- How far a framer has come along the bytes that it is shown.
use Rattle.std.specs.Prelude.{◌≡◌, ℕ, ◌+◌, ◌^◌, ◌≤◌, ◌<◌, true, false, List, [], ◌∷◌, length, Some, None, IfSome}
use Rattle.std.specs.Prelude.{MatchOption}
use Rattle.mseed_time.specs.declared.order.Order.{Order}
use Rattle.mseed_record.specs.declared.framer.Scan.{Scan}
use Rattle.mseed_record.specs.declared.framer.Framer.{Framer}
use Rattle.mseed_record.specs.declared.framer.Reached.{Reached}
use Rattle.mseed_record.specs.Header.{has_fixed_bytes, blockette_at}
use Rattle.mseed_record.specs.Order.{order_of}
use Rattle.mseed_record.specs.Chain.{next_at}
use Rattle.mseed_record.specs.Scan.{is_version3, at_offset}

-- the steps pass these blockettes from the offset o on, and come to the offset q, which may not lie below `least`
abbrev pub PassesTo : Order → List ℕ → ℕ → ℕ → List ℕ → ℕ → ℕ → Type 0
PassesTo order prefix low o [] least q = (low ≡ least) × (o ≡ q)
PassesTo order prefix low o (p ∷ os) least q =
    (p ≡ o) × (at_offset order prefix low o ≡ None) × PassesTo order prefix (o + 4) (next_at order prefix o) os least q

-- after a header that isn't refused, the steps have come along the chain to this offset
pub record HasReached (r : Reached) (prefix : List ℕ) : Type 0 where
  pub other_version : is_version3 prefix ≡ false
  pub header : 48 ≤ length prefix
  pub fixed : has_fixed_bytes prefix ≡ true
  pub order_is : order_of prefix ≡ Some r.order
  pub low : r.low ≤ length prefix
  pub small : r.offset < 2 ^ 16
  pub passed : (os : List ℕ) × PassesTo r.order prefix 48 (blockette_at r.order prefix) os r.low r.offset

-- where it ended a look, the steps come to in these bytes too
abbrev pub IsFramerOf : Framer → List ℕ → Type 0
IsFramerOf framer prefix = IfSome framer.reached (λ r. HasReached r prefix)

-- the steps end at the header, and come to no offset of a chain
abbrev pub HasNoChain : List ℕ → Type 0
HasNoChain prefix = (r : Reached) → ¬ (HasReached r prefix)

-- It stands where an answer is decided: at the offset to which the steps came, or nowhere where no chain begins.
abbrev pub StandsAt : Framer → List ℕ → Scan → Type 0
StandsAt framer prefix answer =
    MatchOption framer.reached (HasNoChain prefix) (λ r. at_offset r.order prefix r.low r.offset ≡ Some answer)
