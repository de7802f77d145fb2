-- How serving a feed to one connection after another ends.
use Rattle.std.specs.Prelude.{◌≡◌, ◌↔◌, ℕ, List, [], Option, Some}
use Rattle.mseed_stream.specs.Device.{BytesWritten}
use Rattle.mseed_stream.specs.LineWritten.{WritesLine}
use Rattle.mseed_files.specs.InputFiles.{no_memory}
use Rattle.slink_feed.specs.Window.{Window}
use Rattle.slink_wire.specs.declared.host.Address.{Address}
use Rattle.slink_links.specs.Out.{AreOut}
use Rattle.slink_links.specs.Served.{HasServed, HasServedEach}
use Rattle.slink_links.specs.Taken.{Taken}
use Rattle.slink_links.specs.declared.plan.ServePlan.{ServePlan}
use Rattle.mseed_words.specs.declared.request.Endpoint.{Endpoint}
use Rattle.mseed_feed.specs.Transport.{Fetched, InTurn, NotYet, Over, Refused, TransportOutcome}
use Rattle.mseed_feed.specs.Unlistened.{IsUnlistened}
use Rattle.mseed_feed.specs.declared.transport.Planned.{Planned}
use Rattle.mseed_feed.specs.declared.transport.Planned.TheVariants.{InTurn as in_turn}
use Rattle.mseed_feed.specs.declared.transport.DeviceFault.TheVariants.{Memory, Port}

-- where a plan says that connections are taken
abbrev pub listener_of : {A : Type 0} → ServePlan A → Endpoint Address
listener_of plan = record { host = plan.address; port = plan.port; timeout = plan.timeout }

-- As many connections were accepted as this says. Of each that was had, a link was served from this feed, from its
-- first byte on, by a session of its own, and given back. The status is 0 exactly where no call and no link failed, and
-- else standard error got its line.
pub record HasServedTo (feed : List Window) (connections : ℕ) (links : Taken) (status : ℕ) (old new : BytesWritten)
    : Type 0 where
  pub accepts : links.calls ≡ connections
  pub out : AreOut 0 links.calls links.failures links.given_back
  pub served : HasServedEach feed [] links.given_back
  pub fine : status ≡ 0 ↔ (links.failures ≡ 0) × (links.lost ≡ 0)
  pub reported : HasServed status old new

-- By what came of listening: so it was, by the links that were taken at the device that was had; or the port couldn't
-- be had that was requested, or there was no memory for the device.
abbrev pub HasServedInTurn : Endpoint Address → ℕ → List Window → TransportOutcome → ℕ → BytesWritten → BytesWritten
    → Type 0
HasServedInTurn listener connections feed NotYet status old new = ⊥
HasServedInTurn listener connections feed (Refused (Port fault)) status old new =
    IsUnlistened listener fault status old new
HasServedInTurn listener connections feed (Refused Memory) status old new =
    (status ≡ 2) × WritesLine no_memory old new
HasServedInTurn listener connections feed (Over log has_failed) status old new = ⊥
HasServedInTurn listener connections feed (InTurn links) status old new =
    HasServedTo feed connections links status old new
HasServedInTurn listener connections feed (Fetched links) status old new = ⊥

-- It was listened there, for one connection after another.
abbrev pub IsListenedInTurn : Endpoint Address → Option Planned → Type 0
IsListenedInTurn listener planned = planned ≡ Some (in_turn listener)
