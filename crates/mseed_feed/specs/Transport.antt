-- How links are had, and what comes of it.
use Rattle.std.specs.Prelude.{◌≡◌, Bool, List, Option, Some, None, option_map}
use Rattle.std.specs.Duration.{as_nanos}
use Rattle.std.specs.Net.Addr.{ipv4_octets}
use Rattle.std.specs.Net.Socket.{socket_ip, socket_port}
use Rattle.std.specs.declared.net.ip_addr.IpAddr.TheVariants as Ip
use Rattle.std.specs.declared.net.ipv4_addr.Ipv4Addr.{Ipv4Addr}
use Rattle.slink_wire.specs.Hosts.{limit_in}
use Rattle.slink_live.specs.Happening.{Happening}
use Rattle.slink_links.specs.Happened.{happened}
use Rattle.slink_links.specs.Dialled.{Dialled, dialled_by}
use Rattle.slink_links.specs.Taken.{Taken, taken_by}
use Rattle.slink_links.specs.declared.live_tcp.LivePlan.{LivePlan}
use Rattle.mseed_words.specs.declared.request.LiveServing.{LiveServing}
use Rattle.mseed_feed.specs.declared.transport.Planned.{Planned}
use Rattle.mseed_feed.specs.declared.transport.Planned.TheVariants.{Live, InTurn as in_turn, Fetch as fetch}
use Rattle.mseed_feed.specs.declared.transport.DeviceFault.{DeviceFault}
use Rattle.mseed_feed.specs.declared.transport.Outcome.{Outcome}
use Rattle.mseed_feed.specs.declared.transport.Outcome.TheVariants as outcomes
use Rattle.mseed_feed.specs.declared.transport.TcpTransport.{TcpTransport}

-- No device was requested yet; or it was refused; or all of this happened at that of many links, and whether it failed;
-- or this is known of the links that were taken one after another; or of a server that was dialled.
pub data TransportOutcome : Type 0 where
  NotYet : TransportOutcome
  Refused : (fault : DeviceFault) → TransportOutcome
  Over : (log : List Happening) (has_failed : Bool) → TransportOutcome
  InTurn : (links : Taken) → TransportOutcome
  Fetched : (links : Dialled) → TransportOutcome

-- what came of it over TCP
abbrev pub came_by : {N I : Type 0} → Outcome N I → TransportOutcome
came_by outcomes.NotYet = NotYet
came_by (outcomes.Refused fault) = Refused fault
came_by (outcomes.Over device has_failed) = Over (happened device) has_failed
came_by (outcomes.InTurn log) = InTurn (taken_by log)
came_by (outcomes.Fetched log paused) = Fetched (dialled_by log paused.bytes)

abbrev pub came_of : {N I : Type 0} → TcpTransport N I → TransportOutcome
came_of l = came_by l.outcome

-- Links are taken at the address and the port that were requested, as many at once, and with that time-out.
pub record IsPlanFor (live : LiveServing) (plan : LivePlan) : Type 0 where
  pub ip : Ipv4Addr
  pub at_ip : socket_ip plan.address ≡ Ip.V4 ip
  pub address : ipv4_octets ip ≡ live.serving.listener.host.octets
  pub port : socket_port plan.address ≡ live.serving.listener.port
  pub clients : plan.clients ≡ live.clients
  pub timeout : option_map as_nanos plan.timeout ≡ limit_in live.serving.listener.timeout

-- what is known of how links are had: by what plan, if there was one, and what came of it
pub record TransportState : Type 0 where
  pub planned : Option Planned
  pub came : TransportOutcome

abbrev pub transport_state : Option Planned → TransportOutcome → TransportState
transport_state planned came = record { planned = planned; came = came }

-- The plan that was listened by is that.
abbrev pub IsListenedFor : LiveServing → Option Planned → Type 0
IsListenedFor live None = ⊥
IsListenedFor live (Some (Live plan)) = IsPlanFor live plan
IsListenedFor live (Some (in_turn listener)) = ⊥
IsListenedFor live (Some (fetch server)) = ⊥
