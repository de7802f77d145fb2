-- How serving a feed to many clients ends, while its records come.
use Rattle.std.specs.Prelude.{◌≡◌, ℕ, ◌^◌, ◌≤◌, Bool, true, false, List, [], Ok, Err, codes}
use Rattle.std.specs.List.{AllByRecursion}
use Rattle.mseed_stream.specs.Device.{BytesWritten}
use Rattle.mseed_stream.specs.LineWritten.{WritesLine}
use Rattle.slink_feed.specs.Intake.{places_of}
use Rattle.slink_feed.specs.Reporter.{AreReported}
use Rattle.slink_feed.specs.Window.{Window}
use Rattle.slink_feed.specs.declared.input.InputFault.{InputFault}
use Rattle.slink_live.specs.Awake.{Goes, IsClosedRightly}
use Rattle.slink_live.specs.Happening.{Happening, input_of}
use Rattle.slink_live.specs.Input.{IsInputFault}
use Rattle.slink_live.specs.Served.{IsFinished, ServerState}
use Rattle.slink_live.specs.Turns.{HasSteps, Stands}
use Rattle.mseed_files.specs.InputFiles.{no_memory}
use Rattle.mseed_words.specs.declared.request.LiveServing.{LiveServing}
use Rattle.mseed_feed.specs.Filling.{feed_of}
use Rattle.mseed_feed.specs.Transport.{Fetched, InTurn, NotYet, Over, Refused, TransportOutcome}
use Rattle.mseed_feed.specs.Plans.{fill_lines}
use Rattle.mseed_feed.specs.Unlistened.{IsUnlistened}
use Rattle.mseed_feed.specs.declared.transport.DeviceFault.TheVariants.{Memory, Port}

-- Records can be numbered on for as long as the input is read.
abbrev pub CanNumber : List Window → Type 0
CanNumber feed = AllByRecursion (λ w. w.next ≤ 2 ^ 62) feed

-- Nothing is left to do: the input is read no more, and no link stands, and the status is the one that is due. Or links
-- may have been cut off, since the device failed, and standard error got its line.
pub data EndsWith (s : ServerState) (has_failed : Bool) (due status : ℕ) (old new : BytesWritten) : Type 0 where
  to_the_end : has_failed ≡ false → IsFinished s → status ≡ due → new ≡ old → EndsWith s has_failed due status old new
  cut_off : has_failed ≡ true → status ≡ 2 → WritesLine (codes "mseed: link failed\n") old new
      → EndsWith s has_failed due status old new

-- A server of these rings, with a slot for each of `clients` clients, went on step by step, as the log of all that
-- happened says. Nothing was wrong with the input, by its steps. Or something was, and it is read no further: standard
-- error got the line of that, and the server went on from there with the links that stood, to the end or until 2^40
-- events had come.
pub data HasEnded (feed : List Window) (clients : ℕ) (s : ServerState) (has_failed : Bool) (log : List Happening)
    (status : ℕ) (old new : BytesWritten) : Type 0 where
  input_ended : HasSteps feed clients [] log (Ok tt) → EndsWith s has_failed 0 status old new
      → HasEnded feed clients s has_failed log status old new
  input_wrong : (fault : InputFault) (reported : BytesWritten) (mid : List Happening)
      → HasSteps feed clients [] mid (Err fault) → IsInputFault (places_of feed) (input_of log) fault
      → AreReported (fill_lines fault) old reported → HasSteps feed clients mid log (Ok tt)
      → EndsWith s has_failed 2 status reported new → HasEnded feed clients s has_failed log status old new
  for_long : (fault last : InputFault) (reported : BytesWritten) (mid : List Happening)
      → HasSteps feed clients [] mid (Err fault) → IsInputFault (places_of feed) (input_of log) fault
      → AreReported (fill_lines fault) old reported → HasSteps feed clients mid log (Err last)
      → IsInputFault (places_of feed) (input_of log) last → status ≡ 2
      → WritesLine (codes "mseed: link failed\n") reported new → HasEnded feed clients s has_failed log status old new

-- The rings were filled by what the input gave, and each link was served from them by a session of its own, as the log
-- of all that happened says: no link sleeps, and each was closed by right. Or there was no memory for rings or links,
-- and nothing happened.
pub data HasServed (feed : List Window) (clients : ℕ) (has_failed : Bool) (log : List Happening) (status : ℕ)
    (old new : BytesWritten) : Type 0 where
  served : (s : ServerState) → Stands feed clients s log → Goes (IsClosedRightly feed) [] log
      → HasEnded feed clients s has_failed log status old new → HasServed feed clients has_failed log status old new
  no_room : log ≡ [] → status ≡ 2 → WritesLine no_memory old new → HasServed feed clients has_failed log status old new

-- By what came of listening: so it was, by the rings and the slots that were requested, with all that happened at the
-- device that was had; or the port couldn't be had that was requested, or there was no memory for the device.
abbrev pub HasServedAt : LiveServing → TransportOutcome → ℕ → BytesWritten → BytesWritten → Type 0
HasServedAt live NotYet status old new = ⊥
HasServedAt live (Refused (Port fault)) status old new = IsUnlistened live.serving.listener fault status old new
HasServedAt live (Refused Memory) status old new = (status ≡ 2) × WritesLine no_memory old new
HasServedAt live (Over log has_failed) status old new =
    HasServed (feed_of live.serving []) live.clients has_failed log status old new
HasServedAt live (InTurn links) status old new = ⊥
HasServedAt live (Fetched links) status old new = ⊥
