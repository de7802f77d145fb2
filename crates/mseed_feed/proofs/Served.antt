-- What serving comes to by its plan.
use Rattle.std.proofs.Common.{◌≡◌, ℕ, List, Option, Result, Ok, Err, refl}
use Rattle.mseed_stream.specs.Calls.{ReadsOn}
use Rattle.mseed_stream.specs.Device.{Beside, BytesRead, BytesWritten, nothing_read}
use Rattle.slink_feed.specs.Window.{Window}
use Rattle.slink_feed.specs.declared.input.InputFault.{InputFault}
use Rattle.slink_links.specs.declared.plan.ServePlan.{ServePlan}
use Rattle.mseed_words.specs.declared.request.Serving.{Serving}
use Rattle.mseed_feed.specs.Commands.{HasReadInput, HasServedInput, IsServedBy}
use Rattle.mseed_feed.specs.Plans.{IsPlannedBy, IsServeRun}
use Rattle.mseed_feed.specs.InTurn.{HasServedInTurn, IsListenedInTurn, listener_of}
use Rattle.mseed_feed.specs.Transport.{TransportState}

-- what was read of an input of which nothing was read before
pub read_from_start : (old new : BytesRead) (left rest : Option (List ℕ)) (apart later : Beside) → old ≡ nothing_read
    → ReadsOn old new left rest apart later → HasReadInput left apart new
read_from_start old new left rest apart later none reads = record {
  rest = rest;
  later = later;
  reads = rw none at reads;
}

-- a plan that was carried out
pub served : (A : Type 0) (s : Serving) (plan : ServePlan A) (read : BytesRead) (old between new : BytesWritten)
    (status : ℕ) (before after : TransportState) → IsServeRun s (Ok plan) read old between
    → IsListenedInTurn (listener_of plan) after.planned
    → HasServedInTurn (listener_of plan) plan.connections plan.feed after.came status between new
    → HasServedInput s read status old new before after
served A s plan read old between new status before after run there done =
    record { outcome = run.outcome; filling = run.filling; only = run.only; served = by run.outcome run.planned }
  where
    by : (o : Result (List Window) InputFault) → IsPlannedBy s o (Ok plan) old between
        → IsServedBy s o status old new before after
    by (Ok feed) is = (
      between,
      is.1,
      rw (is.0.address, is.0.port, is.0.timeout) at there,
      rw (is.0.address, is.0.port, is.0.timeout, is.0.connections, is.0.feed_is) at done,
    )
    by (Err fault) is = absurd is

-- no plan
pub refused : (A : Type 0) (s : Serving) (read : BytesRead) (old new : BytesWritten) (status : ℕ)
    (before : TransportState) → IsServeRun {A = A} s (Err status) read old new
    → HasServedInput s read status old new before before
refused A s read old new status before run =
    record { outcome = run.outcome; filling = run.filling; only = run.only; served = by run.outcome run.planned }
  where
    by : (o : Result (List Window) InputFault) → IsPlannedBy {A = A} s o (Err status) old new
        → IsServedBy s o status old new before before
    by (Ok feed) is = absurd is
    by (Err fault) is = (is.0, is.1, refl)
