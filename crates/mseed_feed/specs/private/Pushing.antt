-- What comes of an input's next record on its way into a feed.
use Rattle.std.specs.Prelude.{◌≡◌, ◌<◌, List, [], ◌∷◌, ◌++◌, Result, Ok, Err}
use Rattle.mseed_record.specs.View.{View}
use Rattle.mseed_stream.specs.Device.{BytesRead}
use Rattle.mseed_stream.specs.CutterState.{CutterState}
use Rattle.mseed_stream.specs.Walk.{HasHandedOut, bytes_in}
use Rattle.slink_feed.specs.Window.{Window}
use Rattle.slink_feed.specs.declared.input.InputFault.{InputFault}
use Rattle.mseed_feed.specs.Filling.{AreOfFeed, IsFilling, feed_of, served}
use Rattle.mseed_feed.specs.declared.filling.Step.{Step}
use Rattle.mseed_feed.specs.declared.filling.Step.TheVariants.{Pushed, Ended}
use Rattle.mseed_words.specs.declared.request.Serving.{Serving}

-- the cutter has handed out these records, which are the feed's, and the rings have them
pub record HasFilled (serving : Serving) (h : BytesRead) (c : CutterState) (feed : List Window) (views : List View)
    : Type 0 where
  pub handed : HasHandedOut h c views
  pub each : AreOfFeed (served serving) (bytes_in views)
  pub feed_is : feed ≡ feed_of serving (bytes_in views)

-- a record more than these went into its ring, for which the source was called
pub record IsPushedAlso (serving : Serving) (old new : BytesRead) (c : CutterState) (feed : List Window)
    (views : List View) : Type 0 where
  pub view : View
  pub filled : HasFilled serving new c feed (views ++ view ∷ [])
  pub called : old.calls < new.calls

-- What comes next of an input, after these records: one more, its end, or what is wrong.
abbrev pub IsNextPushed : Serving → Result Step InputFault → List View → BytesRead → BytesRead → CutterState
    → List Window → Type 0
IsNextPushed serving (Ok Pushed) views old new c feed = IsPushedAlso serving old new c feed views
IsNextPushed serving (Ok Ended) views old new c feed = IsFilling serving (Ok feed) new
IsNextPushed serving (Err fault) views old new c feed = IsFilling serving (Err fault) new
