-- What stays true of a world while steps happen.
use Rattle.std.specs.Prelude.{◌≡◌, ◌^◌, ◌<◌, List, length, Some, IfSome, slice_get}
use Rattle.slink_wire.specs.Place.{Bears}
use Rattle.slink_model.specs.declared.world.Step.{Step}
use Rattle.slink_model.specs.declared.world.Step.TheVariants.{Append, Send}
use Rattle.slink_feed.specs.Cutting.{IsBegun}
use Rattle.slink_feed.specs.Listening.{Listening}
use Rattle.slink_feed.specs.Session.{Fits}
use Rattle.slink_feed.specs.Window.{Window}
use Rattle.slink_model.specs.World.{LinkState, WorldState}

-- What a client keeps is begun.
abbrev pub Keeps : Listening → Type 0
Keeps c = IsBegun c.talk.stage c.kept

abbrev pub IsServing : List Window → LinkState → Type 0
IsServing feed l = Fits feed l.session.state

pub record IsRunning (w : WorldState) : Type 0 where
  pub client : Keeps w.client
  pub link : IfSome w.link (IsServing w.windows)

-- A step can happen in this feed.
abbrev pub IsPossible : List Window → Step → Type 0
IsPossible feed (Append k bytes) = (v : Window) × (slice_get feed k ≡ Some v) × Bears bytes v.place × (v.next < 2 ^ 63)
IsPossible feed (Send k) = k < length feed
IsPossible feed step = Unit {0}
