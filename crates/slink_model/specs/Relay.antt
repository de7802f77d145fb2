-- A series that is packed, sent through a schedule, and put together from what the client holds.
use Rattle.std.specs.Prelude.{◌≡◌, ◌≢◌, ◌<◌, ◌^◌, ℕ, All, List, [], ◌∷◌, ◌++◌, length, Option, Some, None, Result, Ok}
use Rattle.std.specs.Prelude.{Err, slice_index_or, slice_range}
use Rattle.slink_wire.specs.Place.{AreNumbers, Fields}
use Rattle.slink_feed.specs.Fault.{IsCapacity}
use Rattle.slink_model.specs.declared.world.Setup.{Setup}
use Rattle.slink_model.specs.declared.world.Step.{Step}
use Rattle.slink_model.specs.declared.world.Step.TheVariants.{Append, Send}
use Rattle.slink_model.specs.World.{AllHappen, WorldState, opening}
use Rattle.mseed_record.specs.View.{View}
use Rattle.mseed_audit.specs.Follows.{IsContinuous}
use Rattle.mseed_audit.specs.Series.{Trace, IsSeriesOf}
use Rattle.mseed_pack.specs.declared.options.Options.{Options}
use Rattle.mseed_pack.specs.Fitting.{Fits, IsMisfit}
use Rattle.mseed_pack.specs.Packing.{IsPacking}
use Rattle.mseed_pack.specs.ReadBack.{AreViewsOf, IsPartOf}
use Rattle.slink_model.specs.declared.relaying.RelayFault.{RelayFault}
use Rattle.slink_model.specs.declared.relaying.RelayFault.TheVariants.{Pack, Memory}

-- The steps with these records in place of their own: each Append pushes the next one, and nothing where none is left.
abbrev pub fed : List Step → List (List ℕ) → List Step
fed [] records = []
fed (Append k bytes ∷ steps) [] = fed steps []
fed (Append k bytes ∷ steps) (r ∷ rs) = Append k r ∷ fed steps rs
fed (step ∷ steps) records = step ∷ fed steps records

-- A step names the one station.
abbrev pub IsOfOne : Step → Type 0
IsOfOne (Append k bytes) = k < 1
IsOfOne (Send k) = k < 1
IsOfOne step = Unit {0}

-- The schedule has one station, that of the channel: its codes begin with the network, and then the station.
pub record IsOfChannel (setup : Setup) (codes : List ℕ) : Type 0 where
  pub place : Fields
  pub first : Option ℕ
  pub places : setup.places.items ≡ (place, first) ∷ []
  pub network : place.network ≡ slice_range codes 0 2
  pub station : place.station ≡ slice_range codes 2 7

-- A series of this channel can be sent through a schedule of these steps: of one station, the channel's, and fewer than
-- 2^24 steps.
pub record IsRelayable (setup : Setup) (codes : List ℕ) (steps : List Step) : Type 0 where
  pub channel : IsOfChannel setup codes
  pub capacity : IsCapacity setup.capacity
  pub first : setup.first < 2 ^ 24
  pub numbers : AreNumbers setup.places.items
  pub few : length steps < 2 ^ 24
  pub each : All IsOfOne steps

abbrev pub held_of : WorldState → List (List ℕ)
held_of w = slice_index_or w.held 0 []

-- Some of the records that a series is packed into, one after another, which are continuous; and their series, the
-- part of it that they were packed from.
pub record IsPartHeld (s : Trace) (records held : List (List ℕ)) (t : Trace) : Type 0 where
  pub before : List (List ℕ)
  pub after : List (List ℕ)
  pub records_are : records ≡ before ++ (held ++ after)
  pub some : held ≢ []
  pub views : List View
  pub are_views : AreViewsOf held views
  pub continuous : IsContinuous views
  pub series : IsSeriesOf t views
  pub part : IsPartOf s before after t

-- what comes of these records through the schedule: the series of those that the client holds, or none, where it holds
-- none
abbrev pub IsHeldAs : Option Trace → Trace → List (List ℕ) → List (List ℕ) → Type 0
IsHeldAs None s records held = held ≡ []
IsHeldAs (Some t) s records held = IsPartHeld s records held t

abbrev pub ComesThrough : Option Trace → Trace → Setup → List Step → List (List ℕ) → Type 0
ComesThrough t s setup steps records =
    (w : WorldState) × AllHappen (opening setup) (fed steps records) w × IsHeldAs t s records (held_of w)

-- by the answer: what comes through of the records that the series is packed into; why it isn't packed; or no memory
abbrev pub IsRelay : Result (Option Trace) RelayFault → Trace → Options → Setup → List Step → Type 0
IsRelay (Ok t) s o setup steps = (records : List (List ℕ)) × IsPacking s o records
    × ComesThrough t s setup steps records
IsRelay (Err (Pack fault)) s o setup steps = IsMisfit s o fault
IsRelay (Err Memory) s o setup steps = Fits s o
