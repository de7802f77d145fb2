-- Where records that are packed stand in what was read.
use Rattle.std.specs.Prelude.{◌≡◌, ℕ, List, [], ◌∷◌, ◌++◌, length, None, Some, true}
use Rattle.std.specs.List.{AllByRecursion}
use Rattle.mseed_record.specs.View.{View, IsView}
use Rattle.mseed_record.specs.Selection.{Selection}
use Rattle.mseed_stream.specs.Archive.{IsArchive}
use Rattle.mseed_stream.specs.Walk.{bytes_in}
use Rattle.mseed_audit.specs.Channels.{Placed, is_of_channel, views_in}
use Rattle.mseed_audit.specs.Follows.{IsSound}
use Rattle.mseed_audit.specs.Judging.{IsFound}
use Rattle.mseed_audit.specs.Scope.{asked_of}
use Rattle.mseed_audit.specs.declared.finding.Finding.{Finding}
use Rattle.mseed_repack.specs.private.Reading.{channel_in}

-- the bytes are these records, one after another, and nothing else
pub record AreAllOf (bytes : List ℕ) (views : List View) : Type 0 where
  pub archive : IsArchive bytes (bytes_in views) []
  pub each : AllByRecursion IsView views

-- the records that are packed are those that are asked for of the records that the bytes are, each at its place there
pub record ArePlaces (s : Selection) (bytes : List ℕ) (vs : List View) (ps : List Placed) : Type 0 where
  pub views : List View
  pub all : AreAllOf bytes views
  pub places_are : ps ≡ asked_of s views
  pub packed_are : views_in ps ≡ vs

-- what is found stands at the record with this index, from 0
pub record StandsAt (ps : List Placed) (index : ℕ) (f : Finding) : Type 0 where
  pub leading : List Placed
  pub at : Placed
  pub back : List Placed
  pub parts : ps ≡ leading ++ at ∷ back
  pub index_is : length leading ≡ index
  pub number : f.number ≡ at.number
  pub offset : f.offset ≡ at.offset

-- the record with this index is the first of the channel that has a finding of its own, which is this one
pub record IsOwnAt (key : List ℕ) (vs : List View) (index : ℕ) (f : Finding) : Type 0 where
  pub leading : List View
  pub at : View
  pub back : List View
  pub parts : vs ≡ leading ++ at ∷ back
  pub index_is : length leading ≡ index
  pub of : is_of_channel key at ≡ true
  pub sound : AllByRecursion IsSound (channel_in key leading)
  pub found : IsFound None at (Some f.why)
