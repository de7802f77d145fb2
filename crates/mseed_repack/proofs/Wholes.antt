-- A whole archive that was read.
use Rattle.std.proofs.lemmas.Simd.{map-map}
use Rattle.mseed_record.specs.Record.{IsRecord}
use Rattle.mseed_stream.proofs.Records.{view_record}
use Rattle.std.proofs.ByRecursion.{All-map, All-weaker}
use Rattle.std.proofs.Common.{◌≡◌, ℕ, ◌<◌, ◌^◌, List, [], length, map, subst, arith, sym}
use Rattle.std.specs.List.{AllByRecursion}
use Rattle.std.proofs.lemmas.List.{length-map}
use Rattle.mseed_record.specs.View.{View, IsView}
use Rattle.mseed_record.specs.Viewing.{view_of}
use Rattle.mseed_record.specs.declared.view.RecordView.{RecordView}
use Rattle.mseed_stream.specs.Archive.{IsArchive}
use Rattle.mseed_stream.specs.Device.{BytesRead}
use Rattle.mseed_stream.specs.Split.{bytes_of_each}
use Rattle.mseed_stream.specs.Walk.{bytes_in}
use Rattle.mseed_audit.specs.Channels.{added_from}
use Rattle.mseed_audit.specs.Verdict.{AreVerdicts}
use Rattle.mseed_repack.specs.Repack.{Channel, IsArchiveOf, IsWhole}
use Rattle.mseed_repack.specs.ReadBack.{IsReadOf}
use Rattle.mseed_repack.specs.private.Places.{AreAllOf}

bytes_are : (rs : List RecordView) → bytes_of_each rs ≡ bytes_in (map view_of rs)
bytes_are rs = sym (map-map (λ (v : View). v.bytes) view_of rs)

pub all_records : (vs : List View) → AllByRecursion IsView vs → AllByRecursion IsRecord (bytes_in vs)
all_records vs each = All-map IsRecord (λ (v : View). v.bytes) vs (All-weaker IsView _ view_record vs each)

-- bytes that are records one after another
pub all_of : (rs : List RecordView) {bytes : List ℕ} → IsArchive bytes (bytes_of_each rs) []
    → AllByRecursion (λ (r : RecordView). IsView (view_of r)) rs → AreAllOf bytes (map view_of rs)
all_of rs {bytes = bytes} archive each = record {
  archive = subst (λ (bs : List (List ℕ)). IsArchive bytes bs []) (bytes_are rs) archive;
  each = All-map IsView view_of rs each;
}

-- where they are what was read, it is an archive
pub whole_read : (rs : List RecordView) {h : BytesRead} {bytes : List ℕ} → IsReadOf bytes h
    → AreAllOf bytes (map view_of rs) → length rs < 2 ^ 40 → IsWhole h (map view_of rs)
whole_read rs h' h2 h3 = grind (arith, length-map)

-- and with the verdicts on its records it is an archive of these channels
pub archive_of : {h : BytesRead} {views : List View} {cs ds : List Channel} → IsWhole h views
    → AreVerdicts (added_from 0 views) ds → cs ≡ ds → IsArchiveOf h views cs
archive_of h' h2 h3 = grind (arith)
