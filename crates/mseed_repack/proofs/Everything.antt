-- Where all records are asked for, those that are asked for are all, and none of them lacks a time.
use Rattle.std.proofs.Common.{arith}
use Rattle.std.proofs.Common.{◌≡◌, ◌∙◌, ℕ, Bool, List, [], ◌∷◌, ap, subst, sym, refl, Result, Ok, Err}
use Rattle.std.specs.List.{count_by, filter}
use Rattle.mseed_record.specs.View.{View}
use Rattle.mseed_record.specs.Selection.{asks_for, everything, lacks_time}
use Rattle.mseed_stream.specs.Device.{BytesRead, BytesWritten}
use Rattle.mseed_stream.proofs.OneInput.{same_views}
use Rattle.mseed_stream.proofs.Records.{one_archive}
use Rattle.mseed_stream.specs.Walk.{bytes_in}
use Rattle.mseed_select.specs.Select.{selected_bytes}
use Rattle.mseed_audit.specs.Channels.{Placed, channel_in}
use Rattle.mseed_audit.specs.Scope.{Scope, asked_of, placed_of}
use Rattle.mseed_audit.proofs.Outcomes.{asked_all, none_lacks}
use Rattle.mseed_pack.specs.declared.options.Options.{Options}
use Rattle.mseed_repack.specs.ByStretches.{IsFirstOwn, IsPartStretched, IsRestretchingAmong, WroteKept, left_out_of}
use Rattle.mseed_repack.specs.Repack.{Channel, IsArchiveOf, IsFirstFinding, IsFitFor, IsRepackingAmong, IsWhole}
use Rattle.mseed_repack.specs.Selected.{IsSelectedRepacking, IsSelectedRestretching, ReportsIfLeft, ReportsOfBytes}
use Rattle.mseed_repack.specs.Selected.{ReportsWithoutTime, read_of}
use Rattle.mseed_repack.specs.declared.fault.RepackFault.{RepackFault}
use Rattle.mseed_repack.specs.declared.fault.RepackFault.TheVariants.{Stream, Broken, Misfit, Write, Memory}
use Rattle.mseed_repack.specs.declared.refusing.LeftOut.{LeftOut}
use Rattle.mseed_repack.specs.declared.refusing.LeftOut.TheVariants.{Nothing}
use Rattle.mseed_repack.proofs.AskedFor.{silent_only, whole_kept}

-- nothing is reported of how many lack a time
untold : (views : List View) (old new : BytesWritten)
    → ReportsWithoutTime (count_by (lacks_time everything) views) old new → new ≡ old
untold views old new h = grind (arith, silent_only, none_lacks)

untold_of_bytes : (bytes : List ℕ) (old new : BytesWritten) → ReportsOfBytes everything bytes old new → new ≡ old
untold_of_bytes bytes old new told = untold told.0 old new told.1.1

untold_if_left : (left : LeftOut) (views : List View) (old new : BytesWritten)
    → ReportsIfLeft left (count_by (lacks_time everything) views) old new → new ≡ old
untold_if_left Nothing views old new same = same
untold_if_left left views old new told = untold views old new told

all_kept : (views : List View) → filter (asks_for everything) views ≡ views
all_kept [] = refl
all_kept (v ∷ views) = ap (λ (vs : List View). v ∷ vs) (all_kept views)

module _ {h : BytesRead} {views : List View} (whole : IsWhole h views) where
  abbrev read : BytesRead
  read = read_of (selected_bytes everything views)

  -- the archive of the records that are asked for is the one that was read
  same : (vs : List View) → IsWhole read vs → vs ≡ views
  same vs is =
      let asked = whole_kept everything h views whole in
      let both = one_archive read.bytes (bytes_in vs) (bytes_in (filter (asks_for everything) views)) [] []
      is.archive asked.archive in
      same_views vs (filter (asks_for everything) views) is.each asked.each both.0 ∙ all_kept views

  archive : {vs : List View} {cs : List Channel} → IsArchiveOf read vs cs → IsArchiveOf h vs cs
  archive {vs = vs} is = record {
    whole = subst (IsWhole h) (sym (same vs is.whole)) whole;
    verdicts = is.verdicts;
  }

  -- each record at its place
  placed : {vs : List View} {cs : List Channel} → IsArchiveOf read vs cs → asked_of everything views ≡ placed_of vs
  placed {vs = vs} is =
      ap (λ (scope : Scope). scope.judged views) asked_all ∙ ap placed_of (sym (same vs is.whole))

  fit : {o : Options} {vs : List View} {cs : List Channel} → IsFitFor o read vs cs → IsFitFor o h vs cs
  fit is = record { archive = archive is.archive; continuous = is.continuous; fit = is.fit }

pub all_repacked : {U : Type 0} (o : Options) (result : Result U RepackFault) (h : BytesRead)
    (old new first last : BytesWritten) → IsSelectedRepacking everything o result h old new first last
    → IsRepackingAmong placed_of o result h old new × (last ≡ first)
all_repacked o (Ok u) h old new first last is =
    let came = is.is_so.0 in
    ((came.0, (came.1.0, (fit is.whole came.1.1.0, came.1.1.1))), untold is.views first last is.is_so.1)
all_repacked o (Err (Stream fault)) h old new first last is = search (arith, untold_of_bytes)
all_repacked o (Err (Broken key found)) h old new first last is =
    let came = is.is_so.0 in
    let of = came.1.1 in
    let finding = subst (λ (ps : List Placed). IsFirstFinding (channel_in key ps) found) (placed is.whole of.0) of.2 in
    ((came.0, (came.1.0, (archive is.whole of.0, of.1, finding, of.3))), untold is.views first last is.is_so.1)
all_repacked o (Err (Misfit key number fault)) h old new first last is =
    let came = is.is_so.0 in
    let of = came.1.1 in
    ((came.0, (came.1.0, (archive is.whole of.0, of.1, of.2, of.3, of.4))), untold is.views first last is.is_so.1)
all_repacked o (Err Write) h old new first last is =
    let came = is.is_so.0 in
    ((came.0, (came.1.0, (fit is.whole came.1.1.0, came.1.1.1))), is.is_so.1)
all_repacked o (Err Memory) h old new first last is = is

-- by stretches, nothing is reported before the lines of channels
after_none : (views : List View) (o : Options) (leave : Bool) (result : Result LeftOut RepackFault) (h : BytesRead)
    (old new first between last : BytesWritten)
    → ReportsWithoutTime (count_by (lacks_time everything) views) first between
    → IsRestretchingAmong placed_of o leave result h old new between last
    → IsRestretchingAmong placed_of o leave result h old new first last
after_none views o leave result h old new first between last h' h2 = grind (arith, untold)

pub all_restretched : (o : Options) (leave : Bool) (result : Result LeftOut RepackFault) (h : BytesRead)
    (old new first last : BytesWritten) → IsSelectedRestretching everything o leave result h old new first last
    → IsRestretchingAmong placed_of o leave result h old new first last
all_restretched o leave (Ok left) h old new first last is =
    let came = is.is_so.1.1 in
    after_none is.views o leave (Ok left) h old new first is.is_so.0 last is.is_so.1.0
    (came.0, (came.1.0, (archive is.whole came.1.1.0, came.1.1.1)))
all_restretched o leave (Err (Stream fault)) h old new first last is = search (arith, untold_of_bytes)
all_restretched o leave (Err (Broken key found)) h old new first last is =
    let came = is.is_so.1.1 in
    let of = came.1.1 in
    let own = subst (λ (ps : List Placed). IsFirstOwn (channel_in key ps) found) (placed is.whole of.0) of.2 in
    after_none is.views o leave (Err (Broken key found)) h old new first is.is_so.0 last is.is_so.1.0
    (came.0, (came.1.0, (archive is.whole of.0, of.1, own, of.3, of.4, of.5)))
all_restretched o leave (Err (Misfit key number fault)) h old new first last is =
    let came = is.is_so.1.1 in
    let of = came.1.1 in
    after_none is.views o leave (Err (Misfit key number fault)) h old new first is.is_so.0 last is.is_so.1.0
    (came.0, (came.1.0, (archive is.whole of.0, of.1, of.2, of.3, of.4, of.5)))
all_restretched o leave (Err Write) h old new first last is =
    let vs = is.is_so.0 in
    let cs = is.is_so.1.0 in
    let were = is.is_so.1.1.1 in
    let kept = subst
    (λ (w : BytesWritten). WroteKept (IsPartStretched o vs) 1 o leave vs cs were.packabilities old new w last)
    (untold_if_left (left_out_of were.packabilities) is.views first were.between were.reported) were.kept in
    (vs, (cs, (archive is.whole is.is_so.1.1.0, record { packabilities = were.packabilities; kept = kept })))
all_restretched o leave (Err Memory) h old new first last is = is
