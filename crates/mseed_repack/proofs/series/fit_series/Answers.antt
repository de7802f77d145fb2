use Rattle.std.proofs.Common.{◌≡◌, ◌≢◌, ◌<◌, ℕ, ℤ, List, refl, ap, arith, drop, length, rules, sym, subst, ◌∙◌, All}
use Rattle.std.proofs.Common.{IfSome, Option, Some}
use Rattle.std.proofs.lemmas.List.{take_at}
use Rattle.mseed_steim.specs.Spelling.{IsWithin}
use Rattle.mseed_repack.specs.private.Outline.{AreHeld, IsKnown}
use Rattle.mseed_repack.specs.private.Planning.{IsFitting, room_of}
use Rattle.mseed_repack.specs.private.Reading.{samples_of}
use Rattle.mseed_repack.specs.declared.plan.Way.{Way}
use Rattle.mseed_repack.specs.declared.plan.Way.TheVariants.{Frames, Listed}
use Rattle.mseed_repack.specs.declared.series.Fitting.{Fitting}
use Rattle.mseed_repack.specs.declared.series.Fitting.TheVariants.{Fits, Misfits}
use Rattle.mseed_record.specs.View.{View}
use Rattle.mseed_repack.proofs.Stretched.{head_places, series_held, series_misfits}
use Rattle.mseed_repack.proofs.Supplied.{unread_by}
use Rattle.mseed_repack.proofs.series.fit_series.Goals as goal

-- what doesn't go from frames to frames wants room for all samples
room_listed : (fitting : Fitting) (vs : List View) → ((count : ℕ) → fitting ≢ Fits (Frames count))
    → room_of fitting vs ≡ samples_of vs
room_listed (Fits (Frames count)) vs other = absurd (other count refl)
room_listed (Fits Listed) vs other = refl
room_listed (Misfits fault) vs other = refl

pub fit_head-requires : goal.fit_head-requires
fit_head-requires g c =
    let head = c.head_of-head.result in
    let h = c.outline_records-outline.ensures.outline in
    record {
      steps = head_places _ _ _ _ c.head_of-head.ensures.count c.head_of-head.ensures.steps h.read.places;
    }

pub returns-in-Err-fit_head-clause-fitting : goal.returns-in-Err-fit_head-clause-fitting
returns-in-Err-fit_head-clause-fitting g c =
    let head = c.head_of-head.result in
    let h = c.outline_records-outline.ensures.outline in
    series_misfits _ _ _ _ (c.head_of-head.ensures.series h.samples h.read.are) (c.in-Err-fit_head.ensures.fault
    h.samples c.args.options.now (h.read.size ∙ sym c.head_of-head.ensures.count))

pub returns-in-Some-Frames-clause-fitting : goal.returns-in-Some-Frames-clause-fitting
returns-in-Some-Frames-clause-fitting g c =
    let head = c.head_of-head.result in
    let encoding = c.args.options.now.encoding in
    let near = c.outline_records-outline.result.nearness in
    let h = c.outline_records-outline.ensures.outline in
    let is = c.in-Some-Frames.is ∙ ap (λ (w : Way). Some w) (rw c.in-Some-Frames.is at c.in-Some-Frames.field-0-is) in
    let goes = c.held_way-held.ensures.frames c.in-Some-Frames.count is in
    let held = subst (λ (r : Option Way). IfSome r (λ _. (xs : List ℤ) → All (IsWithin 32) xs → IsKnown near xs
    → AreHeld encoding xs)) is c.held_way-held.ensures.held in (
      series_held c.args.options.now (g.R.Walk.left c.args.records) head h.samples
          (c.head_of-head.ensures.series h.samples h.read.are) (h.read.size ∙ sym c.head_of-head.ensures.count)
          (held h.samples h.within h.known) c.in_default-fit_head.ensures.fits,
      (
        goes.0,
        unread_by h goes.2 (c.outline_records-outline.ensures.unpackable goes.1),
        goes.3 ∙ c.outline_records-outline.ensures.samples,
        omega (arith, c.in_ok-make_room-2.ensures.room),
      ),
    )

pub returns-in-Some-held-clause-fitting : goal.returns-in-Some-held-clause-fitting
returns-in-Some-held-clause-fitting g c =
    let head = c.head_of-head.result in
    let h = c.outline_records-outline.ensures.outline in (
      series_held c.args.options.now (g.R.Walk.left c.args.records) head h.samples
          (c.head_of-head.ensures.series h.samples h.read.are) (h.read.size ∙ sym c.head_of-head.ensures.count)
          (c.in-Some-held.ensures.held h.samples h.within h.known) c.in_default-fit_head.ensures.fits,
      omega (arith, c.in_ok-make_room-3.ensures.room, c.outline_records-outline.ensures.samples),
    )

pub returns-in-None-clause-fitting : goal.returns-in-None-clause-fitting
returns-in-None-clause-fitting g c =
    let o = c.args.options.now in
    let vs = g.R.Walk.left c.args.records in
    let xs : List ℤ = c.fit_read.new.samples in
    let size : length xs ≡ c.make_room-2.new.samples.len = search rules in
    let same : length c.deref_mut.result.now ≡ length xs = search rules in
    -- the list is written back whole
    let whole = take_at xs (drop (length xs) c.make_room-2.new.samples.items) c.make_room-2.new.samples.len size in
    rw (sym whole) at (subst (λ (n : ℕ). IsFitting o n vs c.fit_read.result) same c.fit_read.ensures.fitting)

pub returns-in-Some-held-clause-exact : goal.returns-in-Some-held-clause-exact
returns-in-Some-held-clause-exact g c = λ grew.
    omega (arith, c.in_ok-make_room-3.ensures.exact grew, c.outline_records-outline.ensures.samples)

pub returns-in-None-clause-exact : goal.returns-in-None-clause-exact
returns-in-None-clause-exact g c = λ grew.
    let xs : List ℤ = c.fit_read.new.samples in
    let v : ℕ = length c.make_room-2.new.samples.items in
    let size : length xs ≡ c.make_room-2.new.samples.len = search rules in
    let same : length c.deref_mut.result.now ≡ length xs = search rules in
    let room : length c.deref_mut.result.now ≡ v = ap (λ (ys : List ℤ). length ys) c.deref_mut.ensures.value in
    let whole = take_at xs (drop (length xs) c.make_room-2.new.samples.items) c.make_room-2.new.samples.len size in
    let back = ap (λ (ys : List ℤ). length ys) whole in
    let more : length c.args.samples.now.items < v = omega (arith, grew, back, same, room) in
    let listed = room_listed c.fit_read.result (g.R.Walk.left c.args.records) c.fit_read.ensures.listed in
    omega (
      arith,
      c.in_ok-make_room-3.ensures.exact more,
      c.outline_records-outline.ensures.samples,
      back,
      same,
      room,
      listed,
    )

pub returns-in-None-clause-grown : goal.returns-in-None-clause-grown
returns-in-None-clause-grown g c =
    let xs : List ℤ = c.fit_read.new.samples in
    let size : length xs ≡ c.make_room-2.new.samples.len = search rules in
    let same : length c.deref_mut.result.now ≡ length xs = search rules in
    let room = ap (λ (ys : List ℤ). length ys) c.deref_mut.ensures.value in
    let whole = take_at xs (drop (length xs) c.make_room-2.new.samples.items) c.make_room-2.new.samples.len size in
    omega (arith, c.in_ok-make_room-3.ensures.grown, ap (λ (ys : List ℤ). length ys) whole, same, room)
