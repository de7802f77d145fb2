-- The rings of a feed, record after record.
use Rattle.std.proofs.Common.{◌≡◌, ◌≢◌, ℕ, ◌+◌, ◌<◌, ◌≤◌, ◌^◌, inl, inr, zero, suc, refl, sym, ap, subst, ◌∙◌, arith}
use Rattle.std.proofs.Common.{Bool, true, false, ◌&&◌, not, List, [], ◌∷◌, ◌++◌, length, append-nil}
use Rattle.std.proofs.Common.{◌-◌, map, get_or, take, take_all, Some, Result}
use Rattle.std.proofs.Common.{Ok, Err, IfErr, OnErr, OnOk, slice_get, bytes_eq}
use Rattle.std.proofs.lemmas.Bool.{not-true, or_parts}
use Rattle.std.proofs.lemmas.List.{length-map, length-take, map-append, map_more}
use Rattle.std.proofs.lemmas.List.Sums.{count_by-le-length, length-filter}
use Rattle.std.proofs.lemmas.Option.{slice_get_read}
use Rattle.std.proofs.lemmas.List.Elements.{filter-append}
use Rattle.std.proofs.lemmas.Slice.Eq.{bytes_eq-Decides}
use Rattle.mseed_record.specs.View.{View}
use Rattle.mseed_stream.specs.Device.{BytesRead}
use Rattle.mseed_stream.specs.CutterState.{CutterState}
use Rattle.mseed_stream.specs.Cutting.{IfEnds, failed_by}
use Rattle.mseed_stream.specs.Walk.{AreAllViews, HasHandedOut, bytes_in}
use Rattle.mseed_stream.specs.declared.fault.StreamFault.{StreamFault}
use Rattle.mseed_stream.specs.declared.fault.StreamFault.TheVariants.{Memory}
use Rattle.slink_wire.specs.Place.{Bears, Fields}
use Rattle.slink_wire.proofs.Carrying.{carries_fails, one_place, passes_carries}
use Rattle.slink_wire.proofs.Cuts.{both}
use Rattle.slink_feed.specs.Intake.{IsOfFeed, foreign_of, is_of_station, places_of, pushed}
use Rattle.slink_feed.specs.Rings.{HasPlace}
use Rattle.slink_feed.specs.Window.{Shows, Window, with_record}
use Rattle.slink_feed.specs.declared.input.InputFault.{InputFault}
use Rattle.slink_feed.specs.declared.input.InputFault.TheVariants.{Stream, Foreign}
use Rattle.slink_feed.proofs.Items.{drop_none, get_mapped, map_got, shows_more}
use Rattle.mseed_words.specs.Places.{Called, are_different, has_place, is_same}
use Rattle.mseed_words.specs.FeedWords.{CanServe}
use Rattle.mseed_words.specs.declared.request.Serving.{Serving}
use Rattle.mseed_feed.specs.Filling.{AreOfFeed, IsFilling, feed_of, records_of, ring_of, served}
use Rattle.mseed_feed.specs.private.Pushing.{IsNextPushed}
use Rattle.mseed_feed.specs.declared.filling.Step.{Step}
use Rattle.mseed_feed.specs.declared.filling.Step.TheVariants.{Pushed}

-- a ring takes a record of its place, and stays as it is at another
ring_taken : (s : Serving) (rs : List (List ℕ)) (r : List ℕ) (p : Fields) → is_of_station p r ≡ true
    → with_record (ring_of s rs p) r ≡ ring_of s (rs ++ r ∷ []) p
ring_taken s rs r p is =
    let more : Shows (with_record (ring_of s rs p) r) s.first (records_of p rs ++ r ∷ []) =
    shows_more (ring_of s rs p) s.first (records_of p rs) r (record { records = refl; next = refl }) in
    rw (filter-append (is_of_station p) rs (r ∷ []), is) (cc (more.records, more.next))

ring_left : (s : Serving) (rs : List (List ℕ)) (r : List ℕ) (p : Fields) → is_of_station p r ≡ false
    → ring_of s rs p ≡ ring_of s (rs ++ r ∷ []) p
ring_left s rs r p is = rw (filter-append (is_of_station p) rs (r ∷ []), is, append-nil) refl

-- No place stands twice.
abbrev Lacks : Fields → List Fields → Type 0
Lacks p [] = Unit {0}
Lacks p (q ∷ qs) = (q ≢ p) × Lacks p qs

abbrev pub Distinct : List Fields → Type 0
Distinct [] = Unit {0}
Distinct (p ∷ ps) = Lacks p ps × Distinct ps

same_self : (p : Fields) → is_same p p ≡ true
same_self p = ap (λ (t : Bool). t && bytes_eq p.network p.network) ((bytes_eq-Decides p.station p.station).1 refl)
    ∙ (bytes_eq-Decides p.network p.network).1 refl

lacks_of : (p : Fields) (qs : List Called) → has_place p qs ≡ false → Lacks p (map (λ (q : Called). q.0) qs)
lacks_of p [] h = tt
lacks_of p (q ∷ qs) h =
    let each : (is_same q.0 p ≡ false) × (has_place p qs ≡ false) = or_parts (is_same q.0 p) (has_place p qs) h in
    (λ same. cc (same_self p, rw same at each.0), lacks_of p qs each.1)

pub distinct_of : (ps : List Called) → are_different ps ≡ true → Distinct (map (λ (q : Called). q.0) ps)
distinct_of [] h = tt
distinct_of (p ∷ ps) h =
    let each : (not (has_place p.0 ps) ≡ true) × (are_different ps ≡ true) =
    both (not (has_place p.0 ps)) (are_different ps) h in
    (lacks_of p.0 ps (not-true (has_place p.0 ps) each.0), distinct_of ps each.1)

lacks_at : (p q : Fields) (ps : List Fields) (k : ℕ) → Lacks p ps → slice_get ps k ≡ Some q → q ≢ p
lacks_at p q [] k lacks is = absurd (cc is)
lacks_at p q (x ∷ ps) zero lacks is = λ same. lacks.0 (cc (is, same))
lacks_at p q (x ∷ ps) (suc k) lacks is = lacks_at p q ps k lacks.1 is

rings_left : (s : Serving) (rs : List (List ℕ)) (r : List ℕ) (p : Fields) (ps : List Fields) → Bears r p → Lacks p ps
    → map (ring_of s rs) ps ≡ map (ring_of s (rs ++ r ∷ [])) ps
rings_left s rs r p [] h lacks = refl
rings_left s rs r p (q ∷ qs) h lacks =
    let left = ring_left s rs r q (carries_fails q r (λ other. lacks.0 (one_place r q p other h))) in
    cc (left, rings_left s rs r p qs h lacks.1)

-- the ring of its place takes a record, and the other rings stay
rings_more : (s : Serving) (rs : List (List ℕ)) (r : List ℕ) (ps : List Fields) → Distinct ps
    → pushed (map (ring_of s rs) ps) r ≡ map (ring_of s (rs ++ r ∷ [])) ps
rings_more s rs r [] distinct = refl
rings_more s rs r (p ∷ ps) distinct = by_test (is_of_station p r) refl (rings_more s rs r ps distinct.1)
  where
    by_test : (t : Bool) → is_of_station p r ≡ t
        → pushed (map (ring_of s rs) ps) r ≡ map (ring_of s (rs ++ r ∷ [])) ps
        → pushed (map (ring_of s rs) (p ∷ ps)) r ≡ map (ring_of s (rs ++ r ∷ [])) (p ∷ ps)
    by_test true is more =
        rw is (cc (ring_taken s rs r p is, rings_left s rs r p ps (passes_carries p r is) distinct.0))
    by_test false is more = rw is (cc (ring_left s rs r p is, more))

-- the rings are of the places, whatever they have
places_are : (s : Serving) (rs : List (List ℕ)) (ps : List Fields) → places_of (map (ring_of s rs) ps) ≡ ps
places_are s rs [] = refl
places_are s rs (p ∷ ps) = ap (λ (qs : List Fields). p ∷ qs) (places_are s rs ps)

places_in : (s : Serving) (rs : List (List ℕ)) (feed : List Window) → feed ≡ feed_of s rs → places_of feed ≡ served s
places_in s rs feed is = ap places_of is ∙ places_are s rs (served s)

-- the numbers stay small
pub next_small : (s : Serving) (views : List View) (feed : List Window) (k : ℕ) (w : Window) → s.first < 2 ^ 24
    → length views ≤ 2 ^ 40 → feed ≡ feed_of s (bytes_in views) → slice_get feed k ≡ Some w → w.next < 2 ^ 63
next_small s views feed k w first few is there =
    let at = get_mapped (ring_of s (bytes_in views)) (served s) k w (rw is at there) in
    let next : s.first + length (records_of at.0 (bytes_in views)) ≡ w.next = ap (λ (v : Window). v.next) at.2 in
    let some = is_of_station at.0 in
    omega (
      arith,
      length-filter some (bytes_in views),
      count_by-le-length some (bytes_in views),
      length-map views (λ (v : View). v.bytes),
    )

pub all_of_feed : (places : List Fields) (rs : List (List ℕ)) (r : List ℕ) → AreOfFeed places rs → IsOfFeed places r
    → AreOfFeed places (rs ++ r ∷ [])
all_of_feed places [] r all is = (is, tt)
all_of_feed places (x ∷ rs) r all is = (all.0, all_of_feed places rs r all.1 is)

-- before the first record
pub empty_ring : (s : Serving) (p : Fields) → record { place = p; capacity = s.capacity; records = []; next = s.first }
    ≡ ring_of s [] p
empty_ring s p =
    let first : s.first + 0 ≡ s.first = omega arith in rw (first, drop_none (0 - s.capacity)) refl

pub no_double : (s : Serving) (ps : List Called) (i : ℕ) (p : Called) → Distinct (map (λ (q : Called). q.0) ps)
    → slice_get ps i ≡ Some p → HasPlace (map (ring_of s []) (map (λ (q : Called). q.0) (take i ps))) p.0 → ⊥
no_double s [] i p distinct is has = cc is
no_double s (q ∷ qs) zero p distinct is has = has
no_double s (q ∷ qs) (suc i) p distinct is (inl same) =
    lacks_at q.0 p.0 (map (λ (a : Called). a.0) qs) i distinct.0 (map_got (λ (a : Called). a.0) qs i p is) (sym same)
no_double s (q ∷ qs) (suc i) p distinct is (inr more) = no_double s qs i p distinct.1 is more

-- The feed while rings are added.
abbrev opening : Serving → ℕ → List Window
opening s i = map (ring_of s []) (map (λ (p : Called). p.0) (take i s.places))

pub opened_few : (s : Serving) (i : ℕ) (feed : List Window) → i < length s.places → length s.places ≤ 16
    → feed ≡ opening s i → length feed < 16
opened_few s i feed lt most is =
    let called = take i s.places in
    omega (
      arith,
      ap length is,
      length-map (map (λ (p : Called). p.0) called) (ring_of s []),
      length-map called (λ (p : Called). p.0),
      length-take i s.places,
    )

pub opened_other : (s : Serving) (i : ℕ) (p : Called) (feed : List Window) (ring : Window)
    → are_different s.places ≡ true → i < length s.places → p ≡ get_or s.places i p
    → ring ≡ record { place = p.0; capacity = s.capacity; records = []; next = s.first } → feed ≡ opening s i
    → ¬ (HasPlace feed ring.place)
opened_other s i p feed ring different lt item is opened has =
    no_double s s.places i p (distinct_of s.places different) (slice_get_read s.places _ i p refl lt item)
    (subst (λ (ws : List Window). HasPlace ws p.0) opened (subst (HasPlace feed) (ap (λ (w : Window). w.place) is) has))

pub opened_more : (s : Serving) (i : ℕ) (p : Called) (feed new : List Window) (ring : Window) → i < length s.places
    → p ≡ get_or s.places i p → ring ≡ record { place = p.0; capacity = s.capacity; records = []; next = s.first }
    → feed ≡ opening s i → new ≡ feed ++ ring ∷ [] → new ≡ opening s (i + 1)
opened_more s i p feed new ring lt item is opened added =
    added ∙ (ap (λ (ws : List Window). ws ++ ring ∷ []) opened
    ∙ (ap (λ (w : Window). opening s i ++ w ∷ []) (is
    ∙ (empty_ring s p.0 ∙ ap (λ (q : Called). ring_of s [] q.0) item))
    ∙ (sym (map-append (ring_of s []) (map (λ (q : Called). q.0) (take i s.places)) ((get_or s.places i p).0 ∷ []))
    ∙ ap (map (ring_of s [])) (sym (map_more (λ (q : Called). q.0) s.places i p lt)))))

pub opened_all : (s : Serving) (i : ℕ) (feed : List Window) → length s.places ≤ i → feed ≡ opening s i
    → feed ≡ feed_of s []
opened_all s i feed past opened = opened ∙ ap (λ (ps : List Called). map (ring_of s []) (map (λ (q : Called). q.0) ps))
    (take_all i s.places past)

-- one record more
bytes_more : (views : List View) (v : View) → bytes_in (views ++ v ∷ []) ≡ bytes_in views ++ v.bytes ∷ []
bytes_more views v = map-append (λ (x : View). x.bytes) views (v ∷ [])

feed_reported : (s : Serving) (views : List View) (v : View) (r : List ℕ) (feed new : List Window)
    → are_different s.places ≡ true → r ≡ v.bytes → feed ≡ feed_of s (bytes_in views) → new ≡ pushed feed r
    → new ≡ feed_of s (bytes_in (views ++ v ∷ []))
feed_reported s views v r feed new different same is taken =
    rw (taken, is, same, bytes_more views v)
    (rings_more s (bytes_in views) v.bytes (served s) (distinct_of s.places different))

records_reported : (s : Serving) (views : List View) (v : View) (r : List ℕ) (feed : List Window) → r ≡ v.bytes
    → feed ≡ feed_of s (bytes_in views) → IsOfFeed (places_of feed) r → AreOfFeed (served s) (bytes_in views)
    → AreOfFeed (served s) (bytes_in (views ++ v ∷ []))
records_reported s views v r feed same is of before =
    subst (AreOfFeed (served s)) (sym (bytes_more views v))
    (all_of_feed _ _ _ before (subst (IsOfFeed (served s)) same (rw (places_in s (bytes_in views) _ is) at of)))

-- the next record, by whether a ring accepted it
pub pushed_next : (s : Serving) (views : List View) (view : View) (bytes : List ℕ) (number : ℕ)
    (result : Result Step InputFault) (taken : Result ℕ InputFault) (feed new : List Window) (old h : BytesRead)
    (c : CutterState) → CanServe s → bytes ≡ view.bytes → HasHandedOut h c (views ++ view ∷ []) → old.calls < h.calls
    → AreOfFeed (served s) (bytes_in views) → feed ≡ feed_of s (bytes_in views) → number ≡ length views + 1
    → OnOk taken (IsOfFeed (places_of feed) bytes) → OnOk taken (new ≡ pushed feed bytes)
    → OnErr taken (¬ (IsOfFeed (places_of feed) bytes))
    → IfErr taken (λ e. e ≡ Foreign (foreign_of number (length bytes) bytes))
    → OnOk taken (result ≡ Ok Pushed) → IfErr taken (λ e. result ≡ Err e)
    → IsNextPushed s result views old h c new
pushed_next s views view bytes m result (Ok k) feed new old h c can same handed called each is n of taken _ _ ok _ =
    subst (λ (r : Result Step InputFault). IsNextPushed s r views old h c new) (sym ok) (record {
      view = view;
      filled = record {
        handed = handed;
        each = records_reported s views view bytes feed same is of each;
        feed_is = feed_reported s views view bytes feed new can.places.different same is taken;
      };
      called = called;
    })
pushed_next s views view bytes m result (Err e) feed new old h c can same handed called each is n _ _ none f _ err =
    subst (λ (r : Result Step InputFault). IsNextPushed s r views old h c new) (sym (err ∙ ap Err f)) (record {
      before = views;
      view = view;
      offset = c.offset;
      views = handed.records;
      fine = handed.fine;
      each = each;
      other = λ of. none (rw (← (places_in s (bytes_in views) feed is)) at (subst (IsOfFeed (served s)) (sym same) of));
      foreign_is = ap (λ (k : ℕ). foreign_of k (length bytes) bytes) n
          ∙ ap (λ (b : List ℕ). foreign_of (length views + 1) (length b) b) same;
    })

-- the input ended with a fault, or memory was wanted
pub broken_off : (X : Type 0) (s : Serving) (fault : StreamFault) (h : BytesRead) (views : List View)
    → AreOfFeed (served s) (bytes_in views) → IfEnds {X = X} (Err fault) (AreAllViews h views (Some fault))
    → h.failures ≡ failed_by {X = X} (Err fault) → IsFilling s (Err (Stream fault)) h
broken_off X s Memory h views each all failed = failed
broken_off X s fault h views each all failed = record { views = views; all = all; each = each }
