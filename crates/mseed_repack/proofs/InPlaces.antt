-- Records and what is found of them, each at its place in what was read.
use Rattle.std.specs.Prelude.{⊤}
use Rattle.std.proofs.Common.{◌≡◌, ℕ, suc, ◌+◌, ◌<◌, List, [], ◌∷◌, ◌++◌, length, Bool, true, false, cond}
use Rattle.std.proofs.Common.{refl, sym, ap, subst, ◌∙◌, arith, length-append, Option, None, Some}
use Rattle.std.specs.List.{AllByRecursion, count_by, filter}
use Rattle.std.proofs.lemmas.List.{length-map, map-append}
use Rattle.std.proofs.lemmas.List.Elements.{filter-append}
use Rattle.std.proofs.lemmas.List.Sums.{length-filter}
use Rattle.mseed_record.specs.View.{View}
use Rattle.mseed_record.specs.Selection.{Selection, asks_for}
use Rattle.mseed_audit.specs.Channels.{Added, Placed, added_from, channel_in as placed_in, is_of_channel, numbered}
use Rattle.mseed_audit.specs.Channels.{views_in}
use Rattle.mseed_audit.specs.Follows.{IsSound}
use Rattle.mseed_audit.specs.Judging.{IsFound}
use Rattle.mseed_audit.specs.Scope.{asked_of, placed_of}
use Rattle.mseed_audit.specs.Verdict.{AreFindings, finding_at, none, one}
use Rattle.mseed_audit.specs.declared.finding.Finding.{Finding}
use Rattle.mseed_audit.specs.declared.finding.Why.{Why}
use Rattle.mseed_audit.proofs.Following.{end_of}
use Rattle.mseed_audit.proofs.Views.{added_length}
use Rattle.mseed_repack.specs.ByStretches.{IsFirstOwn}
use Rattle.mseed_repack.specs.Repack.{IsFirstFinding}
use Rattle.mseed_repack.specs.private.Places.{IsOwnAt, StandsAt}
use Rattle.mseed_repack.specs.private.Reading.{channel_in}

-- ---- the views of records in their places

views_from : (n offset : ℕ) (vs : List View) → views_in (numbered n (added_from offset vs)) ≡ vs
views_from n offset [] = refl
views_from n offset (v ∷ vs) = ap (λ (ws : List View). v ∷ ws) (views_from (n + 1) (offset + length v.bytes) vs)

pub views_placed : (vs : List View) → views_in (placed_of vs) ≡ vs
views_placed vs = views_from 1 0 vs

views_kept : (p : View → Bool) (ps : List Placed) → views_in (filter (λ q. p q.view) ps) ≡ filter p (views_in ps)
views_kept p [] = refl
views_kept p (q ∷ qs) = grind (arith, views_kept p qs)

pub views_asked : (s : Selection) (vs : List View) → views_in (asked_of s vs) ≡ filter (asks_for s) vs
views_asked s vs =
    views_kept (asks_for s) (placed_of vs) ∙ ap (λ (ws : List View). filter (asks_for s) ws) (views_placed vs)

-- as many as their views
size_of : (ps : List Placed) (vs : List View) → views_in ps ≡ vs → length ps ≡ length vs
size_of ps vs e = sym (length-map ps (λ q. q.view)) ∙ ap (λ (ws : List View). length ws) e

pub asked_count : (s : Selection) (vs : List View) → length (asked_of s vs) ≡ count_by (asks_for s) vs
asked_count s vs = size_of (asked_of s vs) (filter (asks_for s) vs) (views_asked s vs) ∙ length-filter (asks_for s) vs

-- ---- a record among others

added_split : (offset : ℕ) (vs ws : List View)
    → added_from offset (vs ++ ws) ≡ added_from offset vs ++ added_from (end_of offset vs) ws
added_split offset [] ws = refl
added_split offset (v ∷ vs) ws = grind (arith, added_split (offset + length v.bytes) vs ws)

numbered_split : (n : ℕ) (xs ys : List Added) → numbered n (xs ++ ys) ≡ numbered n xs ++ numbered (n + length xs) ys
numbered_split n [] ys = ap (λ (k : ℕ). numbered k ys) (omega arith)
numbered_split n (x ∷ xs) ys = grind (arith, numbered_split (n + 1) xs ys)

-- it stands behind those before it, which are numbered from 1
abbrev pub placed_behind : List View → View → Placed
placed_behind leading v = record { view = v; offset = end_of 0 leading; number = length leading + 1 }

abbrev placed_after : List View → View → List View → List Placed
placed_after leading v back =
    numbered (length leading + 1 + 1) (added_from (end_of 0 leading + length v.bytes) back)

placed_split : (leading : List View) (v : View) (back : List View)
    → placed_of (leading ++ v ∷ back) ≡ placed_of leading ++ placed_behind leading v ∷ placed_after leading v back
placed_split leading v back = grind (arith, added_split, numbered_split, end_of, added_length)

pub stands_among : (leading : List View) (v : View) (back : List View) (index : ℕ) (f : Finding)
    → length leading ≡ index → f.number ≡ index + 1 → f.offset ≡ end_of 0 leading
    → StandsAt (placed_of (leading ++ v ∷ back)) index f
stands_among leading v back index f h h2 h3 = grind (arith, placed_split, size_of, views_placed)

-- and among those that are asked for, where it is one of them
pub stands_asked : (s : Selection) (leading : List View) (v : View) (back : List View) (index : ℕ) (f : Finding)
    → asks_for s v ≡ true → count_by (asks_for s) leading ≡ index → f.number ≡ length leading + 1
    → f.offset ≡ end_of 0 leading → StandsAt (asked_of s (leading ++ v ∷ back)) index f
stands_asked s leading v back index f h h2 h3 h4 = grind (arith, placed_split, filter-append, asked_count)

-- the number tells the index
number_from : (n offset : ℕ) (vs : List View) (leading back : List Placed) (p : Placed)
    → numbered n (added_from offset vs) ≡ leading ++ p ∷ back → p.number ≡ n + length leading
number_from n offset [] [] back p e = cc
number_from n offset [] (q ∷ leading) back p e = cc
number_from n offset (v ∷ vs) [] back p e = grind (arith)
number_from n offset (v ∷ vs) (q ∷ leading) back p e =
    let rest : numbered (n + 1) (added_from (offset + length v.bytes) vs) ≡ leading ++ p ∷ back = cc in
    let later = number_from (n + 1) (offset + length v.bytes) vs leading back p rest in
    omega (arith, later)

pub number_at : (vs : List View) (index : ℕ) (f : Finding) → StandsAt (placed_of vs) index f → f.number ≡ index + 1
number_at vs index f h = grind (arith, number_from)

pub index_inside : (ps : List Placed) (index : ℕ) (f : Finding) → StandsAt ps index f → index < length ps
index_inside ps index f h = grind (arith, length-append)

-- as many records of what was read as are packed
pub index_among : (vs : List View) (ps : List Placed) (index : ℕ) (f : Finding) → views_in ps ≡ vs
    → StandsAt (placed_of vs) index f → index < length ps
index_among vs ps index f same at =
    omega (
      arith,
      index_inside (placed_of vs) index f at,
      size_of (placed_of vs) vs (views_placed vs),
      size_of ps vs same,
    )

-- ---- lists that part at one place

pub parts_alike : {X : Type 0} (xs ys cs ds : List X) (x y : X) → length xs ≡ length ys → xs ++ x ∷ cs ≡ ys ++ y ∷ ds
    → (xs ≡ ys) × (x ≡ y)
parts_alike [] [] cs ds x y size e = (refl, cc)
parts_alike {X} (w ∷ xs) (z ∷ ys) cs ds x y size e =
    let first : w ≡ z = cc in
    let rest : xs ++ x ∷ cs ≡ ys ++ y ∷ ds = cc in
    let others = parts_alike xs ys cs ds x y (omega (arith, size)) rest in
    (λ i. first i ∷ others.0 i, others.1)
parts_alike xs ys cs ds x y size e = absurd (omega (arith, size))

-- what stands at one record, for one reason, is one finding
pub one_at : (ps : List Placed) (index : ℕ) (f g : Finding) → StandsAt ps index f → StandsAt ps index g → f.why ≡ g.why
    → f ≡ g
one_at ps index f g h h2 h3 = grind (arith, parts_alike)

-- ---- the first finding that is a record's own

pub own_first : (key : List ℕ) (vs : List View) (ps : List Placed) (index : ℕ) (f g : Finding) → views_in ps ≡ vs
    → IsOwnAt key vs index f → StandsAt ps index g → g.why ≡ f.why → IsFirstOwn (placed_in key ps) g
own_first key vs ps index f g same own at why =
    let size = length-map at.leading (λ q. q.view) ∙ (at.index_is ∙ sym own.index_is) in
    let joined = sym (map-append (λ (q : Placed). q.view) at.leading (at.at ∷ at.back)) ∙ ap (λ (qs : List Placed).
    views_in qs) (sym at.parts) ∙ same ∙ own.parts in
    let both = parts_alike _ _ _ _ _ _ size joined in
    record {
      leading = placed_in key at.leading;
      at = at.at;
      back = placed_in key at.back;
      parts = ap (λ (qs : List Placed). placed_in key qs) at.parts
          ∙ filter-append test at.leading (at.at ∷ at.back)
          ∙ ap (λ (b : Bool). placed_in key at.leading ++ cond b (at.at ∷ placed_in key at.back)
          (placed_in key at.back)) (ap (λ (v : View). is_of_channel key v) both.1 ∙ own.of);
      sound = subst (λ (ws : List View). AllByRecursion IsSound ws)
          (sym (views_kept (is_of_channel key) at.leading ∙ ap (λ (ws : List View). channel_in key ws) both.0))
          own.sound;
      number = at.number;
      offset = at.offset;
      found = subst (λ (v : View). IsFound None v (Some g.why)) (sym both.1)
          (subst (λ (w : Why). IsFound None own.at (Some w)) (sym why) own.found);
    }
  where
    test : Placed → Bool
    test q = is_of_channel key q.view

-- ---- findings of records at other places

-- the first of both lists stand at records with one index, for one reason
abbrev AreFirst : List Placed → List Placed → List Finding → List Finding → Type 0
AreFirst ps qs [] others = ⊤
AreFirst ps qs (f ∷ fs) [] = ⊥
AreFirst ps qs (f ∷ fs) (g ∷ gs) = (index : ℕ) × (StandsAt ps index f × StandsAt qs index g × (g.why ≡ f.why))

stands_later : (p : Placed) (ps : List Placed) (index : ℕ) (f : Finding) → StandsAt ps index f
    → StandsAt (p ∷ ps) (suc index) f
stands_later p ps index f at =
    record { leading = p ∷ at.leading; at = at.at; back = at.back; parts = cc; index_is = cc; number = cc; offset = cc }

first_later : (p q : Placed) (ps qs : List Placed) (found others : List Finding) → AreFirst ps qs found others
    → AreFirst (p ∷ ps) (q ∷ qs) found others
first_later p q ps qs [] others is = tt
first_later p q ps qs (f ∷ fs) [] is = absurd is
first_later p q ps qs (f ∷ fs) (g ∷ gs) is =
    (suc is.0, (stands_later p ps is.0 f is.1.0, stands_later q qs is.0 g is.1.1, is.1.2))

first_here : (p q : Placed) (ps qs : List Placed) (why : Option Why) (found others : List Finding)
    → AreFirst ps qs found others → AreFirst (p ∷ ps) (q ∷ qs) (finding_at p why ++ found) (finding_at q why ++ others)
first_here p q ps qs None found others is = first_later p q ps qs found others is
first_here p q ps qs (Some why) found others is = (
  0,
  (
    record { leading = []; at = p; back = ps; parts = refl; index_is = refl; number = refl; offset = refl },
    record { leading = []; at = q; back = qs; parts = refl; index_is = refl; number = refl; offset = refl },
    refl,
  ),
)

abbrev Moved : Option View → List Placed → List Placed → List Placed → List Finding → Type 0
Moved before ps qs kept found =
    (others : List Finding) × (AreFindings before kept others × AreFirst ps qs found others)

-- one more record of the channel
moved_here : (before : Option View) (p q : Placed) (ps qs kept own : List Placed) (found : List Finding)
    → p.view ≡ q.view
    → ((later : List Finding) → AreFindings (Some p.view) own later → Moved (Some p.view) ps qs kept later)
    → AreFindings before (p ∷ own) found → Moved before (p ∷ ps) (q ∷ qs) (q ∷ kept) found
moved_here before p q ps qs kept own found same rest (one _ _ _ why later h more) =
    let others = rest later more in (
      finding_at q why ++ others.0,
      (
        one before q kept why others.0 (subst (λ (v : View). IsFound before v why) same h) (rw same at others.1.0),
        first_here p q ps qs why later others.0 others.1.1,
      ),
    )

-- one of another channel
moved_past : (before : Option View) (p q : Placed) (ps qs kept : List Placed) (found : List Finding)
    → Moved before ps qs kept found → Moved before (p ∷ ps) (q ∷ qs) kept found
moved_past before p q ps qs kept found m = (m.0, (m.1.0, first_later p q ps qs found m.0 m.1.1))

moved_either : (before : Option View) (p q : Placed) (ps qs own kept : List Placed) (found : List Finding) (b : Bool)
    → p.view ≡ q.view
    → ((prior : Option View) (later : List Finding) → AreFindings prior own later → Moved prior ps qs kept later)
    → AreFindings before (cond b (p ∷ own) own) found → Moved before (p ∷ ps) (q ∷ qs) (cond b (q ∷ kept) kept) found
moved_either before p q ps qs own kept found true same rest is = search (arith, moved_here)
moved_either before p q ps qs own kept found false same rest is = grind (arith, moved_past)

moved : (key : List ℕ) (before : Option View) (ps qs : List Placed) (found : List Finding) → views_in ps ≡ views_in qs
    → AreFindings before (placed_in key ps) found → Moved before ps qs (placed_in key qs) found
moved key before [] [] _ same (none _) = ([], (none before, tt))
moved key before (p ∷ ps) (q ∷ qs) found same is =
    let here : p.view ≡ q.view = cc in
    let others : views_in ps ≡ views_in qs = cc in
    subst (λ (v : View). Moved before (p ∷ ps) (q ∷ qs) (cond (is_of_channel key v) (q ∷ placed_in key qs)
    (placed_in key qs)) found) here
    (moved_either _ _ _ _ _ _ _ _ _ here (λ prior later more. moved key prior ps qs later others more) is)
moved key before ps qs found same is = cc

-- the first finding of a channel stands at some record, and so does the first one where the records stand elsewhere
first_both : (key : List ℕ) (vs : List View) (ps : List Placed) (f : Finding) → views_in ps ≡ vs
    → IsFirstFinding (placed_in key (placed_of vs)) f
    → (g : Finding) × (IsFirstFinding (placed_in key ps) g × AreFirst (placed_of vs) ps (f ∷ []) (g ∷ []))
first_both key vs ps f same first = by m.0 m.1.0 m.1.1
  where
    m : Moved None (placed_of vs) ps (placed_in key ps) (f ∷ first.0)
    m = moved key None (placed_of vs) ps (f ∷ first.0) (views_placed vs ∙ sym same) first.1

    by : (others : List Finding) → AreFindings None (placed_in key ps) others
        → AreFirst (placed_of vs) ps (f ∷ first.0) others
        → (g : Finding) × (IsFirstFinding (placed_in key ps) g × AreFirst (placed_of vs) ps (f ∷ []) (g ∷ []))
    by [] are is = absurd is
    by (g ∷ gs) are is = (g, ((gs, are), is))

pub first_number : (key : List ℕ) (vs : List View) (f : Finding) → IsFirstFinding (placed_in key (placed_of vs)) f
    → 0 < f.number
first_number key vs f first =
    let at = (first_both key vs (placed_of vs) f (views_placed vs) first).1.1 in
    omega (arith, number_at vs at.0 f at.1.0)

-- and is the first one wherever the records stand, with the number and the offset that it has there
pub first_moved : (key : List ℕ) (vs : List View) (ps : List Placed) (f g : Finding) → views_in ps ≡ vs
    → IsFirstFinding (placed_in key (placed_of vs)) f
    → ((index : ℕ) → StandsAt (placed_of vs) index f → StandsAt ps index g) → g.why ≡ f.why
    → IsFirstFinding (placed_in key ps) g
first_moved key vs ps f g same first stands why =
    let both = first_both key vs ps f same first in
    let at = both.1.1 in
    rw (one_at ps at.0 both.0 g at.1.1 (stands at.0 at.1.0) (at.1.2 ∙ sym why)) at both.1.0
