-- Among the records of several packed series each channel's are its series' own.
use Rattle.std.proofs.Common.{◌≡◌, ◌≢◌, ℕ, true, List, [], ◌∷◌, ◌++◌, IsTrue}
use Rattle.std.proofs.Common.{refl, sym, ap, ◌∙◌, append-nil}
use Rattle.std.specs.List.{AllByRecursion, filter}
use Rattle.std.proofs.Common.{inl, inr}
use Rattle.std.proofs.lemmas.Bool.{cases_Bool}
use Rattle.std.proofs.Common.{drop, length, take}
use Rattle.std.proofs.ByRecursion.{All-drop, All-take}
use Rattle.std.proofs.lemmas.List.{drop-map, drop_at, take-append-drop, take-map, take_at}
use Rattle.std.proofs.lemmas.List.Elements.{filter-append}
use Rattle.mseed_record.specs.Header.{key_at}
use Rattle.mseed_record.specs.View.{View, IsView}
use Rattle.mseed_audit.specs.Channels.{added_from, is_of_channel, records_of, views_in}
use Rattle.mseed_audit.proofs.Following.{views_are}
use Rattle.mseed_audit.proofs.Maps.{key_of as same_key_of, same_is}
use Rattle.mseed_pack.specs.ReadBack.{AreApart, AreViewsOf, Packed, ReadsAs, StandsIn, records_of_all}
use Rattle.mseed_pack.proofs.Followed.{bytes_in}

-- a record is of one channel at most
pub key_of : (key : List ℕ) (v : View) → is_of_channel key v ≡ true → key ≡ key_at v.bytes
key_of key v e = same_is key (key_at v.bytes) (same_key_of key v e)

pub all_kept : (key : List ℕ) (vs : List View) → AllByRecursion (λ (v : View). IsTrue (is_of_channel key v)) vs
    → filter (is_of_channel key) vs ≡ vs
all_kept key [] h = refl
all_kept key (v ∷ vs) h = let here : is_of_channel key v ≡ true = h.0 in
    rw here (ap (λ (us : List View). v ∷ us) (all_kept key vs h.1))

none_kept : (key other : List ℕ) (vs : List View) → key ≢ other
    → AllByRecursion (λ (v : View). IsTrue (is_of_channel key v)) vs → filter (is_of_channel other) vs ≡ []
none_kept key other [] apart h = refl
none_kept key other (v ∷ vs) apart h = elim (cases_Bool (is_of_channel other v)) [
  | inl is ↦ absurd (apart (key_of key v h.0 ∙ sym (key_of other v is)))
  | inr not ↦ rw not (none_kept key other vs apart h.1)
]

-- views are cut where their records are
pub record Halves (xs ys : List (List ℕ)) (vs : List View) : Type 0 where
  pub prefix : List View
  pub back : List View
  pub parts : vs ≡ prefix ++ back
  pub first : AreViewsOf xs prefix
  pub second : AreViewsOf ys back

pub halves : (xs ys : List (List ℕ)) (vs : List View) → bytes_in vs ≡ xs ++ ys → AllByRecursion IsView vs
    → Halves xs ys vs
halves xs ys vs e each =
    let n = length xs in
    record {
      prefix = take n vs;
      back = drop n vs;
      parts = sym (take-append-drop n vs);
      first = record {
        bytes = sym (take-map (λ (v : View). v.bytes) n vs) ∙ ap (λ (bs : List (List ℕ)). take n bs) e
            ∙ take_at xs ys n refl;
        each = All-take IsView n vs each;
      };
      second = record {
        bytes = sym (drop-map (λ (v : View). v.bytes) n vs) ∙ ap (λ (bs : List (List ℕ)). drop n bs) e
            ∙ drop_at xs ys n refl;
        each = All-drop IsView n vs each;
      };
    }

-- the records of a packed series are of its channel
of_channel : (p : Packed) (vs : List View) → ReadsAs p.series p.records → AreViewsOf p.records vs
    → AllByRecursion (λ (v : View). IsTrue (is_of_channel p.series.codes v)) vs
of_channel p vs reads are =
    rw (reads.only vs are) reads.channel

-- none of those of others is of another channel
pub others_gone : (key : List ℕ) (packed : List Packed) (vs : List View)
    → AllByRecursion (λ (p : Packed). ReadsAs p.series p.records) packed
    → AllByRecursion (λ (q : Packed). q.series.codes ≢ key) packed → AreViewsOf (records_of_all packed) vs
    → filter (is_of_channel key) vs ≡ []
others_gone key [] [] reads apart are = refl
others_gone key [] (v ∷ vs) reads apart are = let e = are.bytes in cc
others_gone key (p ∷ ps) vs reads apart are =
    let cut = halves p.records (records_of_all ps) vs are.bytes are.each in
    let first = none_kept p.series.codes key cut.prefix apart.0 (of_channel p cut.prefix reads.0 cut.first) in
    let second = others_gone key ps cut.back reads.1 apart.1 cut.second in
    rw (cut.parts, filter-append, first, second)

-- records of another channel before them change nothing
behind : (key : List ℕ) (prefix vs : List View) (packed : List Packed)
    → AllByRecursion (λ (v : View). IsTrue (is_of_channel key v)) prefix
    → AllByRecursion (λ (q : Packed). q.series.codes ≢ key) packed → AllByRecursion (StandsIn vs) packed
    → AllByRecursion (StandsIn (prefix ++ vs)) packed
behind key prefix vs [] of_key apart h = tt
behind key prefix vs (q ∷ qs) of_key apart h =
    let other = q.series.codes in
    let none = none_kept key other prefix (λ e. apart.0 (sym e)) of_key in
    let same = views_are other (prefix ++ vs) ∙ rw (filter-append, none) (sym (views_are other vs)) in
    (rw same h.0, behind key prefix vs qs of_key apart.1 h.1)

pub archived : (packed : List Packed) (vs : List View)
    → AllByRecursion (λ (p : Packed). ReadsAs p.series p.records) packed → AreApart packed
    → AreViewsOf (records_of_all packed) vs → AllByRecursion (StandsIn vs) packed
archived [] vs reads apart are = tt
archived (p ∷ ps) vs reads apart are =
    let key = p.series.codes in
    let cut = halves p.records (records_of_all ps) vs are.bytes are.each in
    let of_key = of_channel p cut.prefix reads.0 cut.first in
    let kept = all_kept key cut.prefix of_key in
    let others = others_gone key ps cut.back reads.1 apart.0 cut.second in
    let own : views_in (records_of key (added_from 0 vs)) ≡ cut.prefix =
    views_are key vs ∙ ap (λ (us : List View). filter (is_of_channel key) us) cut.parts
    ∙ rw (filter-append, kept, others, append-nil) in
    let rest = behind key cut.prefix cut.back ps of_key apart.0 (archived ps cut.back reads.1 apart.1 cut.second) in
    (rw own cut.first, rw (← cut.parts) at rest)
