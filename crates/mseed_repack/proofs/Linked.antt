-- The links of channels, laid from the last record on.
use Rattle.std.proofs.Common.{◌≡◌, ◌≢◌, ℕ, zero, suc, ◌+◌, ◌<◌, ◌≤◌, Bool, true, false, List, [], ◌∷◌, length}
use Rattle.std.proofs.Common.{if◌then◌else◌, drop, map, set, get_or, refl, sym, ap, subst, ◌∙◌, arith, ⊎_elim}
use Rattle.std.proofs.Common.{Ok, Err, All}
use Rattle.std.specs.List.{AllByRecursion}
use Rattle.std.specs.Map.{keys_of}
use Rattle.std.specs.Ordering.{nat_cmp, is_eq, ordering_index}
use Rattle.std.specs.Cmp.Lexicographic.{slice_cmp}
use Rattle.std.specs.List.Sorted.{IsStrictlySortedBy, IsNonDecreasingBy, IsBinarySearchResult}
use Rattle.std.specs.declared.cmp.Ordering.{Ordering}
use Rattle.std.specs.declared.cmp.Ordering.TheVariants.{Less}
use Rattle.std.proofs.lemmas.Bool.{cases_lt, false≢true, lt-ltb, cases_eq}
use Rattle.std.proofs.lemmas.Cmp.{nat_list_cmp_total}
use Rattle.std.proofs.lemmas.List.{drop_more, get_or_default, get_or-set_same, get_or-set_other}
use Rattle.mseed_record.specs.Header.{key_at}
use Rattle.mseed_record.specs.View.{View}
use Rattle.mseed_record.specs.Viewing.{view_of}
use Rattle.mseed_record.specs.declared.view.RecordView.{RecordView}
use Rattle.mseed_steim.specs.Reading.{count_of}
use Rattle.mseed_audit.specs.Channels.{is_of_channel, same_key}
use Rattle.mseed_audit.proofs.Maps.{same_back, same_is}
use Rattle.mseed_repack.specs.Repack.{Channel}
use Rattle.mseed_repack.specs.private.Reading.{channel_in}
use Rattle.mseed_repack.specs.private.Links.{AreNexts, AreLinks, AreLinksFrom, IsOfAt, IsLinkedFrom}

-- the channel at an index is below each after it
less_at : (key : List ℕ) (cs : List Channel) → AllByRecursion (λ k. slice_cmp nat_cmp key k ≡ Less) (keys_of cs)
    → (k : ℕ) (d : Channel) → k < length cs → slice_cmp nat_cmp key (get_or cs k d).0 ≡ Less
less_at key [] low k d lt = absurd (omega (arith, lt))
less_at key (c ∷ cs) low zero d lt = low.0
less_at key (c ∷ cs) low (suc k) d lt = less_at key cs low.1 k d (omega (arith, lt))

ascending_at : (cs : List Channel) → IsStrictlySortedBy (slice_cmp nat_cmp) (keys_of cs) → (j k : ℕ) (d : Channel)
    → j < k → k < length cs → slice_cmp nat_cmp (get_or cs j d).0 (get_or cs k d).0 ≡ Less
unfolding IsStrictlySortedBy
ascending_at [] sorted j k d less lt = absurd (omega (arith, lt))
ascending_at (c ∷ cs) sorted j zero d less lt = absurd (omega (arith, less))
ascending_at (c ∷ cs) sorted zero (suc k) d less lt = less_at c.0 cs sorted.0 k d (omega (arith, lt))
ascending_at (c ∷ cs) sorted (suc j) (suc k) d less lt =
    ascending_at cs sorted.1 j k d (omega (arith, less)) (omega (arith, lt))

-- so no two have one key
apart_at : (cs : List Channel) → IsStrictlySortedBy (slice_cmp nat_cmp) (keys_of cs) → (j k : ℕ) (d : Channel)
    → j < length cs → k < length cs → j ≢ k → same_key (get_or cs j d).0 (get_or cs k d).0 ≡ false
apart_at cs h j k d h2 h3 h4 = grind (arith, ascending_at, same_back, cases_lt)

most : (o : Ordering) → ordering_index o ≤ 2
most o = grind (arith)

rises : (x y z : List ℕ) (o : Ordering) → slice_cmp nat_cmp y z ≡ o → slice_cmp nat_cmp x y ≡ Less
    → ordering_index (slice_cmp nat_cmp x z) ≤ ordering_index (slice_cmp nat_cmp y z)
rises x y z o h h2 = grind (arith, nat_list_cmp_total, same_is, most)

all_rise : (cs : List Channel) (key : List ℕ) → IsStrictlySortedBy (slice_cmp nat_cmp) (keys_of cs)
    → IsNonDecreasingBy (λ (c : Channel). ordering_index (slice_cmp nat_cmp c.0 key)) cs
all_rise cs key h = grind (arith, rises, ascending_at, cases_lt)

-- what a search by the key finds
pub searched_some : (cs : List Channel) (key : List ℕ) (k : ℕ)
    → IsBinarySearchResult (λ (c : Channel). slice_cmp nat_cmp c.0 key) cs (Ok k) → (c : Channel)
    → same_key (get_or cs k c).0 key ≡ true
searched_some cs key k h = λ c. ap is_eq (h c)

pub searched_none : (cs : List Channel) (key : List ℕ) (k : ℕ) → IsStrictlySortedBy (slice_cmp nat_cmp) (keys_of cs)
    → IsBinarySearchResult (λ (c : Channel). slice_cmp nat_cmp c.0 key) cs (Err k)
    → All (λ (c : Channel). same_key c.0 key ≡ false) cs
searched_none cs key k h h2 = grind (arith, all_rise, cases_lt)

-- the records of a channel from an index on: the one there, where it is of the channel, and those after it
first_on : (key : List ℕ) (rs : List RecordView) (n : ℕ) (r : RecordView) (b : Bool) → n < length rs → r ≡ get_or rs n r
    → is_of_channel key (view_of r) ≡ b → channel_in key (map view_of (drop n rs))
    ≡ (if b then view_of r ∷ channel_in key (map view_of (drop (n + 1) rs)) else
    channel_in key (map view_of (drop (n + 1) rs)))
first_on key rs n r b h h2 h3 = grind (arith, drop_more)

-- the next record of a walk, and those that are left after it
pub next_on : (key : List ℕ) (rs : List RecordView) (n : ℕ) (nexts : List ℕ) (r : RecordView) → n < length rs
    → r ≡ get_or rs n r → IsOfAt key rs n → AreNexts key rs n nexts
    → channel_in key (map view_of (drop n rs))
    ≡ view_of (get_or rs n r) ∷ channel_in key (map view_of (drop (get_or nexts n 0) rs))
next_on key rs n nexts r lt is of nexts_are =
    let own = of r lt is in
    first_on key rs n r true lt is own
    ∙ ap (λ (vs : List View). view_of r ∷ vs) (nexts_are n r (omega arith) lt is own).none
    ∙ ap (λ (q : RecordView). view_of q ∷ channel_in key (map view_of (drop (get_or nexts n 0) rs))) is

pub nexts_after : (key : List ℕ) (rs : List RecordView) (from at : ℕ) (nexts : List ℕ) → from ≤ at
    → AreNexts key rs from nexts → AreNexts key rs at nexts
nexts_after key rs from at nexts le h = λ i r low lt is of. h i r (omega (arith, le, low)) lt is of

one_record : (rs : List RecordView) (n : ℕ) (q r : RecordView) → n < length rs → q ≡ get_or rs n q → r ≡ get_or rs n r
    → q ≡ r
one_record rs n q r lt a b = a ∙ get_or_default rs n q r lt ∙ sym b

-- another channel's walk isn't changed
pub trail_past : (key : List ℕ) (rs : List RecordView) (n first : ℕ) (nexts new : List ℕ) (r : RecordView)
    → n < length rs → r ≡ get_or rs n r → is_of_channel key (view_of r) ≡ false
    → ((i : ℕ) → n < i → get_or new i 0 ≡ get_or nexts i 0) → IsLinkedFrom (n + 1) key rs first nexts
    → IsLinkedFrom n key rs first new
trail_past key rs n first nexts new r lt is of kept h = record {
  first_is = record {
    order = let far = h.first_is.order in omega (arith, far);
    none = first_on key rs n r false lt is of ∙ h.first_is.none;
    of = h.first_is.of;
  };
  nexts_are = λ i q from less at there. ⊎_elim
      (λ (behind : n < i). rw (sym (kept i behind)) at (h.nexts_are i q (omega (arith, behind)) less at there))
      (λ (here : i ≤ n).
      let index : i ≡ n = omega (arith, from, here) in
      let at_n : q ≡ get_or rs n q = subst (λ (m : ℕ). q ≡ get_or rs m q) index at in
      let same : q ≡ r = one_record rs n q r lt at_n is in
      absurd (false≢true (sym of ∙ ap (λ (x : RecordView). is_of_channel key (view_of x)) (sym same) ∙ there)))
      (cases_lt n i);
}

-- the record's own channel is led to it, and from it to where it was led before
pub trail_here : (key : List ℕ) (rs : List RecordView) (n first : ℕ) (nexts new : List ℕ) (r : RecordView)
    → n < length rs → r ≡ get_or rs n r → is_of_channel key (view_of r) ≡ true → get_or new n 0 ≡ first
    → ((i : ℕ) → n < i → get_or new i 0 ≡ get_or nexts i 0) → IsLinkedFrom (n + 1) key rs first nexts
    → IsLinkedFrom n key rs n new
trail_here key rs n first nexts new r h h2 h3 h4 h5 h6 = grind (arith, one_record, cases_lt)

silent : (key : List ℕ) (r : RecordView) → count_of (view_of r) ≡ 0 → is_of_channel key (view_of r) ≡ false
silent key r none = rw none refl

foreign : (key : List ℕ) (r : RecordView) → same_key key (key_at (view_of r).bytes) ≡ false
    → is_of_channel key (view_of r) ≡ false
foreign key r h = grind (arith)

own_record : (key : List ℕ) (r : RecordView) → 0 < count_of (view_of r)
    → same_key key (key_at (view_of r).bytes) ≡ true → is_of_channel key (view_of r) ≡ true
own_record key r some same = rw (same, lt-ltb 0 (count_of (view_of r)) some) refl

-- a record without samples
pub links_silent : (rs : List RecordView) (cs : List Channel) (n : ℕ) (firsts nexts : List ℕ) (r : RecordView)
    → count_of (view_of r) ≡ 0 → n < length rs → r ≡ get_or rs n r → AreLinksFrom (n + 1) rs cs firsts nexts
    → AreLinksFrom n rs cs firsts nexts
links_silent rs cs n firsts nexts r none lt is h = λ k c less.
    trail_past _ _ _ _ _ _ _ lt is (silent (get_or cs k c).0 r none) (λ i _. refl) (h k c less)

-- or of no channel
pub links_foreign : (rs : List RecordView) (cs : List Channel) (n : ℕ) (firsts nexts : List ℕ) (r : RecordView)
    → All (λ (c : Channel). same_key c.0 (key_at (view_of r).bytes) ≡ false) cs → n < length rs → r ≡ get_or rs n r
    → AreLinksFrom (n + 1) rs cs firsts nexts → AreLinksFrom n rs cs firsts nexts
links_foreign rs cs n firsts nexts r none lt is h = λ k c less.
    trail_past _ _ _ _ _ _ _ lt is (foreign (get_or cs k c).0 r (none k c less)) (λ i _. refl) (h k c less)

-- or of the channel with this number
pub links_more : (rs : List RecordView) (cs : List Channel) (n number : ℕ) (firsts nexts : List ℕ) (r : RecordView)
    → IsStrictlySortedBy (slice_cmp nat_cmp) (keys_of cs) → number < length cs → length firsts ≡ length cs
    → n < length nexts → 0 < count_of (view_of r)
    → ((c : Channel) → same_key (get_or cs number c).0 (key_at (view_of r).bytes) ≡ true) → n < length rs
    → r ≡ get_or rs n r → AreLinksFrom (n + 1) rs cs firsts nexts
    → AreLinksFrom n rs cs (set firsts number n) (set nexts n (get_or firsts number 0))
links_more rs cs n number firsts nexts r sorted inside long room some found lt is h =
    λ k c less. ⊎_elim (own k c less) (other k c less) (cases_eq k number)
  where
    new : List ℕ
    new = set nexts n (get_or firsts number 0)

    kept : (i : ℕ) → n < i → get_or new i 0 ≡ get_or nexts i 0
    kept i behind = get_or-set_other nexts n i (get_or firsts number 0) 0 (λ e. omega (arith, behind, e))

    own : (k : ℕ) (c : Channel) → k < length cs → k ≡ number
        → IsLinkedFrom n (get_or cs k c).0 rs (get_or (set firsts number n) k 0) new
    own k c less e =
        let of : is_of_channel (get_or cs k c).0 (view_of r) ≡ true = own_record (get_or cs k c).0 r some
        (ap (λ (m : ℕ). same_key (get_or cs m c).0 (key_at (view_of r).bytes)) e ∙ found c) in
        let put : get_or (set firsts number n) k 0 ≡ n = ap (λ (m : ℕ). get_or (set firsts number n) m 0) e
        ∙ get_or-set_same firsts number n 0 (omega (arith, inside, long)) in
        rw put (trail_here _ _ _ _ _ _ _ lt is of (get_or-set_same nexts n (get_or firsts number 0) 0 room ∙ ap (λ (m :
        ℕ). get_or firsts m 0) (sym e)) kept (h k c less))

    other : (k : ℕ) (c : Channel) → k < length cs → k ≢ number
        → IsLinkedFrom n (get_or cs k c).0 rs (get_or (set firsts number n) k 0) new
    other k c less differ =
        let same : key_at (view_of r).bytes ≡ (get_or cs number c).0 =
        sym (same_is (get_or cs number c).0 (key_at (view_of r).bytes) (found c)) in
        let apart : same_key (get_or cs k c).0 (key_at (view_of r).bytes) ≡ false =
        ap (λ (x : List ℕ). same_key (get_or cs k c).0 x) same ∙ apart_at cs sorted k number c less inside differ in
        subst (λ (m : ℕ). IsLinkedFrom n (get_or cs k c).0 rs m new) (sym (get_or-set_other firsts number k n 0 differ))
        (trail_past (get_or cs k c).0 rs n (get_or firsts k 0) nexts new r lt is (foreign (get_or cs k c).0 r apart)
        kept (h k c less))

-- before any record is met
pub links_none : (rs : List RecordView) (cs : List Channel) (firsts nexts : List ℕ) (from : ℕ) → from ≡ length rs
    → length firsts ≡ length cs → All (λ first. first ≡ length rs) firsts → AreLinksFrom from rs cs firsts nexts
links_none rs cs firsts nexts from h h2 h3 = grind (arith)

-- the walk of the channel at an index
pub trail_at : (rs : List RecordView) (cs : List Channel) (firsts nexts : List ℕ) (k : ℕ) (c : Channel)
    → AreLinks rs cs firsts nexts → k < length cs → c ≡ get_or cs k c → IsLinkedFrom 0 c.0 rs (get_or firsts k 0) nexts
trail_at rs cs firsts nexts k c laid lt is = rw (sym is) at (laid k c lt)
