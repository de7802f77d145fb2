-- The findings of two archives, and those of the borders of their parts, are those of the archives one after another.
use Rattle.std.proofs.Common.{◌≡◌, ℕ, zero, suc, ◌≤◌, List, [], ◌∷◌, ◌++◌, length, not, Bool, true, false}
use Rattle.std.proofs.Common.{cond, Option, Some, None, refl, sym, ap, ◌∙◌, subst, append_assoc, append-nil, arith}
use Rattle.std.proofs.Common.{IsPermutation}
use Rattle.std.specs.List.{filter}
use Rattle.std.specs.Map.{keys_of}
use Rattle.std.specs.Ordering.{nat_cmp}
use Rattle.std.specs.Cmp.Lexicographic.{slice_cmp}
use Rattle.std.specs.Option.{option_map}
use Rattle.std.proofs.lemmas.List.{map-append}
use Rattle.std.proofs.lemmas.List.Elements.{filter-append}
use Rattle.std.proofs.lemmas.List.Filters.{length-filter_both}
use Rattle.std.proofs.lemmas.List.Sorted.{IsPermutation-append, IsPermutation-append_comm, IsPermutation-append_right}
use Rattle.std.proofs.lemmas.List.Sorted.{IsPermutation-filter_both, IsPermutation-sym}
use Rattle.std.proofs.lemmas.List.Sorted.{IsPermutation-trans, length_permutation}
use Rattle.std.proofs.lemmas.Map.Entries.{lookup_head, lookup_tail}
use Rattle.std.proofs.lemmas.Map.Keys.{sorted_tail}
use Rattle.mseed_record.specs.View.{View}
use Rattle.mseed_audit.specs.declared.channel.Channel.{Channel}
use Rattle.mseed_audit.specs.declared.channel.Head.{Head}
use Rattle.mseed_audit.specs.declared.finding.Finding.{Finding}
use Rattle.mseed_audit.specs.Channels.{added_from, same_key}
use Rattle.mseed_audit.specs.Reported.{Reported, AreReportedOf}
use Rattle.mseed_audit.proofs.Maps.{same_back, same_is, same_itself}
use Rattle.mseed_join.specs.PartBorders.{border_at, border_with, borders_with}
use Rattle.mseed_join.specs.Joining.{moved_channel}
use Rattle.mseed_join.specs.Notices.{AreMerged, HaveBytes, Notice, border_notices, moved_notices}
use Rattle.mseed_join.specs.Notices.{notices_of}
use Rattle.mseed_join.specs.Parts.{Held, IsAscending, IsPartOf, kept_of}
use Rattle.mseed_join.proofs.Adding.{Entries}
use Rattle.mseed_join.proofs.Following.{HaveOneFinding}
use Rattle.mseed_join.proofs.Noticing.{border_in, border_is_in, reported_at_key, with_key}
use Rattle.mseed_join.proofs.Turns.{past_head}
use Rattle.mseed_join.proofs.Rising.{reported_rise}

-- ---- the borders of one channel among all
abbrev no_notices : List Notice
no_notices = []

nothing_by : (b : Bool) → cond b no_notices no_notices ≡ no_notices
nothing_by b = grind arith

of_key : (key other : List ℕ) (h : Option Head) (found : Option Finding)
    → with_key key (border_notices (border_at other h found))
    ≡ cond (same_key key other) (border_notices (border_at other h found)) []
of_key key other h found = grind (arith, nothing_by)

of_entry : (key : List ℕ) (a : Held) (x : List ℕ × Channel)
    → with_key key (border_notices (border_with a x))
    ≡ cond (same_key key x.0) (border_notices (border_with a x)) no_notices
of_entry key a x = search (arith, of_key)

-- of the first, or of the others
parted : (key : List ℕ) (a : Held) (x : List ℕ × Channel) (es : Entries) (b : Bool) → same_key key x.0 ≡ b
    → with_key key (border_notices (borders_with a (x ∷ es)))
    ≡ cond b (border_notices (border_with a x)) no_notices ++ with_key key (border_notices (borders_with a es))
parted key a x es b e = search (arith, map-append, filter-append, of_entry)

not_some : (c : Channel) → Some c ≡ None → ⊥
not_some c e = cc (e)

-- of a channel that isn't there
none_with : (key : List ℕ) (a : Held) (es : Entries) → kept_of key es ≡ None
    → with_key key (border_notices (borders_with a es)) ≡ no_notices
none_with key a [] e = refl
none_with key a (x ∷ es) e = by (same_key key x.0) refl (λ gone. none_with key a es gone)
  where
    by : (b : Bool) → same_key key x.0 ≡ b
        → (kept_of key es ≡ None → with_key key (border_notices (borders_with a es)) ≡ no_notices)
        → with_key key (border_notices (borders_with a (x ∷ es))) ≡ no_notices
    by true same later = absurd (not_some x.1 (sym (lookup_head (same_key key) x es same) ∙ e))
    by false same later = search (arith, parted, lookup_tail)

-- of one that is there, or isn't
borders_by_key : (key : List ℕ) (a : Held) (es : Entries) → IsAscending es
    → with_key key (border_notices (borders_with a es))
    ≡ border_in key (kept_of key a.channels) (option_map (moved_channel a.records a.bytes) (kept_of key es))
borders_by_key key a [] s = refl
borders_by_key key a (x ∷ es) s =
    by (same_key key x.0) refl
    (borders_by_key key a es (sorted_tail (slice_cmp nat_cmp) x.0 (keys_of es) s))
  where
    by : (b : Bool) → same_key key x.0 ≡ b
        → with_key key (border_notices (borders_with a es))
        ≡ border_in key (kept_of key a.channels) (option_map (moved_channel a.records a.bytes) (kept_of key es))
        → with_key key (border_notices (borders_with a (x ∷ es)))
        ≡ border_in key (kept_of key a.channels) (option_map (moved_channel a.records a.bytes) (kept_of key (x ∷ es)))
    by true same later =
        parted key a x es true same
        ∙ ap (λ (ns : List Notice). border_notices (border_with a x) ++ ns)
        (none_with key a es (past_head key x es s same))
        ∙ append-nil (border_notices (border_with a x))
        ∙ ap (λ (k : List ℕ). border_notices (border_with a (k, x.1))) (sym (same_is key x.0 same))
        ∙ sym (border_is_in key a (kept_of key (x ∷ es)) x.1 (lookup_head (same_key key) x es same))
    by false same later = search (arith, parted, lookup_tail)

-- ---- lists that are alike by each key are alike
abbrev without_key : List ℕ → List Notice → List Notice
without_key key ns = filter (λ n. not (same_key key n.key)) ns

-- of those without a key, those with one
with_without : (k j : List ℕ) (b : Bool) → same_key k j ≡ b → (ns : List Notice)
    → with_key j (without_key k ns) ≡ cond b [] (with_key j ns)
with_without k j b e [] = sym (nothing_by b)
with_without k j b e (n ∷ ns) =
    search (arith, same_is, same_back, with_without k j b e ns)

-- the first is left out
fewer : (n : Notice) (ns : List Notice) → length (without_key n.key (n ∷ ns)) ≤ length ns
fewer n ns =
    let gone = ap (λ (b : Bool). cond (not b) (n ∷ without_key n.key ns) (without_key n.key ns)) (same_itself n.key) in
    let both = length-filter_both (λ m. same_key n.key m.key) (λ m. not (same_key n.key m.key)) (λ m. refl) ns in
    omega (arith, both, ap (λ (ms : List Notice). length ms) gone)

abbrev AreAlike : List Notice → List Notice → Type 0
AreAlike ns ms = (key : List ℕ) → IsPermutation (with_key key ns) (with_key key ms)

without_alike : (k : List ℕ) (ns ms : List Notice) → AreAlike ns ms → AreAlike (without_key k ns) (without_key k ms)
without_alike k ns ms alike j = search (arith, with_without)

none_alike : (ms : List Notice) → AreAlike [] ms → ms ≡ []
none_alike [] alike = refl
none_alike (m ∷ ms) alike =
    let same : length (with_key m.key (m ∷ ms)) ≡ 0 = length_permutation [] (with_key m.key (m ∷ ms)) (alike m.key) in
    let some = ap (λ (b : Bool). cond b (m ∷ with_key m.key ms) (with_key m.key ms)) (same_itself m.key) in
    absurd (omega (arith, same, ap (λ (xs : List Notice). length xs) some))

alike_within : (most : ℕ) (ns ms : List Notice) → length ns ≤ most → AreAlike ns ms → IsPermutation ns ms
alike_within most [] ms le alike = search (arith, none_alike)
alike_within zero (n ∷ ns) ms le alike = absurd (omega (arith, le))
alike_within (suc most) (n ∷ ns) ms le alike =
    let k : List ℕ = n.key in
    let all : List Notice = n ∷ ns in
    let parts : (xs : List Notice) → IsPermutation xs (with_key k xs ++ without_key k xs) =
    λ xs. IsPermutation-filter_both (λ m. same_key k m.key) (λ m. not (same_key k m.key)) (λ m. refl) xs in
    let rest = alike_within most (without_key k all) (without_key k ms) (omega (arith, le, fewer n ns))
    (without_alike k all ms alike) in
    IsPermutation-trans all (with_key k all ++ without_key k all) ms (parts all)
    (IsPermutation-trans (with_key k all ++ without_key k all) (with_key k ms ++ without_key k ms) ms
    (IsPermutation-append (with_key k all) (with_key k ms) (without_key k all) (without_key k ms) (alike k) rest)
    (IsPermutation-sym ms (with_key k ms ++ without_key k ms) (parts ms)))

-- ---- the findings of two archives one after another
pub findings_merge : HaveOneFinding → (a b : Held) (xs ys : List View) (first second whole : List Reported)
    → IsPartOf a xs → IsPartOf b ys → HaveBytes (xs ++ ys) → AreReportedOf (added_from 0 xs) first
    → AreReportedOf (added_from 0 ys) second → AreReportedOf (added_from 0 (xs ++ ys)) whole
    → AreMerged (notices_of first ++ moved_notices a.records a.bytes (notices_of second))
    (border_notices (borders_with a b.channels)) (notices_of whole)
findings_merge only a b xs ys first second whole p q some alone other all =
    let ones : List Notice = notices_of first in
    let twos : List Notice = moved_notices a.records a.bytes (notices_of second) in
    let between : List Notice = border_notices (borders_with a b.channels) in
    let by_key : (key : List ℕ)
    → IsPermutation (with_key key ((ones ++ twos) ++ between)) (with_key key (notices_of whole)) = λ key.
    let here : List Notice = with_key key ones in
    let there : List Notice = with_key key twos in
    let border : List Notice = with_key key between in
    let split = filter-append (λ n. same_key key n.key) (ones ++ twos) between
    ∙ ap (λ (ns : List Notice). ns ++ border) (filter-append (λ n. same_key key n.key) ones twos)
    ∙ append_assoc here there border in
    let is = sym (reported_at_key only key a b xs ys first second whole p q alone other all
    ∙ ap (λ (ns : List Notice). here ++ (ns ++ there)) (sym (borders_by_key key a b.channels q.ascending))) in
    subst (λ (ns : List Notice). IsPermutation ns (with_key key (notices_of whole))) (sym split)
    (subst (λ (ns : List Notice). IsPermutation (here ++ (there ++ border)) ns) is
    (IsPermutation-append_right here (there ++ border) (border ++ there)
    (IsPermutation-append_comm there border))) in
    record {
      members = alike_within (length ((ones ++ twos) ++ between)) ((ones ++ twos) ++ between) (notices_of whole)
          (omega arith) by_key;
      rise = reported_rise (xs ++ ys) whole some all;
    }
