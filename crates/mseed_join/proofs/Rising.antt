-- What is reported of an archive stands there by its offsets, and merged lists are one.
use Rattle.std.proofs.Common.{◌≡◌, ℕ, ◌+◌, ◌≤◌, ◌<◌, List, [], ◌∷◌, ◌++◌, length, Option, refl}
use Rattle.std.proofs.Common.{subst, arith, ◌⊎◌, inl, inr, IsPermutation}
use Rattle.std.specs.List.{AllByRecursion}
use Rattle.std.proofs.ByRecursion.{All-weaker, all_shuffled}
use Rattle.std.proofs.lemmas.List.Sorted.{IsPermutation-sym, IsPermutation-trans}
use Rattle.mseed_record.specs.View.{View}
use Rattle.mseed_audit.specs.declared.finding.Why.{Why}
use Rattle.mseed_audit.specs.Channels.{Placed, added_from, numbered}
use Rattle.mseed_audit.specs.Reported.{Reported, AreReported, AreReportedOf, reported_at, none, one}
use Rattle.mseed_join.specs.Notices.{AreMerged, HaveBytes, Notice, RiseFrom, notices_of}
use Rattle.mseed_join.proofs.Placing.{placed_after}

rise_before : (least lower : ℕ) (ns : List Notice) → lower ≤ least → RiseFrom least ns → RiseFrom lower ns
rise_before least lower [] le rise = tt
rise_before least lower (n ∷ ns) le rise = (omega (arith, le, rise.0), rise.1)

rise_at : (offset next number : ℕ) (v : View) (why : Option Why) (reported : List Reported) → offset < next
    → RiseFrom next (notices_of reported)
    → RiseFrom offset (notices_of (reported_at (record { view = v; offset = offset; number = number }) why ++ reported))
rise_at offset next number v why reported h1 h2 = grind (arith, rise_before)

rise_from : (earlier : List Placed) (number offset : ℕ) (vs : List View) (reported : List Reported) → HaveBytes vs
    → AreReported earlier (numbered number (added_from offset vs)) reported → RiseFrom offset (notices_of reported)
rise_from earlier number offset [] reported some (none _) = tt
rise_from earlier number offset (v ∷ vs) reported some (one _ p _ why rest h later) =
    search (arith, rise_at, rise_from (earlier ++ p ∷ []) (number + 1) (offset + length v.bytes) vs rest some.1 later)

pub reported_rise : (views : List View) (reported : List Reported) → HaveBytes views
    → AreReportedOf (added_from 0 views) reported
    → RiseFrom 0 (notices_of reported)
reported_rise views reported some are = rise_from [] 1 0 views reported some are

-- ---- what is reported of the first records
reported_prefix : (earlier ps qs : List Placed) (all : List Reported) → AreReported earlier (ps ++ qs) all
    → (first : List Reported) × AreReported earlier ps first
reported_prefix earlier [] qs all are = ([], none earlier)
reported_prefix earlier (p ∷ ps) qs all (one _ _ _ why rest h later) =
    let more = reported_prefix (earlier ++ p ∷ []) ps qs rest later in
    (reported_at p why ++ more.0, one earlier p ps why more.0 h more.1)

pub reported_first : (xs ys : List View) (whole : List Reported) → AreReportedOf (added_from 0 (xs ++ ys)) whole
    → (first : List Reported) × AreReportedOf (added_from 0 xs) first
reported_first xs ys whole are = search (arith, reported_prefix, placed_after)

-- ---- two lists are merged in one way
abbrev IsIn : List Notice → Notice → Type 0
IsIn [] n = ⊥
IsIn (m ∷ ms) n = (m ≡ n) ⊎ IsIn ms n

in_more : (m : Notice) (ms ns : List Notice) → AllByRecursion (IsIn ms) ns → AllByRecursion (IsIn (m ∷ ms)) ns
in_more m ms ns all = All-weaker (IsIn ms) (IsIn (m ∷ ms)) (λ n is. inr is) ns all

in_itself : (ns : List Notice) → AllByRecursion (IsIn ns) ns
in_itself [] = tt
in_itself (n ∷ ns) = (inl refl, in_more n ns ns (in_itself ns))

in_other : (ns ms : List Notice) → IsPermutation ns ms → AllByRecursion (IsIn ns) ms
in_other ns ms is = all_shuffled (IsIn ns) ns ms is (in_itself ns)

-- no member stands before the first place
not_before : (least : ℕ) (ns : List Notice) (n : Notice) → RiseFrom least ns → IsIn ns n → least ≤ n.finding.offset
not_before least [] n rise is = absurd is
not_before least (m ∷ ms) n rise (inl same) = subst (λ (x : Notice). least ≤ x.finding.offset) same rise.0
not_before least (m ∷ ms) n rise (inr later) =
    search (arith, not_before (m.finding.offset + 1) ms n rise.1 later)

same_first : (least other : ℕ) (n m : Notice) (ns ms : List Notice) → RiseFrom least (n ∷ ns)
    → RiseFrom other (m ∷ ms) → IsIn (m ∷ ms) n → IsIn (n ∷ ns) m → n ≡ m
same_first least other n m ns ms h1 h2 h3 h4 = grind (arith, not_before)

-- after the first place no member is the first
others_in : (n : Notice) (ms ns : List Notice) (least : ℕ) → RiseFrom least ns → n.finding.offset < least
    → AllByRecursion (IsIn (n ∷ ms)) ns → AllByRecursion (IsIn ms) ns
others_in n ms [] least rise lt all = tt
others_in n ms (m ∷ ns) least rise lt all = (
  by all.0,
  others_in n ms ns (m.finding.offset + 1) rise.1 (let at = rise.0 in omega (arith, lt, at)) all.1,
)
  where
    by : IsIn (n ∷ ms) m → IsIn ms m
    by (inl e) = search arith
    by (inr is) = is

rising_one : (least : ℕ) (ns ms : List Notice) → RiseFrom least ns → RiseFrom least ms → AllByRecursion (IsIn ms) ns
    → AllByRecursion (IsIn ns) ms → ns ≡ ms
rising_one least [] [] rise up all are = refl
rising_one least [] (m ∷ ms) rise up all are = absurd are.0
rising_one least (n ∷ ns) [] rise up all are = absurd all.0
rising_one least (n ∷ ns) (m ∷ ms) rise up all are =
    let first : n ≡ m = same_first least least n m ns ms rise up all.0 are.0 in
    let rest : AllByRecursion (IsIn ms) ns = search (arith, others_in) in
    let back : AllByRecursion (IsIn ns) ms = search (arith, others_in) in
    let at : ℕ = m.finding.offset + 1 in
    let here : RiseFrom at ns = subst (λ (x : Notice). RiseFrom (x.finding.offset + 1) ns) first rise.1 in
    let more : ns ≡ ms = rising_one at ns ms here up.1 rest back in
    λ i. first i ∷ more i

pub merged_one : (ns ms a b : List Notice) → AreMerged ns ms a → AreMerged ns ms b → a ≡ b
merged_one ns ms a b is other =
    let there = IsPermutation-trans a (ns ++ ms) b (IsPermutation-sym (ns ++ ms) a is.members) other.members in
    rising_one 0 a b is.rise other.rise (in_other b a (IsPermutation-sym a b there)) (in_other a b there)
