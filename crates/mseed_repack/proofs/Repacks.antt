-- Channels of an archive, as they are packed one by one.
use Rattle.std.proofs.Common.{arith}
use Rattle.std.proofs.Common.{◌≡◌, ℕ, suc, ◌+◌, ◌<◌, ◌↔◌, Bool, true, ◌++◌, List, [], ◌∷◌, length, take, drop, map}
use Rattle.std.proofs.Common.{get_or, refl, sym, ap, ◌∙◌, append_assoc, false, IsTrue, Some, All}
use Rattle.std.specs.Map.{lookup, keys_of}
use Rattle.std.specs.Ordering.{nat_cmp}
use Rattle.std.specs.Cmp.Lexicographic.{slice_cmp}
use Rattle.std.specs.List.Sorted.{IsStrictlySortedBy}
use Rattle.std.proofs.Math.Seq.{take-suc}
use Rattle.std.proofs.lemmas.List.{take-append-drop}
use Rattle.std.proofs.lemmas.Bool.{false≢true}
use Rattle.std.proofs.lemmas.List.Elements.{All-more, Contains-get_or}
use Rattle.std.proofs.lemmas.Map.Keys.{IsDistinct-from_sorted}
use Rattle.std.proofs.lemmas.Map.Views.{lookup-from_Contains}
use Rattle.mseed_repack.proofs.Runs.{passed_with}
use Rattle.mseed_record.specs.View.{View}
use Rattle.mseed_record.specs.Viewing.{view_of}
use Rattle.mseed_record.specs.declared.view.RecordView.{RecordView}
use Rattle.mseed_steim.specs.Reading.{count_of}
use Rattle.mseed_audit.specs.Channels.{Added, Placed, added_from, records_of, same_key, sample_count, views_in}
use Rattle.mseed_audit.specs.Follows.{IsContinuous}
use Rattle.mseed_audit.specs.Verdict.{AreVerdicts, IsVerdict, says_continuous}
use Rattle.mseed_audit.specs.declared.finding.Finding.{Finding}
use Rattle.mseed_audit.specs.declared.verdict.Verdict.{Verdict}
use Rattle.mseed_audit.specs.declared.verdict.Verdict.TheVariants.{Continuous, Broken}
use Rattle.mseed_audit.specs.Audit.{Held, IsAuditOf}
use Rattle.mseed_audit.proofs.Following.{added_after, end_of, views_are}
use Rattle.mseed_audit.proofs.Maps.{keys_alike}
use Rattle.mseed_repack.specs.Repack.{AreContinuous, Channel, IsFirst, IsFirstFinding, records_in}
use Rattle.mseed_repack.specs.private.Archives.{SaysCount}
use Rattle.mseed_repack.specs.private.Reading.{channel_in, samples_of}

-- what is looked up by a channel's key is the verdict on it
found : (cs : List Channel) (i : ℕ) (c : Channel) → IsStrictlySortedBy (slice_cmp nat_cmp) (keys_of cs) → i < length cs
    → c ≡ get_or cs i c → lookup (same_key c.0) cs ≡ Some c.1
found cs i c sorted lt is = lookup-from_Contains keys_alike c.0 c.1 cs (IsDistinct-from_sorted (slice_cmp nat_cmp)
    (keys_of cs) sorted) (rw (sym is) at (Contains-get_or cs i c lt))

-- a list about one of its members
pub cut_at : (cs : List Channel) (i : ℕ) (d : Channel) → i < length cs
    → cs ≡ take i cs ++ get_or cs i d ∷ drop (suc i) cs
cut_at cs i d lt = sym (take-append-drop (suc i) cs)
    ∙ ap (λ (xs : List Channel). xs ++ drop (suc i) cs) (take-suc cs i d lt)
    ∙ append_assoc (take i cs) (get_or cs i d ∷ []) (drop (suc i) cs)

pub first_at : (Before At : List ℕ → Type 0) (cs : List Channel) (i : ℕ) (d : Channel) → i < length cs
    → All (λ (c : Channel). Before c.0) (take i cs) → At (get_or cs i d).0 → IsFirst Before At (get_or cs i d).0 cs
first_at Before At cs i d lt before is = record {
  prefix = take i cs;
  verdict = (get_or cs i d).1;
  back = drop (suc i) cs;
  parts = cut_at cs i d lt;
  before = before;
  is_it = is;
}

-- an audit of the records that a loop has passed takes in the next one
pub audit_next : (rs : List RecordView) (n : ℕ) (r : RecordView) (offset : ℕ) (old new : Held) → n < length rs
    → r ≡ get_or rs n r → offset ≡ end_of 0 (map view_of (take n rs))
    → IsAuditOf old (added_from 0 (map view_of (take n rs)))
    → ((added : List Added) → IsAuditOf old added
    → IsAuditOf new (added ++ record { view = view_of r; offset = offset } ∷ []))
    → IsAuditOf new (added_from 0 (map view_of (take (n + 1) rs)))
audit_next rs n r offset old new lt is at before step =
    rw (passed_with rs n r lt is, added_after 0 (map view_of (take n rs)) (view_of r), ← at) (step _ before)

-- and how many samples it has
counted : (verdict : Verdict) (ps : List Placed) (count : ℕ) → IsVerdict verdict ps → SaysCount count verdict
    → count ≡ samples_of (views_in ps)
counted (Continuous start rate records samples) ps count is says =
    says ∙ is.1.1.1.samples_is ∙ ap sample_count (sym is.1.1.0) ∙ all ps
  where
    all : (qs : List Placed) → sample_count qs ≡ samples_of (views_in qs)
    all [] = refl
    all (q ∷ qs) = ap (λ (n : ℕ). count_of q.view + n) (all qs)
counted (Broken first findings) ps count is says = absurd says

-- the verdict on a channel is one on its records
verdict_said : (views : List View) (cs : List Channel) (i : ℕ) (c : Channel) → AreVerdicts (added_from 0 views) cs
    → i < length cs → c ≡ get_or cs i c → IsVerdict c.1 (records_of c.0 (added_from 0 views))
verdict_said views cs i c are lt is = rw (found cs i c are.ascending lt is) at (are.each c.0)

-- and has the first finding of a channel that is broken
pub first_said : (views : List View) (cs : List Channel) (i : ℕ) (c : Channel) (first : Finding) (count : ℕ)
    → AreVerdicts (added_from 0 views) cs → i < length cs → c ≡ get_or cs i c → c.1 ≡ Broken first count
    → IsFirstFinding (records_of c.0 (added_from 0 views)) first
first_said views cs i c first count are lt is e =
    let broken = rw e at (verdict_said views cs i c are lt is) in
    (broken.0, broken.1.0)

pub count_said : (views : List View) (cs : List Channel) (i : ℕ) (c : Channel) (count : ℕ) (vs : List View)
    → AreVerdicts (added_from 0 views) cs → i < length cs → c ≡ get_or cs i c → SaysCount count c.1
    → vs ≡ channel_in c.0 views → count ≡ samples_of vs
count_said views cs i c count vs are lt is says of =
    counted c.1 (records_of c.0 (added_from 0 views)) count (verdict_said views cs i c are lt is) says
    ∙ ap samples_of (views_are c.0 views ∙ sym of)

-- what a verdict says of its channel
pub says_of : (views : List View) (cs : List Channel) (i : ℕ) (c : Channel) (b : Bool)
    → AreVerdicts (added_from 0 views) cs → i < length cs → c ≡ get_or cs i c → b ≡ says_continuous c.1
    → IsTrue b ↔ IsContinuous (records_in views (get_or cs i c).0)
says_of views cs i c b are lt is of = rw (of, ← is) (rw (found cs i c are.ascending lt is) at (are.exact c.0))

pub continuous_next : (views : List View) (cs : List Channel) (i : ℕ) (c : Channel) (b : Bool)
    → AreVerdicts (added_from 0 views) cs → i < length cs → c ≡ get_or cs i c → b ≡ says_continuous c.1
    → b ≡ true → AreContinuous views (take i cs) → AreContinuous views (take (i + 1) cs)
continuous_next views cs i c b are lt is of e before =
    All-more (λ (d : Channel). IsContinuous (records_in views d.0)) cs i c lt before
    ((says_of views cs i c b are lt is of).0 e)

pub broken_at : (views : List View) (cs : List Channel) (i : ℕ) (c : Channel) (b : Bool)
    → AreVerdicts (added_from 0 views) cs → i < length cs → c ≡ get_or cs i c → b ≡ says_continuous c.1
    → b ≡ false → AreContinuous views (take i cs)
    → IsFirst (λ k. IsContinuous (records_in views k)) (λ k. ¬ (IsContinuous (records_in views k))) c.0 cs
broken_at views cs i c b h h2 h3 h4 h5 h6 = grind (arith, false≢true, says_of, first_at)
