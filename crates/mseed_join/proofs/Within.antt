-- No number of what is joined passes the limit.
use Rattle.std.proofs.Common.{◌≡◌, ◌↔◌, ◌<◌, ◌+◌, ◌^◌, ℕ, List, Option, Some, None, Result, Ok, Err, refl, sym, subst}
use Rattle.std.proofs.Common.{arith}
use Rattle.std.specs.Prelude.{⊤, IfSome, OnOk, OnErr, IsOk}
use Rattle.std.specs.Option.{option_map}
use Rattle.std.proofs.lemmas.Map.Views.{IfSome-lookup_from_All}
use Rattle.mseed_audit.specs.declared.finding.Finding.{Finding}
use Rattle.mseed_audit.specs.Channels.{same_key}
use Rattle.mseed_audit.specs.declared.channel.Channel.{Channel}
use Rattle.mseed_audit.specs.declared.channel.Findings.{Findings}
use Rattle.mseed_audit.specs.declared.channel.Head.{Head}
use Rattle.mseed_audit.specs.declared.tail.Tail.{Tail}
use Rattle.mseed_join.specs.declared.part.PartFault.{PartFault}
use Rattle.mseed_join.specs.Joining.{moved_head, moved_findings, moved_channel, border_of}
use Rattle.mseed_join.specs.Joining.{findings_with, channel_then}
use Rattle.mseed_audit.specs.Audit.{head_in, tail_in}
use Rattle.mseed_join.specs.Parts.{HeadFits, FirstFits, Moves, CountFits, CountsFit, IsWithin, AreWithin, kept_of}
use Rattle.mseed_join.proofs.Adding.{Entries}
use Rattle.mseed_join.proofs.Following.{head_with}

-- what went up and didn't pass it
heads_fit : (d e : ℕ) (h : Option Head) → HeadFits d e h → HeadFits 0 0 (option_map (moved_head d e) h)
heads_fit d e head fits = grind arith

moved_fits : (d e : ℕ) (f : Findings) → HeadFits d e (head_in f) × FirstFits d e f
    → HeadFits 0 0 (head_in (moved_findings d e f)) × FirstFits 0 0 (moved_findings d e f)
moved_fits d e found fits = grind (arith, heads_fit)

abbrev BorderFits : Option Finding → Type 0
BorderFits None = ⊤
BorderFits (Some f) = (0 + f.number < 2 ^ 63) × (0 + f.offset < 2 ^ 63)

border_fits : (t : Option Tail) (h : Option Head) → HeadFits 0 0 h → BorderFits (border_of t h)
border_fits t h fits = grind arith

first_with : (a b : Findings) (border : Option Finding) → FirstFits 0 0 a → FirstFits 0 0 b → BorderFits border
    → FirstFits 0 0 (findings_with a b border)
first_with a b border fit fits found = grind arith

-- a channel with its further records after
then_within : (d e : ℕ) (c o : Channel) → IsWithin c → Moves d e o
    → CountsFit (channel_then c (moved_channel d e o)) → IsWithin (channel_then c (moved_channel d e o))
then_within d e c o w m f =
    let further : Findings = moved_findings d e o.findings in
    let border : Option Finding = border_of (tail_in c.findings) (head_in further) in
    let moves = moved_fits d e o.findings m in (
      f,
      (
        subst (λ (h : Option Head). HeadFits 0 0 h) (sym (head_with c.findings further border)) w.1.0,
        first_with c.findings further border w.1.1 moves.1
            (border_fits (tail_in c.findings) (head_in further) moves.0),
      ),
    )

within_there : (key : List ℕ) (es : Entries) (c : Channel) → Some c ≡ kept_of key es → AreWithin es → IsWithin c
within_there key es c is all =
    subst (λ (o : Option Channel). IfSome o (λ (x : Channel). IsWithin x)) (sym is)
    (IfSome-lookup_from_All (λ (x : Channel). IsWithin x) (same_key key) es all)

-- a channel that is there, with what is joined to it
pub after_within : (d e : ℕ) (key : List ℕ) (es : Entries) (c o m after : Channel)
    (r : Result (Option Finding) PartFault) → Some c ≡ kept_of key es → AreWithin es → Moves d e o
    → m ≡ moved_channel d e o → IsOk r ↔ CountsFit (channel_then c m) → OnOk r (after ≡ channel_then c m)
    → OnErr r (after ≡ c) → IsWithin after
after_within d e key es c o m after r there all moves is fits ok err = by r fits ok err
  where
    before : IsWithin c
    before = within_there key es c there all

    by : (s : Result (Option Finding) PartFault) → IsOk s ↔ CountsFit (channel_then c m)
        → OnOk s (after ≡ channel_then c m) → OnErr s (after ≡ c) → IsWithin after
    by (Ok found) f g h =
        subst (λ (x : Channel). IsWithin x) (sym g)
        (subst (λ (x : Channel). IsWithin (channel_then c x)) (sym is)
        (then_within d e c o before moves (subst (λ (x : Channel). CountsFit (channel_then c x)) is (f.0 refl))))
    by (Err fault) f g h = subst (λ (x : Channel). IsWithin x) (sym h) before

-- a new one
pub new_within : (d e : ℕ) (o m : Channel) → Moves d e o → m ≡ moved_channel d e o → CountsFit m → IsWithin m
new_within d e o m moves is counts =
    (counts, subst (λ (x : Channel). Moves 0 0 x) (sym is) (moved_fits d e o.findings moves))

count_before : (d e : ℕ) (f : Findings) → CountFits (moved_findings d e f) → CountFits f
count_before d e found fits = grind arith

-- what goes up keeps its counts
pub counts_before : (d e : ℕ) (o m : Channel) → m ≡ moved_channel d e o → CountsFit m → CountsFit o
counts_before d e o m is counts =
    let moved : CountsFit (moved_channel d e o) = subst (λ (x : Channel). CountsFit x) is counts in
    (moved.0, moved.1, count_before d e o.findings moved.2)
