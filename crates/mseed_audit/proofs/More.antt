-- One more record of an archive.
use Rattle.std.proofs.Common.{◌≡◌, ℕ, ◌+◌, List, [], ◌∷◌, ◌++◌, length, Bool, true, false, if◌then◌else◌}
use Rattle.std.proofs.Common.{cond, ap, refl, append-nil, ◌∙◌, arith, Option, Result, Ok, Err, OnOk}
use Rattle.std.proofs.lemmas.List.{length-append}
use Rattle.std.proofs.lemmas.List.Elements.{filter-append}
use Rattle.mseed_record.specs.Header.{key_at}
use Rattle.mseed_record.specs.View.{View}
use Rattle.mseed_audit.specs.declared.audits.Memory.{Memory}
use Rattle.mseed_audit.specs.declared.finding.Why.{Why}
use Rattle.mseed_audit.specs.Audit.{Held, IsAuditOf}
use Rattle.mseed_audit.specs.Channels.{Added, Placed, channel_in, is_of_channel, numbered, with_record}
use Rattle.mseed_audit.specs.private.ChannelState.{AddsTo}
use Rattle.mseed_audit.specs.private.Gathered.{IsAdded}

abbrev pub placed_at : Added → ℕ → Placed
placed_at a n = record { view = a.view; offset = a.offset; number = n }

-- a record that comes next, with its number among all
abbrev pub placed_next : Held → View → ℕ → Placed
placed_next held view offset = record { view = view; offset = offset; number = held.added + 1 }

pub numbered_more : (n : ℕ) (added : List Added) (a : Added)
    → numbered n (added ++ a ∷ []) ≡ numbered n added ++ placed_at a (n + length added) ∷ []
numbered_more n [] a = ap (λ (k : ℕ). placed_at a k ∷ []) (omega arith)
numbered_more n (b ∷ rest) a = ap (λ (ps : List Placed). placed_at b n ∷ ps)
    (numbered_more (n + 1) rest a ∙ ap (λ (k : ℕ). numbered (n + 1) rest ++ placed_at a k ∷ []) (omega arith))

pub filter_by : {X : Type 0} (b : Bool) (xs : List X) (x : X)
    → xs ++ cond b (x ∷ []) [] ≡ (if b then xs ++ x ∷ [] else xs)
filter_by true xs x = refl
filter_by false xs x = append-nil xs

pub filter_more : (key : List ℕ) (ps : List Placed) (p : Placed)
    → channel_in key (ps ++ p ∷ []) ≡ with_record key (channel_in key ps) p
filter_more key ps p = filter-append (λ q. is_of_channel key q.view) ps (p ∷ [])
    ∙ filter_by (is_of_channel key p.view) (channel_in key ps) p

-- an audit that takes a record in
pub audit_more : (old new : Held) (v : View) (offset : ℕ) (why : Option Why)
    → AddsTo old.channels new.channels (placed_next old v offset) why → new.added ≡ old.added + 1
    → IsAdded (Ok why) v offset old new
audit_more old new v offset why adds number = record {
  among = λ ps count is. record {
    number = omega (arith, number, is.number);
    each = λ key. rw (filter_more key ps (placed_next old v offset))
        (adds.stands key (channel_in key ps) (is.each key));
  };
  found = λ ps count is. adds.found (channel_in (key_at v.bytes) ps) (is.each (key_at v.bytes));
  number = number;
  unchanged = tt;
  memory = λ there. refl;
}

-- an audit of all records takes one more in
pub audit_all : (r : Result (Option Why) Memory) (v : View) (offset : ℕ) (old new : Held) → IsAdded r v offset old new
    → (added : List Added) → IsAuditOf old added
    → OnOk r (IsAuditOf new (added ++ record { view = v; offset = offset } ∷ []))
audit_all (Ok why) v offset old new is added audit =
    let a : Added = record { view = v; offset = offset } in
    let number : 1 + length added ≡ old.added + 1 = omega (arith, audit.number) in
    let size : length (added ++ a ∷ []) ≡ length added + 1 = length-append added (a ∷ []) in
    rw (numbered_more 1 added a, number, size) (is.among (numbered 1 added) (length added) audit)
audit_all (Err e) v offset old new is added audit = tt
