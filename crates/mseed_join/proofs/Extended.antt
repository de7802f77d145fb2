-- A part to which channels of a further one were joined, and one more of them.
use Rattle.std.proofs.Common.{◌≡◌, ℕ, List, [], ◌∷◌, ◌++◌, Bool, true, false, cond, Option, Some, None, refl, sym}
use Rattle.std.proofs.Common.{ap, ◌∙◌, arith}
use Rattle.std.specs.List.{AllByRecursion}
use Rattle.std.specs.List.Sorted.{IsStrictlySortedBy}
use Rattle.std.specs.Map.{keys_of, lookup}
use Rattle.std.specs.Ordering.{nat_cmp, is_eq}
use Rattle.std.specs.Cmp.Lexicographic.{slice_cmp}
use Rattle.std.specs.declared.cmp.Ordering.TheVariants.{Less}
use Rattle.std.specs.Option.{option_map}
use Rattle.mseed_audit.specs.Channels.{same_key}
use Rattle.mseed_audit.proofs.Maps.{same_back, same_is, same_itself}
use Rattle.mseed_audit.proofs.Rosters.{kept_after, kept_before}
use Rattle.mseed_audit.specs.declared.channel.Channel.{Channel}
use Rattle.mseed_join.specs.Joining.{moved_channel, channel_joined}
use Rattle.mseed_join.specs.Parts.{Held, IsAscending, kept_of, IsJoint, one_channel, channels_alone, counts_alone}
use Rattle.mseed_join.specs.Parts.{FitsAt}
use Rattle.mseed_join.proofs.Adding.{Entries, joined_none}

-- ---- ascending keys
abbrev pub AllKeys : (List ℕ → Type 0) → Entries → Type 0
AllKeys P es = AllByRecursion P (keys_of es)

pub key_among : (P : List ℕ → Type 0) (cs : Entries) (e : List ℕ × Channel) (rest : Entries)
    → AllKeys P (cs ++ e ∷ rest) → P e.0
key_among P [] e rest h = h.0
key_among P (d ∷ cs) e rest h = key_among P cs e rest h.1

-- a key isn't among those before it
pub kept_none : (cs : Entries) (e : List ℕ × Channel) (rest : Entries) → IsAscending (cs ++ e ∷ rest)
    → kept_of e.0 cs ≡ None
unfolding IsStrictlySortedBy
kept_none [] e rest s = refl
kept_none (d ∷ cs) e rest s =
    let less : slice_cmp nat_cmp d.0 e.0 ≡ Less = key_among (λ y. slice_cmp nat_cmp d.0 y ≡ Less) cs e rest s.0 in
    let other : same_key e.0 d.0 ≡ false = same_back e.0 d.0 ∙ ap is_eq less in
    ap (λ (b : Bool). cond b (Some d.1) (kept_of e.0 cs)) other ∙ kept_none cs e rest s.1

-- ---- channels of a further part
-- they leave what is kept of another one, and the counts
pub record LeavesKept (key : List ℕ) (a h : Held) : Type 0 where
  pub records : h.records ≡ a.records
  pub bytes : h.bytes ≡ a.bytes
  pub kept : kept_of key h.channels ≡ kept_of key a.channels

-- a part and these channels are joined so; whether its own channels ascend is not said
pub record Joins (a : Held) (cs : Entries) (h : Held) : Type 0 where
  pub records : h.records ≡ a.records
  pub bytes : h.bytes ≡ a.bytes
  pub each : (key : List ℕ) → kept_of key h.channels
      ≡ channel_joined (kept_of key a.channels) (option_map (moved_channel a.records a.bytes) (kept_of key cs))

pub joins : (a : Held) (cs : Entries) (h : Held) → IsJoint a (channels_alone cs) h → Joins a cs h
joins a cs h joint =
    record { records = omega (arith, joint.records); bytes = omega (arith, joint.bytes); each = joint.each }

pub leaves_kept : (key : List ℕ) (cs : Entries) (a h : Held) → kept_of key cs ≡ None → Joins a cs h
    → LeavesKept key a h
leaves_kept key cs a h absent joint = search (arith, joined_none)

pub none_joined : (a : Held) → IsAscending a.channels → IsJoint a (channels_alone []) a
none_joined a s = search (arith, joined_none)

abbrev else_kept : Option Channel → Option Channel → Option Channel
else_kept (Some c) o = Some c
else_kept None o = o

else_none : (o : Option Channel) → else_kept o None ≡ o
else_none o = grind arith

lookup_append : (test : List ℕ → Bool) (es : Entries) (e : List ℕ × Channel)
    → lookup test (es ++ e ∷ []) ≡ else_kept (lookup test es) (cond (test e.0) (Some e.1) None)
lookup_append test [] e = refl
lookup_append test (d ∷ es) e = search (arith, lookup_append test es e)

module _ (a now next : Held) (es : Entries) (key : List ℕ) (c : Channel) (before : Joins a es now)
    (new : kept_of key es ≡ None) (joint : IsJoint now (one_channel key c) next) where
  each_by : (other : List ℕ) (b : Bool) → same_key other key ≡ b → channel_joined (kept_of other now.channels)
      (option_map (moved_channel now.records now.bytes) (cond b (Some c) None))
      ≡ channel_joined (kept_of other a.channels)
      (option_map (moved_channel a.records a.bytes) (else_kept (kept_of other es) (cond b (Some c) None)))
  each_by other true e =
      let none = ap (λ (k : List ℕ). kept_of k es) (same_is other key e) ∙ new in
      let left = leaves_kept other es a now none before in
      (λ i. channel_joined (left.kept i) (Some (moved_channel (left.records i) (left.bytes i) c)))
      ∙ ap (λ (o : Option Channel). channel_joined (kept_of other a.channels)
      (option_map (moved_channel a.records a.bytes) (else_kept o (Some c)))) (sym none)
  each_by other false e = search (arith, joined_none, else_none)

  pub joins_more : Joins a (es ++ (key, c) ∷ []) next
  joins_more = record {
    records = omega (arith, joint.records, before.records);
    bytes = omega (arith, joint.bytes, before.bytes);
    each = λ other.
        joint.each other
        ∙ each_by other (same_key other key) refl
        ∙ ap (λ (o : Option Channel). channel_joined (kept_of other a.channels)
        (option_map (moved_channel a.records a.bytes) o)) (sym (lookup_append (same_key other) es (key, c)));
  }

pub channel_more : (a now next : Held) (es : Entries) (key : List ℕ) (c : Channel)
    → IsJoint a (channels_alone es) now → kept_of key es ≡ None → IsJoint now (one_channel key c) next
    → IsJoint a (channels_alone (es ++ (key, c) ∷ [])) next
channel_more a now next es key c before new joint =
    let more = joins_more a now next es key c (joins a es now before) new joint in
    record {
      records = omega (arith, more.records);
      bytes = omega (arith, more.bytes);
      ascending = joint.ascending;
      each = more.each;
    }

-- ---- what fits
-- after the channels before it, as after the part alone
pub fits_here : (a now : Held) (es : Entries) (x : List ℕ × Channel) (rest : Entries) → kept_of x.0 es ≡ None
    → Joins a es now
    → FitsAt a.records a.bytes (kept_of x.0 a.channels) (kept_of x.0 (es ++ x ∷ rest))
    → FitsAt now.records now.bytes (kept_of x.0 now.channels) (Some x.1)
fits_here a now es x rest new before fit =
    search (arith, leaves_kept, kept_after, same_itself)

-- one more
pub fits_more : (a now : Held) (es : Entries) (x : List ℕ × Channel) → kept_of x.0 es ≡ None
    → Joins a es now → FitsAt now.records now.bytes (kept_of x.0 now.channels) (Some x.1)
    → ((key : List ℕ) → FitsAt a.records a.bytes (kept_of key a.channels) (kept_of key es))
    → (key : List ℕ) → FitsAt a.records a.bytes (kept_of key a.channels) (kept_of key (es ++ x ∷ []))
fits_more a now es x new before fit each key = by (same_key key x.0) refl
  where
    left : LeavesKept x.0 a now
    left = leaves_kept x.0 es a now new before

    by : (b : Bool) → same_key key x.0 ≡ b
        → FitsAt a.records a.bytes (kept_of key a.channels) (kept_of key (es ++ x ∷ []))
    by true e =
        rw (same_is key x.0 e, kept_after (same_key x.0) es x [] new (same_itself x.0))
        (rw (left.records, left.bytes, left.kept) at fit)
    by false e = rw (kept_before (same_key key) es x e) (each key)

-- the counts after all channels
pub counts_after : (a b now h : Held) → Joins a b.channels now → IsJoint now (counts_alone b.records b.bytes) h
    → IsJoint a b h
counts_after a b now h before j = record {
  records = omega (arith, j.records, before.records);
  bytes = omega (arith, j.bytes, before.bytes);
  ascending = j.ascending;
  each = λ key. j.each key ∙ joined_none (kept_of key now.channels) ∙ before.each key;
}

pub with_counts : (a b now h : Held) → IsJoint a (channels_alone b.channels) now
    → IsJoint now (counts_alone b.records b.bytes) h → IsJoint a b h
with_counts a b now h before j = counts_after a b now h (joins a b.channels now before) j
