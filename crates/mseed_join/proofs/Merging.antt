-- Two parts have a joint part.
use Rattle.std.proofs.Common.{◌≡◌, ℕ, ◌+◌, ◌++◌, List, [], ◌∷◌, Option, Some, None}
use Rattle.std.proofs.Common.{Ok, refl, sym, subst, append_assoc, append-nil, arith}
use Rattle.std.specs.BTreeMap.{insert_entry}
use Rattle.std.specs.Cmp.Lexicographic.{slice_cmp}
use Rattle.std.specs.Ordering.{nat_cmp}
use Rattle.mseed_audit.specs.declared.channel.Channel.{Channel}
use Rattle.mseed_audit.proofs.ByKey.{insert_ascends, kept_insert}
use Rattle.mseed_audit.proofs.Maps.{same_back}
use Rattle.mseed_join.specs.Joining.{channel_then, moved_channel}
use Rattle.mseed_join.specs.Parts.{Held, IsAscending, IsJoint, channels_alone, kept_of, one_channel}
use Rattle.mseed_join.proofs.Adding.{Entries, HasAt, held, joined_none, new_joined, there_joined}
use Rattle.mseed_join.proofs.Extended.{kept_none, channel_more, none_joined, with_counts}

-- with an entry in its place
has_put : (key : List ℕ) (x : Channel) (es : Entries) → HasAt es key x (insert_entry (slice_cmp nat_cmp) es key x)
has_put key x es other = search (arith, kept_insert, same_back)

-- ---- one channel more
record IsOneMore (now : Held) (key : List ℕ) (c : Channel) : Type 0 where
  next : Held
  joint : IsJoint now (one_channel key c) next

one_more : (now : Held) (key : List ℕ) (c : Channel) → IsAscending now.channels → IsOneMore now key c
one_more now key c s = by (kept_of key now.channels) refl
  where
    m : Channel
    m = moved_channel now.records now.bytes c

    with : Channel → Entries
    with x = insert_entry (slice_cmp nat_cmp) now.channels key x

    by : (o : Option Channel) → kept_of key now.channels ≡ o → IsOneMore now key c
    by None e = record {
      next = held (with m) now.records now.bytes;
      joint = new_joined now.channels now.channels (with m) now.records now.bytes now key c m refl refl e refl
          (has_put key m now.channels) (insert_ascends key m now.channels s);
    }
    by (Some k) e = record {
      next = held (with (channel_then k m)) now.records now.bytes;
      joint = there_joined now.channels now.records now.bytes now refl key c k m (sym e) refl (Ok None)
          (channel_then k m) (with (channel_then k m)) (has_put key (channel_then k m) now.channels)
          (insert_ascends key (channel_then k m) now.channels s) refl;
    }

-- ---- all channels

all_joined : (a now : Held) (done rest : Entries) → IsAscending (done ++ rest)
    → IsJoint a (channels_alone done) now → (h : Held) × IsJoint a (channels_alone (done ++ rest)) h
all_joined a now done [] s j = search (arith, append-nil)
all_joined a now done (x ∷ rest) s j =
    let more = one_more now x.0 x.1 j.ascending in
    let here = channel_more a now more.next done x.0 x.1 j (kept_none done x rest s) more.joint in
    let same : (done ++ x ∷ []) ++ rest ≡ done ++ x ∷ rest = append_assoc done (x ∷ []) rest in
    rw (← same) (all_joined a more.next (done ++ x ∷ []) rest (subst IsAscending (sym same) s) here)

pub joint_of : (a b : Held) → IsAscending a.channels → IsAscending b.channels
    → (h : Held) × IsJoint a b h
joint_of a b s t =
    let all = all_joined a a [] b.channels t (none_joined a s) in
    let now : Held = all.0 in
    let h : Held = held now.channels (now.records + b.records) (now.bytes + b.bytes) in (
      h,
      with_counts a b now h all.1 (record {
        records = refl;
        bytes = refl;
        ascending = all.1.ascending;
        each = λ key. sym (joined_none (kept_of key now.channels));
      }),
    )
