-- What a client reads, and what it goes on to stand for.
use Rattle.std.proofs.Common.{◌≡◌, ℕ, ◌<◌, ◌^◌, refl, sym, ap, subst, ◌∙◌, arith, List, [], ◌∷◌, ◌++◌}
use Rattle.std.proofs.Common.{append_assoc, append-nil, length, length-drop, take, drop, Some, None}
use Rattle.std.proofs.lemmas.List.{length-take-le, take_all}
use Rattle.slink_wire.specs.Packet.{IsPacket}
use Rattle.slink_feed.specs.declared.dialogue.Event.{Event}
use Rattle.slink_feed.specs.declared.dialogue.Stage.{Stage}
use Rattle.slink_feed.specs.declared.dialogue.Stage.TheVariants.{Station, Number, Packets}
use Rattle.slink_feed.specs.Cutting.{IsBegun, IsWhole, IsWholePacket, IsWholeReply, nothing}
use Rattle.slink_feed.specs.Dialogue.{Talk, Whole, read}
use Rattle.slink_feed.specs.Dialogue.{heard, read_at}
use Rattle.slink_feed.specs.Listening.{AreBrought, AwaitsReply, Brings, Brought, IsLinked, Listening, Reads, begun}
use Rattle.slink_feed.specs.Listening.{bytes_of, events_of, talk_after, event_if_any, whole}

-- a packet's number has six digits
pub short_packet : (packet record_bytes : List ℕ) (n : ℕ) → length packet ≡ 520 → IsPacket packet n record_bytes
    → n < 2 ^ 24
short_packet packet r n long is =
    let six : length (take 6 (drop 2 packet)) ≡ 6 =
    length-take-le 6 (drop 2 packet) (omega (arith, length-drop 2 packet, long)) in
    let small : n < 16 ^ 6 = subst (λ k. n < 16 ^ k) six is.1.0 in
    omega (arith, small)

pub same_packet : (bytes packet : List ℕ) → length bytes ≡ 520 → packet ≡ take 520 bytes → packet ≡ bytes
same_packet bytes packet long same = same ∙ take_all 520 bytes (omega (arith, long))

-- bytes are whole where a reply or a packet is awaited
pub reply_whole : (stage : Stage) (bytes : List ℕ) (w : Whole) → AwaitsReply stage → IsWholeReply bytes w
    → IsWhole stage bytes w
reply_whole (Station k) bytes w awaits is = is
reply_whole (Number k) bytes w awaits is = is
reply_whole stage bytes w awaits is = absurd awaits

-- what is read of bytes that are whole comes of them
pub whole_brings : (t d talk : Talk) (bytes kept : List ℕ) (w : Whole) (x e : Event) → IsWhole t.stage bytes w
    → read t w ≡ (talk, e) → d ≡ talk → x ≡ e → kept ≡ [] → Brings t bytes (record { talk = d; kept = kept }) x
whole_brings t d talk bytes kept w x e is h same_talk same_event none =
    rw (same_talk, same_event) (whole w is h none)

pub packet_brings : (t d talk : Talk) (bytes kept : List ℕ) (w : Whole) (x e : Event) → t.stage ≡ Packets
    → IsWholePacket bytes w → read_at Packets (heard w t) w ≡ (talk, e) → d ≡ talk → x ≡ e → kept ≡ []
    → Brings t bytes (record { talk = d; kept = kept }) x
packet_brings t d talk bytes kept w x e at is h same_talk same_event none =
    whole_brings t d talk bytes kept w x e (rw at is) (ap (λ (s : Stage). read_at s (heard w t) w) at ∙ h) same_talk
    same_event none

-- before the first byte of a whole
pub begun_none : (stage : Stage) → IsBegun stage []
begun_none (Station k) = (λ i cr lf. let bad : None ≡ Some 13 = cr in cc bad, omega arith)
begun_none (Number k) = (λ i cr lf. let bad : None ≡ Some 13 = cr in cc bad, omega arith)
begun_none Packets = nothing refl
begun_none stage = refl

-- as the client is seen
pub brings_seen : (talk : Talk) (kept all more : List ℕ) (now new : Listening) (e : Event)
    → ◌≡◌ {A = Listening} (record { talk = talk; kept = kept }) now → all ≡ kept ++ more → Brings talk all new e
    → Brings now.talk (now.kept ++ more) new e
brings_seen talk kept all more now new e seen is brings =
    subst (λ (l : Listening). Brings l.talk (l.kept ++ more) new e) seen (rw is at brings)

pub begun_after : (talk : Talk) (bytes : List ℕ) (new : Listening) (e : Event) → Brings talk bytes new e
    → IsBegun new.talk.stage new.kept
begun_after talk bytes new e (whole w is h none) = rw none (begun_none new.talk.stage)
begun_after talk bytes new e (begun is same quiet) = rw same is

-- what is begun reads as nothing yet
pub reads_none : (t : Talk) (kept : List ℕ) → IsBegun t.stage kept → Reads t kept [] (record { talk = t; kept = kept })
reads_none t kept is =
    record { brought = []; are_brought = tt; bytes = refl; events_are = refl; talk = refl; is_begun = is }

-- one whole before others
pub reads_after : (t u : Talk) (bytes stream : List ℕ) (w : Whole) (e : Event) (es : List Event) (now : Listening)
    → IsWhole t.stage bytes w → read t w ≡ (u, e) → Reads u stream es now
    → Reads t (bytes ++ stream) (event_if_any e ++ es) now
reads_after t u bytes stream w e es now is h reads = record {
  brought = record { bytes = bytes; whole = w } ∷ reads.brought;
  are_brought = (is, rw h reads.are_brought);
  bytes = ap (λ xs. bytes ++ xs) reads.bytes ∙ sym (append_assoc bytes (bytes_of reads.brought) now.kept);
  events_are = ap (λ xs. event_if_any e ++ xs) reads.events_are
      ∙ ap (λ (x : Talk × Event). event_if_any x.1 ++ events_of x.0 reads.brought) (sym h);
  talk = reads.talk ∙ ap (λ (x : Talk × Event). talk_after x.0 reads.brought) (sym h);
  is_begun = reads.is_begun;
}

-- what comes after wholes
reads_then : (t : Talk) (bs : List Brought) (bytes : List ℕ) (new : Listening) (e : Event) → AreBrought t bs
    → Brings (talk_after t bs) bytes new e → Reads t (bytes_of bs ++ bytes) (events_of t bs ++ event_if_any e) new
reads_then t [] bytes new e are (whole w is h none) =
    let all : bytes ++ new.kept ≡ bytes = ap (λ kept. bytes ++ kept) none ∙ append-nil bytes in
    rw (all, append-nil (event_if_any e)) at (reads_after t new.talk bytes new.kept w e [] new is h
    (reads_none new.talk new.kept (rw none (begun_none new.talk.stage))))
reads_then t [] bytes new e are (begun is same quiet) = rw (same, quiet) (reads_none t bytes is)
reads_then t (b ∷ bs) bytes new e are brings =
    let x : Talk × Event = read t b.whole in
    rw (append_assoc b.bytes (bytes_of bs) bytes, append_assoc (event_if_any x.1) (events_of x.0 bs) (event_if_any e))
    (reads_after t x.0 b.bytes _ b.whole x.1 _ new are.0 refl (reads_then x.0 bs bytes new e are.1 brings))

pub reads_more : (start : Talk) (stream more : List ℕ) (es : List Event) (now new : Listening) (e : Event)
    → Brings now.talk (now.kept ++ more) new e → Reads start stream es now
    → Reads start (stream ++ more) (es ++ event_if_any e) new
reads_more start stream more es now new e brings reads =
    rw (reads.bytes, reads.events_are, append_assoc (bytes_of reads.brought) now.kept more)
    (reads_then start reads.brought (now.kept ++ more) new e reads.are_brought (rw reads.talk at brings))

-- what it goes on to stand for by what bytes bring, while it is linked
pub reads_by : (now new : Listening) (e : Event) (bytes : List ℕ)
    → (IsLinked now.talk.stage → Brings now.talk (now.kept ++ bytes) new e) → (start : Talk) (stream : List ℕ)
    (es : List Event) → IsLinked now.talk.stage → Reads start stream es now
    → Reads start (stream ++ bytes) (es ++ event_if_any e) new
reads_by now new e bytes brings start stream es linked = reads_more start stream bytes es now new e (brings linked)
