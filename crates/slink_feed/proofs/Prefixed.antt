-- Of the packets of a link that is cut off, the whole ones are reported.
use Rattle.std.proofs.Common.{◌≡◌, ℕ, ◌+◌, ◌-◌, ◌/◌, ◌^◌, ◌<◌, ◌≤◌, inl, inr, suc, refl, ap, ◌∙◌, arith}
use Rattle.std.proofs.Common.{List, [], ◌∷◌, ◌++◌, length, length-append, take}
use Rattle.std.proofs.Common.{drop, take-append-drop, Option, Some, None, IfSome}
use Rattle.std.proofs.lemmas.Bool.{cases_lt, eq-eqb}
use Rattle.std.proofs.lemmas.List.{length-drop, take-append-le}
use Rattle.slink_wire.specs.Packet.{packet_bytes}
use Rattle.slink_wire.proofs.Packets.{packet_length, read_back}
use Rattle.slink_feed.specs.declared.dialogue.Event.TheVariants as events
use Rattle.slink_feed.specs.declared.dialogue.Stage.{Stage}
use Rattle.slink_feed.specs.declared.dialogue.Stage.TheVariants.{Packets}
use Rattle.slink_feed.specs.Cutting.{IsWhole}
use Rattle.slink_feed.specs.Delivered.{AreWanted, Numbered, all_packets, record_events}
use Rattle.slink_feed.specs.Dialogue.{Talk, Packet, place_of, read, read_at}
use Rattle.slink_feed.specs.Dialogue.{heard, if_wanted, next_at, reported}
use Rattle.slink_feed.specs.Listening.{Listening, Reads}
use Rattle.slink_feed.proofs.Received.{begun_none, reads_after, reads_none}
use Rattle.slink_feed.proofs.Wholes.{prefix_begun}
use Rattle.std.proofs.Math.Seq.{take-append-add}

pub packet_long : (n : ℕ) (bytes : List ℕ) → length bytes ≡ 512 → length (packet_bytes n bytes) ≡ 520
packet_long n bytes long =
    omega (arith, packet_length n bytes, long)

packet_whole : (t : Talk) (r : Numbered) → t.stage ≡ Packets → length r.bytes ≡ 512 → r.number < 2 ^ 24
    → IsWhole t.stage (packet_bytes r.number r.bytes) (Packet r.number r.bytes)
packet_whole t r at long small =
    rw at (read_back r.number r.bytes small, packet_long r.number r.bytes long)

pub wanted_reported : (o : Option ℕ) (k n : ℕ) (bytes : List ℕ) (t : Talk) → IfSome o (λ want. n ≡ want)
    → if_wanted o k n bytes t ≡ reported k n bytes t
wanted_reported None k n bytes t is = refl
wanted_reported (Some want) k n bytes t is = rw (eq-eqb n want is) refl

packet_read : (t : Talk) (r : Numbered) → t.stage ≡ Packets → place_of t.wants r.bytes ≡ Some r.place
    → IfSome (next_at t.wants r.place) (λ want. r.number ≡ want)
    → read t (Packet r.number r.bytes) ≡ reported r.place r.number r.bytes (heard (Packet r.number r.bytes) t)
packet_read t r at bears wanted =
    let u : Talk = heard (Packet r.number r.bytes) t in
    ap (λ (s : Stage). read_at s u (Packet r.number r.bytes)) at
    ∙ rw bears (wanted_reported (next_at t.wants r.place) r.place r.number r.bytes u wanted)

-- so many bytes of the packets were delivered: what is reported of them, and what the client comes to
abbrev Prefixed : Talk → List Numbered → ℕ → Type 0
Prefixed t items d = (now : Listening) × Reads t (take d (all_packets items)) (record_events (take (d / 520) items)) now

-- the first packet isn't whole
part_prefixed : (t : Talk) (r : Numbered) (rs : List Numbered) (d : ℕ) → t.stage ≡ Packets → length r.bytes ≡ 512
    → r.number < 2 ^ 24 → d < 520 → Prefixed t (r ∷ rs) d
part_prefixed t r rs d at long small lt =
    let p : List ℕ = packet_bytes r.number r.bytes in
    let all : length p ≡ 520 = packet_long r.number r.bytes long in
    let stream : take d (p ++ all_packets rs) ≡ take d p =
    take-append-le d p (all_packets rs) (omega (arith, all, lt)) in
    let none : d / 520 ≡ 0 = omega (arith, lt) in
    let begun = prefix_begun t.stage (take d p) (drop d p) (Packet r.number r.bytes)
    (omega (arith, length-drop d p, all, lt)) (rw (← (take-append-drop d p)) at (packet_whole t r at long small)) in
    let now : Listening = record { talk = t; kept = take d p } in (
      now,
      rw (stream, none) (reads_none t (take d p) begun),
    )

-- the first packet is reported
whole_prefixed : (t : Talk) (r : Numbered) (rs : List Numbered) (d : ℕ) → t.stage ≡ Packets → AreWanted t (r ∷ rs)
    → 520 ≤ d → Prefixed (reported r.place r.number r.bytes (heard (Packet r.number r.bytes) t)).0 rs (d - 520)
    → Prefixed t (r ∷ rs) d
whole_prefixed t r rs d at are ge more =
    let p : List ℕ = packet_bytes r.number r.bytes in
    let all : length p ≡ 520 = packet_long r.number r.bytes are.0 in
    let stream : take d (p ++ all_packets rs) ≡ p ++ take (d - 520) (all_packets rs) =
    (let e : d ≡ length p + (d - 520) = omega (arith, all, ge) in ap (λ n. take n (p ++ all_packets rs)) e)
    ∙ take-append-add p (all_packets rs) (d - 520) in
    let count : d / 520 ≡ suc ((d - 520) / 520) = omega (arith, ge) in (
      more.0,
      rw (stream, count) (reads_after t _ p _ (Packet r.number r.bytes)
          (events.Record r.place r.number r.bytes) _ more.0
          (packet_whole t r at are.0 are.1) (packet_read t r at are.2 are.3) more.1),
    )

pub prefixes_reported : (items : List Numbered) (t : Talk) (d : ℕ) → t.stage ≡ Packets → AreWanted t items
    → d ≤ length (all_packets items) → Prefixed t items d
prefixes_reported [] t d at are within = let none : d ≡ 0 = omega (arith, within) in
    rw none (record { talk = t; kept = [] }, reads_none t [] (begun_none t.stage))
prefixes_reported (r ∷ rs) t d at are within = elim (cases_lt d 520) [
  | inl lt ↦ part_prefixed t r rs d at are.0 are.1 lt
  | inr ge ↦
      let long = length-append (packet_bytes r.number r.bytes) (all_packets rs) in
      whole_prefixed t r rs d at are ge
      (prefixes_reported rs (reported r.place r.number r.bytes (heard (Packet r.number r.bytes) t)).0 (d - 520) at are.4
      (omega (arith, within, ge, long, packet_long r.number r.bytes are.0)))
]
