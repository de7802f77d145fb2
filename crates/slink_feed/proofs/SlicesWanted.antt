-- A slice of a station's records, from the number on that it wants, is wanted.
use Rattle.std.proofs.Common.{◌≡◌, ℕ, ◌+◌, ◌%◌, ◌^◌, refl, ap, ◌∙◌, arith}
use Rattle.std.proofs.Common.{List, [], ◌∷◌, ◌++◌, Some, IfSome}
use Rattle.slink_wire.specs.Packet.{packet_bytes}
use Rattle.slink_feed.specs.declared.dialogue.Wanted.{Wanted}
use Rattle.slink_feed.specs.Delivered.{AreOfPlace, AreWanted, all_packets, joined, numbered}
use Rattle.slink_feed.specs.Dialogue.{Packet, Talk, Wants, heard, next_at, reported}
use Rattle.slink_feed.specs.Dialogue.{want_at, with_next}
use Rattle.slink_feed.specs.Sending.{packets_from}
use Rattle.slink_feed.proofs.Numbers.{place_some, next_here}
use Rattle.slink_feed.proofs.ReportedOver.{place_same, places_next}

matched_set : (wants : Wants) (k n : ℕ) (rs : List (List ℕ)) → AreOfPlace wants k rs
    → AreOfPlace (with_next wants k n) k rs
matched_set wants k n [] are = tt
matched_set wants k n (r ∷ rs) are =
    let same = place_same wants (with_next wants k n) r (places_next wants k n (want_at wants k) refl) in
    (are.0, same ∙ are.1, matched_set wants k n rs are.2)

pub slice_wanted : (k g : ℕ) (rs : List (List ℕ)) (t : Talk) → AreOfPlace t.wants k rs
    → IfSome (next_at t.wants k) (λ want. g % 2 ^ 24 ≡ want) → AreWanted t (numbered k g rs)
slice_wanted k g [] t are wanted = tt
slice_wanted k g (r ∷ rs) t are wanted =
    let n : ℕ = (g % 2 ^ 24 + 1) % 2 ^ 24 in
    let some : (w : Wanted) × (want_at t.wants k ≡ Some w) = place_some t.wants r k are.1 in
    let next = next_here t.wants k n (want_at t.wants k) some.0 refl some.1 in
    let same : (g + 1) % 2 ^ 24 ≡ n = omega arith in (
      are.0,
      omega arith,
      are.1,
      wanted,
      slice_wanted k (g + 1) rs (reported k (g % 2 ^ 24) r (heard (Packet (g % 2 ^ 24) r) t)).0
          (matched_set t.wants k n rs are.2)
          (rw next same),
    )

pub slice_packets : (k g : ℕ) (rs : List (List ℕ)) → all_packets (numbered k g rs) ≡ joined (packets_from g rs)
slice_packets k g [] = refl
slice_packets k g (r ∷ rs) = ap (λ ps. packet_bytes (g % 2 ^ 24) r ++ ps) (slice_packets k (g + 1) rs)
