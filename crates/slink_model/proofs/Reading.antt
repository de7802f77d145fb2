-- A client takes the bytes of a link piece by piece.
use Rattle.std.proofs.Common.{◌≡◌, ℕ, ◌<◌, refl, sym, ap, subst, ◌∙◌, arith, List, [], ◌++◌, append-nil, length, take}
use Rattle.slink_feed.specs.declared.dialogue.Ending.{Ending}
use Rattle.slink_feed.specs.declared.dialogue.Ending.TheVariants as endings
use Rattle.slink_feed.specs.declared.dialogue.Event.{Event}
use Rattle.slink_feed.specs.declared.dialogue.Event.TheVariants as events
use Rattle.slink_feed.specs.declared.dialogue.Stage.{Stage}
use Rattle.slink_feed.specs.declared.dialogue.Stage.TheVariants.{Unlinked, Ended}
use Rattle.slink_feed.specs.Cutting.{IsBegun, IsWhole}
use Rattle.slink_feed.specs.Dialogue.{event_of}
use Rattle.slink_feed.specs.Listening.{Brings, IsLinked, Listening, begun, whole}
use Rattle.std.proofs.Common.{inl, inr}
use Rattle.slink_model.proofs.ReadAll.{linked_or}
use Rattle.slink_model.specs.Running.{Keeps}
use Rattle.slink_model.specs.World.{Reads, Lists, Numbers, Taking, noted, piece_read, piece_lost, with_client}
use Rattle.slink_feed.proofs.Received.{begun_after}
use Rattle.slink_feed.proofs.Wholes.{begun_no_whole}

-- what a client does with a piece, by its contract
pub record BytesRead (old : Listening) (bytes : List ℕ) (used : ℕ) (new : Listening) (event : Event) : Type 0 where
  pub brings : IsLinked old.talk.stage → Brings old.talk (old.kept ++ take used bytes) new event
  pub all : event ≡ events.None → used ≡ length bytes
  pub unlinked : old.talk.stage ≡ Unlinked → (used ≡ length bytes) × (event ≡ events.None) × (new ≡ old)
  pub ended : (ending : Ending) → old.talk.stage ≡ Ended ending → (used ≡ 0) × (event ≡ event_of ending) × (new ≡ old)

nothing_noted : (first_sent : Numbers) (ending : Ending) (t : Taking) → noted first_sent (event_of ending) t ≡ t
nothing_noted first_sent endings.End t = refl
nothing_noted first_sent ending t = refl

-- a client that takes no more stays, and nothing is noted
idle_at : (old new : Listening) (bytes : List ℕ) (used : ℕ) (event : Event) (stage : Stage) → old.talk.stage ≡ stage
    → BytesRead old bytes used new event → ¬ (IsLinked stage)
    → (new ≡ old) × ((f : Numbers) (t : Taking) → noted f event t ≡ t)
idle_at old new bytes used event Unlinked is h over =
    ((h.unlinked is).2, λ f t. ap (λ (e : Event). noted f e t) (h.unlinked is).1)
idle_at old new bytes used event (Ended ending) is h over = (
  (h.ended ending is).2,
  λ f t. ap (λ (e : Event). noted f e t) (h.ended ending is).1 ∙ nothing_noted f ending t,
)
idle_at old new bytes used event stage is h over = absurd (over tt)

pub reads_more : (first_sent : Numbers) (held : Lists) (start : Numbers) (to_server : List ℕ) (old new : Listening)
    (bytes rest : List ℕ) (used : ℕ) (event : Event) (last : Taking) → BytesRead old bytes used new event
    → Reads first_sent (noted first_sent event (with_client new held start to_server)) rest last
    → Reads first_sent (with_client old held start to_server) (take used bytes ++ rest) last
reads_more first_sent held start to_server old new bytes rest used event last h more =
    let of : Listening → Taking = λ c. with_client c held start to_server in
    elim (linked_or old.talk.stage) [
      | inl on ↦ piece_read (of old) last new (take used bytes ++ rest) (take used bytes) rest event refl on
          (h.brings on) more
      | inr over ↦ let idle = idle_at old new bytes used event old.talk.stage refl h over in
          piece_lost (of old) last (take used bytes ++ rest) (take used bytes) rest refl over
          (subst (λ (t : Taking). Reads first_sent t rest last) (idle.1 first_sent (of new) ∙ ap of idle.0) more)
    ]

brings_some : (old new : Listening) (bytes : List ℕ) (used : ℕ) (event : Event) → 0 < length bytes → Keeps old
    → BytesRead old bytes used new event → used ≡ 0 → Brings old.talk (old.kept ++ take used bytes) new event → ⊥
brings_some old new bytes used event some keeps h none (whole w is read empty) =
    let same : old.kept ++ take used bytes ≡ old.kept ++ [] = ap (λ n. old.kept ++ take n bytes) none in
    begun_no_whole old.talk.stage old.kept [] w (subst (IsBegun old.talk.stage) (sym (append-nil old.kept)) keeps)
    (subst (λ (b : List ℕ). IsWhole old.talk.stage b w) (same ∙ append-nil old.kept) is)
brings_some old new bytes used event some keeps h none (begun is same quiet) = let all : used ≡ length bytes =
    h.all quiet in omega (arith, all, none, some)

pub nothing_read : (old new : Listening) (bytes : List ℕ) (used : ℕ) (event : Event) → 0 < length bytes → Keeps old
    → BytesRead old bytes used new event → used ≡ 0 → (¬ (IsLinked old.talk.stage)) × (new ≡ old)
nothing_read old new bytes used event some keeps h none = elim (linked_or old.talk.stage) [
  | inl on ↦ absurd (brings_some old new bytes used event some keeps h none (h.brings on))
  | inr over ↦ (over, (idle_at old new bytes used event old.talk.stage refl h over).0)
]

pub still_keeps : (old new : Listening) (bytes : List ℕ) (used : ℕ) (event : Event) → Keeps old
    → BytesRead old bytes used new event → Keeps new
still_keeps old new bytes used event keeps h = elim (linked_or old.talk.stage) [
  | inl on ↦ begun_after old.talk (old.kept ++ take used bytes) new event (h.brings on)
  | inr over ↦ subst Keeps (sym (idle_at old new bytes used event old.talk.stage refl h over).0) keeps
]
