-- The lines of requests, and what they command.
use Rattle.std.proofs.Common.{◌≡◌, ℕ, ◌+◌, ◌<◌, zero, suc, refl, sym, ap, subst, ◌∙◌, arith, Bool, true, false, List}
use Rattle.std.proofs.Common.{[], ◌∷◌, bytes_eq, Option, Some, None, option_map, slice_get, if◌then◌else◌}
use Rattle.std.specs.List.{position_from}
use Rattle.std.proofs.lemmas.Slice.Eq.{bytes_eq-Decides}
use Rattle.slink_wire.specs.declared.lines.LineOutcome.TheVariants.{Line}
use Rattle.slink_wire.specs.declared.reply.Reply.{Reply}
use Rattle.slink_wire.specs.declared.request.Request.{Request}
use Rattle.slink_wire.specs.Command.{IsCommand}
use Rattle.slink_wire.specs.Place.{Fields, matches}
use Rattle.slink_wire.specs.Request.{IsShort, request_line, requested}
use Rattle.slink_wire.specs.Written.{IsLine}
use Rattle.slink_wire.proofs.RequestLines.{data_line, fetch_line}
use Rattle.slink_wire.proofs.Requests.{data_written, fetch_written}
use Rattle.slink_wire.proofs.Written.{one_command}
use Rattle.slink_feed.specs.declared.grant.Mode.{Mode}
use Rattle.slink_feed.specs.declared.grant.Mode.TheVariants as modes
use Rattle.slink_feed.specs.Dialogue.{numbered}
use Rattle.slink_feed.specs.Rings.{station_at}
use Rattle.slink_feed.specs.Serving.{IsAnswer}
use Rattle.slink_feed.specs.Session.{State, answered}
use Rattle.slink_feed.specs.Window.{Window}
use Rattle.slink_model.specs.World.{Differ}
use Rattle.slink_feed.proofs.Items.{one_value}
use Rattle.std.proofs.lemmas.Bool.{and_from, false_from_ne_true, and_parts}

pub number_line : (mode : Mode) (number : Option ℕ) → IsLine (request_line (numbered mode number))
number_line modes.Data number = data_line number
number_line modes.Fetch number = fetch_line number

-- the commands of these lines
pub number_command : (mode : Mode) (number : Option ℕ) → IsShort number
    → IsCommand (request_line (numbered mode number)) (requested (numbered mode number))
number_command modes.Data number short = data_written number short
number_command modes.Fetch number short = fetch_written number short

-- what is answered to the line of a request
pub request_answered : (feed : List Window) (s new : State) (items : List ℕ) (request : Request) (reply : Reply)
    → items ≡ request_line request → IsCommand (request_line request) (requested request)
    → IsAnswer feed s (Line (record { items = items })) new reply → answered feed s (requested request) ≡ (new, reply)
request_answered feed s new items request reply same known is =
    let one : is.0 ≡ requested request = one_command _ _ _ (subst (λ xs. IsCommand xs is.0) same is.1) known in
    ap (answered feed s) (sym one) ∙ is.2

module _ {X : Type 0} where
  -- the first element that passes
  pub first_found : (p : X → Bool) (i k : ℕ) (xs : List X) (x : X) → slice_get xs k ≡ Some x → p x ≡ true
      → ((j : ℕ) (y : X) → j < k → slice_get xs j ≡ Some y → p y ≡ false) → position_from p i xs ≡ Some (i + k)
  first_found p i k [] x here is before = absurd (let bad : None ≡ Some x = here in cc bad)
  first_found p i zero (y ∷ xs) x here is before =
      let one : y ≡ x = one_value (Some y) y x refl here in
      ap (λ t. if t then Some i else position_from p (i + 1) xs) (ap p one ∙ is)
      ∙ ap (λ n. Some n) (let e : i ≡ i + 0 = omega arith in e)
  first_found p i (suc k) (y ∷ xs) x here is before =
      ap (λ t. if t then Some i else position_from p (i + 1) xs) (before 0 y (omega arith) refl)
      ∙ (first_found p (i + 1) k xs x here is (λ j z lt at. before (suc j) z (omega (arith, lt)) at)
      ∙ ap (λ n. Some n) (let e : i + 1 + k ≡ i + suc k = omega arith in e))

module _ {A B C : Type 0} where
  -- what stands in one of two lists that look alike stands in the other
  pub also_at : (f : A → C) (g : B → C) (o : Option A) (q : Option B) (x : A) → option_map f o ≡ option_map g q
      → o ≡ Some x → (y : B) × (q ≡ Some y) × (f x ≡ g y)
  also_at f g o None x same is = absurd (let bad : Some (f x) ≡ None = sym (ap (option_map f) is) ∙ same in cc bad)
  also_at f g o (Some y) x same is = let both_are : Some (f x) ≡ Some (g y) = sym (ap (option_map f) is) ∙ same in
      (y, refl, cc both_are)

pub matches_itself : (place : Fields) → matches place place.station (Some place.network) ≡ true
matches_itself place = and_from (bytes_eq place.station place.station) (bytes_eq place.network place.network)
    ((bytes_eq-Decides place.station place.station).1 refl) ((bytes_eq-Decides place.network place.network).1 refl)

matched : (place other : Fields) → matches place other.station (Some other.network) ≡ true → place ≡ other
matched place other h =
    let parts = and_parts (bytes_eq place.station other.station) (bytes_eq place.network other.network) h in
    ap (λ (s : List ℕ). record { station = s; network = place.network })
    ((bytes_eq-Decides place.station other.station).0 parts.0)
    ∙ ap (λ (n : List ℕ). record { station = other.station; network = n })
    ((bytes_eq-Decides place.network other.network).0 parts.1)

-- The ring of a station is found by its codes.
pub station_found : (places : List (Fields × Option ℕ)) (feed : List Window) (k : ℕ) (p : Fields × Option ℕ)
    → Differ places
    → ((i : ℕ) → option_map (λ (v : Window). v.place) (slice_get feed i) ≡ option_map (λ (q : Fields × Option ℕ). q.0)
    (slice_get places i))
    → slice_get places k ≡ Some p → station_at feed p.0.station (Some p.0.network) ≡ Some k
station_found places feed k p differ alike here =
    let ring : (v : Window) × (slice_get feed k ≡ Some v) × (p.0 ≡ v.place) =
    also_at (λ (q : Fields × Option ℕ). q.0) (λ (v : Window). v.place) (slice_get places k) (slice_get feed k) p
    (sym (alike k)) here in
    first_found (λ (v : Window). matches v.place p.0.station (Some p.0.network)) 0 k feed ring.0 ring.1
    (subst (λ (q : Fields). matches q p.0.station (Some p.0.network) ≡ true) ring.2 (matches_itself p.0))
    (λ j w lt at. false_from_ne_true (matches w.place p.0.station (Some p.0.network)) (λ is.
    let q = also_at (λ (v : Window). v.place) (λ (r : Fields × Option ℕ). r.0) (slice_get feed j) (slice_get places j) w
    (alike j) at in
    let same : j ≡ k = differ j k q.0 p q.1 here (sym q.2 ∙ matched w.place p.0 is) in
    omega (arith, lt, same)))
    ∙ ap (λ n. Some n) (let e : 0 + k ≡ k = omega arith in e)
