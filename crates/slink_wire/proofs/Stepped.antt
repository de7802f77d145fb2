-- Where bytes of a piece lead.
use Rattle.std.proofs.Common.{◌≡◌, ℕ, ◌+◌, ◌<◌, ◌≤◌, inl, inr, ap, ◌∙◌, arith, refl, false, List, [], ◌∷◌, ◌++◌, length}
use Rattle.std.proofs.Common.{get_or, take, append_assoc, append-nil, length-append, ◌≢◌}
use Rattle.std.proofs.lemmas.Bool.Decides.{leb_tells}
use Rattle.std.proofs.lemmas.List.{nil_from_length, take_more}
use Rattle.slink_wire.specs.declared.lines.LineOutcome.{LineOutcome}
use Rattle.slink_wire.specs.declared.lines.LineOutcome.TheVariants.{More, Line}
use Rattle.slink_wire.specs.Lines.{Held, IsHeld, YieldsNothing, lines_of, stripped}
use Rattle.slink_wire.specs.private.Steps.{Leads}
use Rattle.slink_wire.specs.Taking.{Yields}
use Rattle.slink_wire.proofs.Sound.{sound}
use Rattle.slink_wire.proofs.Spelled.{goes_on, lines_byte, lines_cr}

-- a byte goes on the line that has begun of a stream
pub begun_on : (stream : List ℕ) (b : ℕ) → 1 ≤ length (lines_of stream).begun
    → stripped ((lines_of stream).begun ++ b ∷ []) ≡ (lines_of stream).begun ++ b ∷ []
begun_on stream b some = goes_on _ b (sound stream).1.no_lf (λ lf. some)

pub begun_by : (stream : List ℕ) (b : ℕ) → b ≢ 10
    → stripped ((lines_of stream).begun ++ b ∷ []) ≡ (lines_of stream).begun ++ b ∷ []
begun_by stream b other = goes_on _ b (sound stream).1.no_lf (λ lf. absurd (other lf))

pub ruleset byte_taken = (lines_cr, lines_byte, begun_on, begun_by, append-nil, length-append)

-- an LF before a line is dropped
pub lf_dropped : (held : Held) → length held.begun ≡ 0 → held.is_too_long ≡ false → Leads held (10 ∷ []) held More
lf_dropped held none still stream h =
    let begun : held.begun ≡ [] = nil_from_length held.begun none in
    rw (lines_byte stream 10 (λ e. omega (arith, e)), ← h.1, still, ← h.0, begun) ((refl, refl), (refl, refl))

-- so many bytes of a piece were taken, and nothing was reported
pub record TakenTo (old now : Held) (piece : List ℕ) (i : ℕ) : Type 0 where
  pub goes_on : now.is_too_long ≡ false
  pub held : (stream : List ℕ) → IsHeld old stream → IsHeld now (stream ++ take i piece)
  pub quiet : (stream : List ℕ) (k : ℕ) → IsHeld old stream → k ≤ i → YieldsNothing stream (stream ++ take k piece)

answers_from : (what : LineOutcome) (before middle after : List ℕ) → YieldsNothing before middle
    → Yields what middle after → Yields what before after
answers_from (Line line) before middle after p q = (q.0 ∙ ap (λ ls. ls ++ line.items ∷ []) p.0, q.1)
answers_from what before middle after p q = (q.0 ∙ p.0, q.1)

-- the next byte, and what it yields
pub taken_byte : (old now new : Held) (piece : List ℕ) (i : ℕ) (what : LineOutcome) → i < length piece
    → Leads now (get_or piece i 0 ∷ []) new what → TakenTo old now piece i → Leads old (take (i + 1) piece) new what
taken_byte old now new piece i what lt leads t stream h =
    let led = rw (append_assoc, ← take_more piece i 0 lt) at (leads (stream ++ take i piece) (t.held stream h)) in
    (led.0, answers_from what stream _ _ (t.quiet stream i h (omega arith)) led.1)

pub taken_more : (old now new : Held) (piece : List ℕ) (i : ℕ) → i < length piece → new.is_too_long ≡ false
    → Leads now (get_or piece i 0 ∷ []) new More → TakenTo old now piece i → TakenTo old new piece (i + 1)
taken_more old now new piece i lt still leads t = record {
  goes_on = still;
  held = (λ stream h. (taken_byte old now new piece i More lt leads t stream h).0);
  quiet = (λ stream k h le. elim (leb_tells k i) [
    | inl before ↦ t.quiet stream k h before.1
    | inr here ↦ (let e : i + 1 ≡ k = omega (arith, here.1) in
        rw e at (taken_byte old now new piece i More lt leads t stream h).1)
  ]);
}
