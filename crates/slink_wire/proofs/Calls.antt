-- What calls reported, one after another.
use Rattle.std.proofs.Common.{◌≡◌, ℕ, refl, sym, ap, ◌∙◌, List, [], ◌∷◌, ◌++◌, append_assoc, append-nil}
use Rattle.slink_wire.specs.declared.lines.LineOutcome.{LineOutcome}
use Rattle.slink_wire.specs.declared.lines.LineOutcome.TheVariants.{Line}
use Rattle.slink_wire.specs.Lines.{lines_of}
use Rattle.slink_wire.specs.Taking.{AreCalls, Call, Yields, bytes_in, line_in, lines_in}

reported : (what : LineOutcome) (before after : List ℕ) → Yields what before after
    → (lines_of after).lines ≡ (lines_of before).lines ++ line_in what
reported (Line line) before after h = h.0
reported what before after h = h.0 ∙ sym (append-nil (lines_of before).lines)

beyond : (stream : List ℕ) (calls : List Call) → AreCalls stream calls
    → (lines_of (stream ++ bytes_in calls)).lines ≡ (lines_of stream).lines ++ lines_in calls
beyond stream [] h = ap (λ s. (lines_of s).lines) (append-nil stream) ∙ sym (append-nil (lines_of stream).lines)
beyond stream (call ∷ calls) h =
    ap (λ s. (lines_of s).lines) (sym (append_assoc stream call.bytes (bytes_in calls)))
    ∙ (beyond (stream ++ call.bytes) calls h.1
    ∙ (ap (λ ls. ls ++ lines_in calls) (reported call.what stream (stream ++ call.bytes) h.0)
    ∙ append_assoc (lines_of stream).lines (line_in call.what) (lines_in calls)))

no_lines : (lines_of []).lines ≡ []
unfolding lines_of
no_lines = refl

pub calls_yield : (calls : List Call) → AreCalls [] calls → lines_in calls ≡ (lines_of (bytes_in calls)).lines
calls_yield calls h = sym (beyond [] calls h ∙ ap (λ ls. ls ++ lines_in calls) no_lines)

pub calls_alike : (a b : List Call) → AreCalls [] a → AreCalls [] b → bytes_in a ≡ bytes_in b → lines_in a ≡ lines_in b
calls_alike a b p q e = calls_yield a p ∙ (ap (λ s. (lines_of s).lines) e ∙ sym (calls_yield b q))
