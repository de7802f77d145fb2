use Rattle.std.proofs.Common.{◌≡◌, ◌+◌, ◌<◌, ◌++◌, ◌∷◌, ◌∙◌, [], List, ℕ, length, get_or, map, arith}
use Rattle.std.proofs.Common.{take, ap, sym, append_assoc}
use Rattle.std.proofs.lemmas.List.{map_push, take_more}
use Rattle.mseed_text.specs.Shown.{shown_byte}
use Rattle.mseed_text.proofs.line.Line.put_shown_bytes.Goals as goal

-- one more byte was put
one_shown : (line now before word : List ℕ) (i byte : ℕ) → i < length word
    → line ≡ before ++ map shown_byte (take i word) → byte ≡ shown_byte (get_or word i 0) → now ≡ line ++ byte ∷ []
    → now ≡ before ++ map shown_byte (take (i + 1) word)
one_shown line now before word i byte less so_far is_shown is =
    let first : List ℕ = map shown_byte (take i word) in
    is ∙ (ap (λ (l : List ℕ). l ++ byte ∷ []) so_far
    ∙ (append_assoc before first (byte ∷ [])
    ∙ ap (λ (l : List ℕ). before ++ l) (ap (λ (b : ℕ). first ++ b ∷ []) is_shown
    ∙ (sym (map_push shown_byte (take i word) (get_or word i 0))
    ∙ ap (map shown_byte) (sym (take_more word i 0 less))))))

pub loop-byte-preserved : goal.loop-byte-preserved
loop-byte-preserved c = record {
  text = one_shown c.loop-byte.self c.put.new.self c.args.self.now c.args.bytes.now c.loop-byte.byte-index
      c.shown_byte.result c.loop-byte-test.true c.loop-byte.invariant.text c.shown_byte.ensures c.put.ensures.text;
  len = omega (arith, c.put.ensures.len, c.loop-byte.invariant.len);
}
