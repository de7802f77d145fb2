-- A line is one thing at most.
use Rattle.std.proofs.Common.{◌≡◌, ℕ, zero, suc, ◌/◌, ◌-◌, ◌^◌, ◌<◌, ◌≤◌, nat_lt, nat_eq, List, [], ◌∷◌, ◌++◌}
use Rattle.std.proofs.Common.{false, cond, get_or, Option, Some, None, refl, sym, ap, ◌∙◌, arith}
use Rattle.std.specs.Prelude.{codes}
use Rattle.std.proofs.lemmas.Bool.Decides.{nat_tests}
use Rattle.std.proofs.lemmas.Option.{same_Some}
use Rattle.mseed_stream.specs.declared.fault.StreamFault.{StreamFault}
use Rattle.mseed_audit.specs.declared.channel.Channel.{Channel}
use Rattle.mseed_join.specs.Lines.{hex_digit, channel_line, HasChannelLine, Line, header, channel, counts, faults}
use Rattle.mseed_join.specs.Lines.{fault, text_of_line, IsLine}
use Rattle.mseed_join.specs.private.Reading.{◌>>=◌, number_after, channel_at, counts_at, faults_at, fault_at}
use Rattle.mseed_join.proofs.Prefixes.{fault_words, fault_then, fault_of}
use Rattle.mseed_join.proofs.Backwards.{count_back, channel_back, counts_back, faults_back, fault_back}

-- a line of any kind
abbrev line_at : List ℕ → Option Line
line_at [] = None
line_at (b ∷ bs) =
    cond (nat_eq b 109) (Some header) (cond (nat_eq b 114) (counts_at (b ∷ bs) >>= λ x. Some (counts x.0 x.1))
    (cond (nat_eq b 102) (cond (nat_eq (get_or bs 4 0) 115) (faults_at (b ∷ bs) >>= λ n. Some (faults n))
    (number_after (codes "fault at ") (2 ^ 63 - 1) (b ∷ bs) >>= λ at.
    fault_at (b ∷ bs) at.0 >>= λ f. Some (fault at.0 f)))
    (channel_at (b ∷ bs) >>= λ x. Some (channel x.0 x.1))))

low : (n : ℕ) → n < 16 → hex_digit n ≤ 70
low n l = search (arith, nat_lt)

other : (n b : ℕ) → n ≤ 70 → 70 < b → nat_eq n b ≡ false
other n b l h = grind (arith, nat_tests)

channel_first : (b : ℕ) (bs : List ℕ) → b ≤ 70
    → line_at (b ∷ bs) ≡ (channel_at (b ∷ bs) >>= λ x. Some (channel x.0 x.1))
channel_first b bs l = search (arith, other)

line_back : (x : Line) → IsLine x → line_at (text_of_line x) ≡ Some x
line_back header l = refl
line_back (channel [] c) l = absurd (omega (arith, l.key_length))
line_back (channel (k ∷ ks) c) l =
    channel_first (hex_digit (k / 16)) _ (low (k / 16) (omega (arith, l.key_bytes.0)))
    ∙ ap (λ (o : Option (List ℕ × Channel)). o >>= λ x. Some (channel x.0 x.1)) (channel_back (k ∷ ks) c l)
line_back (counts records bytes) l =
    ap (λ (o : Option (ℕ × ℕ)). o >>= λ x. Some (counts x.0 x.1)) (counts_back records bytes l)
line_back (faults zero) l = absurd (omega (arith, l.some))
line_back (faults (suc n)) l = ap (λ (o : Option ℕ). o >>= λ m. Some (faults m)) (faults_back (suc n) l)
line_back (fault bytes f) l =
    let rest : List ℕ = codes " " ++ (fault_words f ++ codes "\n") in
    let text : List ℕ = fault_then bytes f in
    let at = count_back bytes rest l.bytes_fit refl in
    let read = ap (λ (xs : List ℕ). fault_at xs bytes) (sym (fault_of f bytes l.is)) ∙ fault_back f bytes l in
    ap line_at (fault_of f bytes l.is)
    ∙ ap (λ (o : Option (ℕ × List ℕ)). o >>= λ at. fault_at text at.0 >>= λ g. Some (fault at.0 g)) at
    ∙ ap (λ (o : Option StreamFault). o >>= λ g. Some (fault bytes g)) read

pub line_one : (x y : Line) → IsLine x → IsLine y → text_of_line x ≡ text_of_line y → x ≡ y
line_one x y l m e = same_Some x y (sym (line_back x l) ∙ ap line_at e ∙ line_back y m)

pub channel_one : (key other : List ℕ) (c d : Channel) → HasChannelLine key c → HasChannelLine other d
    → channel_line key c ≡ channel_line other d → (key ≡ other) × (c ≡ d)
channel_one key other c d l m e =
    let same : channel key c ≡ channel other d = line_one (channel key c) (channel other d) l m e in (cc, cc)
