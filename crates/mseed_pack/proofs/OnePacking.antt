-- A series is packed into one list of records.
use Rattle.std.proofs.Common.{◌⊎◌}
use Rattle.std.proofs.Common.{◌≡◌, ℕ, ◌+◌, ◌-◌, ◌*◌, ◌%◌, ◌^◌, ◌<◌, ◌≤◌, List, [], ◌∷◌, ◌++◌, length, take}
use Rattle.std.proofs.Common.{drop, replicate, refl, sym, ap, ◌∙◌, arith, ℤ, inl, inr}
use Rattle.std.proofs.Common.{append-nil, append_assoc, length-append}
use Rattle.std.specs.List.{AllByRecursion}
use Rattle.std.proofs.Math.Nat.{mul-le-mul_left}
use Rattle.std.proofs.lemmas.List.{length-drop, length-take-le, take-append-drop, take_at, drop_at}
use Rattle.std.proofs.lemmas.List.{drop_all}
use Rattle.mseed_time.specs.Btime.{Parts}
use Rattle.mseed_time.specs.Naming.{Names}
use Rattle.mseed_record.specs.Written.{Header, IsHeaded, header_bytes}
use Rattle.mseed_steim.specs.declared.scheme.Scheme.{Scheme}
use Rattle.mseed_steim.specs.declared.scheme.Scheme.TheVariants.{One, Two}
use Rattle.mseed_steim.specs.Frames.{DataWord, data_words, word_count}
use Rattle.mseed_steim_pack.specs.Packing.{IsEmptyWord, PacksRun, contents}
use Rattle.mseed_audit.specs.Series.{Trace}
use Rattle.mseed_steim.specs.declared.encoding.Encoding.{Encoding}
use Rattle.mseed_steim.specs.declared.encoding.Encoding.TheVariants.{Int16, Int32, Steim1, Steim2}
use Rattle.mseed_pack.specs.declared.options.Options.{Options}
use Rattle.mseed_pack.specs.Packing.{Piece, ArePlaced, IsHeaderOf, HoldsIntegers, HoldsFrames, HoldsSamples, IsPacked}
use Rattle.mseed_pack.specs.Packing.{PacksUpTo, IsPacking}
use Rattle.mseed_pack.specs.Clock.{instant_at}
use Rattle.mseed_pack.specs.Prefixes.{ArePrefixes}
use Rattle.mseed_pack.specs.Stretches.{left_of}
use Rattle.mseed_pack.proofs.Followed.{samples_in}
use Rattle.mseed_pack.proofs.Spellings.{length-all}
use Rattle.mseed_pack.proofs.SamePayload.{octets_behind, same_payload}
use Rattle.mseed_pack.proofs.Recorded.{power_more}
use Rattle.mseed_pack.proofs.Growing.{packed_length, records_in}
use Rattle.mseed_steim.proofs.Walking.{length-words_from}
use Rattle.mseed_steim.specs.Frames.{AreOctets}

-- what the layers below say: one word takes the largest number, and an instant has one name
abbrev pub OneRun : Type 0
OneRun = (s : Scheme) (ws vs : List DataWord) (ds rest more : List ℤ) → PacksRun s ws ds rest → PacksRun s vs ds more
    → length ws ≡ length vs → (contents ws ≡ contents vs) × (rest ≡ more)

abbrev pub OneName : Type 0
OneName = (instant : ℤ) (t s : Parts) (u v : ℤ) → Names instant t u → Names instant s v → (t ≡ s) × (u ≡ v)

-- no word takes anything once others have taken all
as_few : OneRun → (s : Scheme) (ws vs : List DataWord) (ds rest : List ℤ) → PacksRun s ws ds [] → PacksRun s vs ds rest
    → length vs ≤ length ws
as_few one s ws [] ds rest a b = omega arith
as_few one s [] (v ∷ vs) ds rest a b =
    let none : length ds ≡ 0 = ap (λ (xs : List ℤ). length xs) a in
    omega (arith, none, b.1.0.some, b.1.0.inside)
as_few one s (w ∷ ws) (v ∷ vs) ds rest a b =
    let same : drop a.0 ds ≡ drop b.0 ds =
    (one s (w ∷ []) (v ∷ []) ds (drop a.0 ds) (drop b.0 ds) (a.0, (a.1.0, refl)) (b.0, (b.1.0, refl)) refl).1 in
    let later = as_few one s ws vs (drop a.0 ds) rest a.1.1 (rw same b.1.1) in
    omega (arith, later)

contents-append : (xs ys : List DataWord) → contents (xs ++ ys) ≡ contents xs ++ contents ys
contents-append [] ys = refl
contents-append (x ∷ xs) ys = ap (λ (cs : List (ℕ × ℕ)). (x.code, x.bits) ∷ cs) (contents-append xs ys)

empty_contents : (ws : List DataWord) → AllByRecursion IsEmptyWord ws → contents ws ≡ replicate (length ws) (0, 0)
empty_contents [] h = refl
empty_contents (w ∷ ws) h = let rest = empty_contents ws h.1 in λ i. (h.0.0 i, h.0.1 i) ∷ rest i

-- no record has fewer words in use than another with the same differences left
not_fewer : OneRun → (s : Scheme) (left xs ys : List ℤ) (f g : ℕ) (p q : List ℕ)
    → length (data_words p) ≡ length (data_words q) → (h : HoldsFrames s left xs f p) → (k : HoldsFrames s left ys g q)
    → ¬ (h.words < k.words)
not_fewer one s left xs ys f g p q size h k less =
    let all : length xs ≡ length left = omega (arith, less, h.full, k.inside, size) in
    let nothing : drop (length xs) left ≡ [] = drop_all (length xs) left (omega (arith, all)) in
    let few = as_few one s (take h.words (data_words p)) (take k.words (data_words q)) left (drop (length ys) left)
    (rw nothing at h.packed) k.packed in
    let used = length-take-le h.words (data_words p) h.inside in
    let used_2 = length-take-le k.words (data_words q) k.inside in
    omega (arith, less, few, used, used_2)

-- what two records have in common that hold samples where the same differences are left
record Same (xs ys : List ℤ) (f g : ℕ) (p q : List ℕ) : Type 0 where
  count : length xs ≡ length ys
  frames : f ≡ g
  payload : xs ≡ ys → p ≡ q

-- the same of integers
not_less : (width left : ℕ) (xs ys : List ℤ) (f g : ℕ) (p q : List ℕ) → length ys ≤ left → length p ≡ length q
    → HoldsIntegers width left xs f p → HoldsIntegers width left ys g q → ¬ (length xs < length ys)
not_less width left xs ys f g p q b size h k less =
    let more : width * (length xs + 1) ≤ width * length ys = mul-le-mul_left width (omega (arith, less)) in
    let inside = simp (length-append, length-all) at (ap (λ (bs : List ℕ). length bs) k.bytes) in
    omega (arith, less, b, more, inside, size, h.full)

-- payloads where the same differences are left
module _ (one : OneRun) (left : List ℤ) {xs ys : List ℤ} {f g : ℕ} {p q : List ℕ} (a : length xs ≤ length left)
    (b : length ys ≤ length left) (op : AreOctets p) (oq : AreOctets q) (size : length p ≡ length q)
    (whole : length p % 64 ≡ 0) where
  same_frames : (s : Scheme) → HoldsFrames s left xs f p → HoldsFrames s left ys g q → Same xs ys f g p q
  same_frames s h k =
      let ps = data_words p in
      let qs = data_words q in
      let here = length-words_from p 3 (word_count p - 3) in
      let there = length-words_from q 3 (word_count q - 3) in
      let many : length ps ≡ length qs = omega arith in
      let least = not_fewer one s left xs ys f g p q many h k in
      let most = not_fewer one s left ys xs g f q p (sym many) k h in
      let words : h.words ≡ k.words = omega arith in
      let used = length-take-le h.words ps h.inside in
      let used_2 = length-take-le k.words qs k.inside in
      let run = one s (take h.words ps) (take k.words qs) left (drop (length xs) left) (drop (length ys) left) h.packed
      k.packed (omega arith) in
      let left_long : length (drop (length xs) left) ≡ length (drop (length ys) left) =
      ap (λ (ds : List ℤ). length ds) run.1 in
      let backs : length (drop h.words ps) ≡ length (drop k.words qs) =
      omega (arith, length-drop h.words ps, length-drop k.words qs) in
      let behind = empty_contents (drop h.words ps) h.behind ∙ ap (λ (n : ℕ). replicate n (0, 0)) backs
      ∙ sym (empty_contents (drop k.words qs) k.behind) in
      let all : contents ps ≡ contents qs =
      rw (← take-append-drop h.words ps, ← take-append-drop k.words qs, contents-append, contents-append)
      (λ i. run.0 i ++ behind i) in
      record {
        count = omega (arith, length-drop (length xs) left, length-drop (length ys) left);
        frames = omega (arith, h.frames_is, k.frames_is);
        payload = λ e. same_payload p q op oq size whole all (cc (e, h.first_is, k.first_is))
            (cc (e, h.last_is, k.last_is)) h.codes k.codes;
      }

  same_integers : (width : ℕ) → HoldsIntegers width (length left) xs f p → HoldsIntegers width (length left) ys g q
      → Same xs ys f g p q
  same_integers width h k =
      let least = not_less width (length left) xs ys f g p q b size h k in
      let most = not_less width (length left) ys xs g f q p a (sym size) k h in
      record {
        count = omega arith;
        frames = h.no_frames ∙ sym k.no_frames;
        payload = λ e. h.bytes ∙ rw (e, size) (sym k.bytes);
      }

  same_held : (e : Encoding) → HoldsSamples e left xs f p → HoldsSamples e left ys g q → Same xs ys f g p q
  same_held Int16 = same_integers 2
  same_held Int32 = same_integers 4
  same_held Steim1 = same_frames One
  same_held Steim2 = same_frames Two

whole_frames : (h : Header) (b : List ℕ) → IsHeaded h b → length (drop 64 b) % 64 ≡ 0
whole_frames h b headed =
    let power : 2 ^ h.exponent ≡ 128 * 2 ^ (h.exponent - 7) = power_more 7 h.exponent headed.exponent_low in
    omega (arith, power, headed.size, length-drop 64 b)

-- one header
same_header : OneName → (s : Trace) (o : Options) (p q : Piece) (f g : ℕ) (a b : Header) → p.number ≡ q.number
    → p.first ≡ q.first → length p.samples ≡ length q.samples → f ≡ g → IsHeaderOf s o p f a → IsHeaderOf s o q g b
    → a ≡ b
same_header name s o p q f g a b number first count frames h k =
    let start = name (instant_at s p.first) a.start b.start a.microseconds b.microseconds h.start (rw first k.start) in
    let sequence : a.sequence ≡ b.sequence = rw (h.sequence, number) (sym k.sequence) in
    let activity : a.activity ≡ b.activity = rw (h.activity, first, count) (sym k.activity) in
    λ i. record {
      sequence = sequence i;
      key = (h.key ∙ sym k.key) i;
      start = start.0 i;
      microseconds = start.1 i;
      samples = (h.samples ∙ count ∙ sym k.samples) i;
      factor = (h.factor ∙ sym k.factor) i;
      multiplier = (h.multiplier ∙ sym k.multiplier) i;
      encoding = (h.encoding ∙ sym k.encoding) i;
      exponent = (h.exponent ∙ sym k.exponent) i;
      frames = (h.frames_is ∙ frames ∙ sym k.frames_is) i;
      activity = activity i;
    }

-- records that begin with the same samples left are the same
record SamePiece (p q : Piece) : Type 0 where
  count : length p.samples ≡ length q.samples
  bytes : p.samples ≡ q.samples → p.bytes ≡ q.bytes

-- records begin others, and are all of them where no samples are left
abbrev Begin : List (List ℕ) → List (List ℕ) → List ℤ → Type 0
Begin xs ys left = (more : List (List ℕ)) × ((ys ≡ xs ++ more) × (left ≡ [] → more ≡ []))

some_left : (p : Piece) (back left rest : List ℤ) → 0 < length p.samples → left ≡ (p.samples ++ back) ++ rest
    → ¬ (left ≡ [])
some_left p back left rest some e none =
    let size = simp length-append at (ap (λ (xs : List ℤ). length xs) (sym none ∙ e)) in
    omega (arith, size, some)

all_of : (xs ys : List (List ℕ)) → Begin xs ys [] → ys ≡ xs
all_of xs ys f = f.1.0 ∙ ap (λ (more : List (List ℕ)). xs ++ more) (f.1.1 refl) ∙ append-nil xs

module _ (one : OneRun) (name : OneName) (s : Trace) (o : Options) where
  same_piece : (p q : Piece) → p.number ≡ q.number → p.first ≡ q.first → IsPacked s o p → IsPacked s o q
      → SamePiece p q
  same_piece p q number first h k =
      let size : length p.bytes ≡ length q.bytes = packed_length s o p h ∙ sym (packed_length s o q k) in
      let same = same_held one (left_of s p.first) h.within (rw first k.within)
      (octets_behind 64 p.bytes h.headed.octets)
      (octets_behind 64 q.bytes k.headed.octets) (omega (arith, length-drop 64 p.bytes, length-drop 64 q.bytes))
      (whole_frames h.header p.bytes h.headed) o.encoding h.payload (rw first k.payload) in
      let headers : h.header ≡ k.header =
      same_header name s o p q h.frames k.frames h.header k.header number first same.count same.frames h.fields
      k.fields in
      let prefixes : take 64 p.bytes ≡ take 64 q.bytes = h.headed.begins ∙ ap header_bytes headers
      ∙ sym k.headed.begins in
      record {
        count = same.count;
        bytes = λ e. sym (take-append-drop 64 p.bytes) ∙ (λ i. prefixes i ++ same.payload e i)
            ∙ take-append-drop 64 q.bytes;
      }

  -- of two parts of a packing from its first record on, one begins the other
  compared : (number first : ℕ) (ps qs : List Piece) (left rest : List ℤ)
      → samples_in ps ++ left ≡ samples_in qs ++ rest → ArePlaced number first ps → ArePlaced number first qs
      → AllByRecursion (IsPacked s o) ps → AllByRecursion (IsPacked s o) qs
      → Begin (records_in ps) (records_in qs) left ⊎ Begin (records_in qs) (records_in ps) rest
  compared number first [] [] left rest joined a b h k = inl ([], (refl, λ none. refl))
  compared number first [] (q ∷ qs) left rest joined a b h k =
      let more = some_left q (samples_in qs) left rest k.0.some joined in
      inl (records_in (q ∷ qs), (refl, λ none. absurd (more none)))
  compared number first (p ∷ ps) [] left rest joined a b h k =
      let more = some_left p (samples_in ps) rest left h.0.some (sym joined) in
      inr (records_in (p ∷ ps), (refl, λ none. absurd (more none)))
  compared number first (p ∷ ps) (q ∷ qs) left rest joined a b h k =
      let same = same_piece p q (a.0 ∙ sym b.0) (a.1 ∙ sym b.1) h.0 k.0 in
      let n = length p.samples in
      let whole : p.samples ++ (samples_in ps ++ left) ≡ q.samples ++ (samples_in qs ++ rest) =
      sym (append_assoc p.samples (samples_in ps) left) ∙ joined ∙ append_assoc q.samples (samples_in qs) rest in
      let samples : p.samples ≡ q.samples =
      sym (take_at p.samples (samples_in ps ++ left) n refl) ∙ ap (λ (xs : List ℤ). take n xs) whole
      ∙ take_at q.samples (samples_in qs ++ rest) n (sym same.count) in
      let others : samples_in ps ++ left ≡ samples_in qs ++ rest =
      sym (drop_at p.samples (samples_in ps ++ left) n refl) ∙ ap (λ (xs : List ℤ). drop n xs) whole
      ∙ drop_at q.samples (samples_in qs ++ rest) n (sym same.count) in
      let here : p.bytes ≡ q.bytes = same.bytes samples in
      elim (compared (number + 1) (first + n) ps qs left rest others a.2 (rw same.count b.2) h.1 k.1) [
        | inl f ↦ inl (f.0, ((λ i. sym here i ∷ f.1.0 i), f.1.1))
        | inr f ↦ inr (f.0, ((λ i. here i ∷ f.1.0 i), f.1.1))
      ]

  either : (records others : List (List ℕ)) (left rest : List ℤ) → PacksUpTo s o records left
      → PacksUpTo s o others rest → Begin records others left ⊎ Begin others records rest
  either records others left rest h k =
      rw (h.bytes, k.bytes) at (compared 0 0 h.pieces k.pieces left rest (h.joined ∙ sym k.joined) h.placed k.placed
      h.each k.each)

  pub one_list : (xs ys : List (List ℕ)) → IsPacking s o xs → IsPacking s o ys → xs ≡ ys
  one_list xs ys h k = elim (either xs ys [] [] h k) [
    | inl f ↦ sym (all_of xs ys f)
    | inr f ↦ all_of ys xs f
  ]

  -- what is packed of the series so far is a prefix of all
  pub one_prefix : (prefix records : List (List ℕ)) (left : List ℤ) → PacksUpTo s o prefix left
      → IsPacking s o records → (rest : List (List ℕ)) × (records ≡ prefix ++ rest)
  one_prefix prefix records left h k = elim (either prefix records left [] h k) [
    | inl f ↦ (f.0, f.1.0)
    | inr f ↦ ([], sym (append-nil prefix ∙ all_of records prefix f))
  ]

  pub either_prefix : (records others : List (List ℕ)) (left rest : List ℤ) → PacksUpTo s o records left
      → PacksUpTo s o others rest → ArePrefixes records others
  either_prefix records others left rest h k = elim (either records others left rest h k) [
    | inl f ↦ inl (f.0, f.1.0)
    | inr f ↦ inr (f.0, f.1.0)
  ]
