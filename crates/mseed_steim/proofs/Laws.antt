-- A record has one reading at most, or one fault.
use Rattle.std.proofs.Common.{◌≡◌, ◌≢◌, ℕ, ◌+◌, ◌-◌, ◌*◌, ◌/◌, ◌<◌, ◌≤◌, List, [], ◌∷◌, ◌++◌, length, ℤ, arith, refl}
use Rattle.std.proofs.lemmas.Bool.Decides.{nat_tests}
use Rattle.std.proofs.Common.{ap, sym, ◌∙◌, subst, slice_get, true, false, Some, Result, Ok, Err, IsOk, IsOkAnd, IfOk}
use Rattle.std.proofs.Common.{IfErr, MatchResult, inl, inr, ◌↔◌, All}
use Rattle.std.proofs.Math.Nat.{mul-suc}
use Rattle.mseed_time.specs.declared.order.Order.{Order}
use Rattle.mseed_time.specs.declared.order.Order.TheVariants.{Big, Little}
use Rattle.mseed_record.specs.View.{View, HasPayload, payload_of}
use Rattle.mseed_steim.specs.declared.scheme.Scheme.{Scheme}
use Rattle.mseed_steim.specs.declared.form.Width.{Width}
use Rattle.mseed_steim.specs.declared.form.Width.TheVariants.{Two, Four}
use Rattle.mseed_steim.specs.declared.form.Form.{Form}
use Rattle.mseed_steim.specs.declared.form.Form.TheVariants.{Integers, Frames}
use Rattle.mseed_steim.specs.declared.fault.ReadFault.{ReadFault}
use Rattle.mseed_steim.specs.declared.fault.ReadFault.TheVariants.{LittleSteim}
use Rattle.mseed_steim.specs.declared.fault.ReadFault.TheVariants.{LastDiffers, Memory}
use Rattle.mseed_steim.specs.Frames.{last_constant}
use Rattle.mseed_steim.specs.Samples.{bytes_of, form_of, BeginsWith, IsPayloadReading, EndsOnConstant, IsPayloadFault}
use Rattle.mseed_steim.specs.Samples.{IsSample}
use Rattle.mseed_steim.specs.Samples.{AnswersPayload}
use Rattle.mseed_steim.specs.Reading.{count_of, IsReading, EndsOnConstants, HasOneReading, IsReadable, IsFault}
use Rattle.mseed_steim.specs.Reading.{blockette_100, encoding, little_steim, data_offset, in_payload, Denies, HoldsIn}
use Rattle.mseed_steim.specs.Reading.{AnswersRecord, is_little_steim, IsWhole, IsRefusal}
use Rattle.mseed_steim.proofs.Words.{residue_one}
use Rattle.mseed_steim.proofs.Runs.{Reason, differs, fault_one, lacks, not_ending, not_in, over, reason, sums_one}
use Rattle.mseed_steim.proofs.Ended.{get_pushed}

begins_one : (order : Order) (w : ℕ) (p : List ℕ) (place : ℕ) (ss ts : List ℤ) → 0 < w → length ss ≡ length ts
    → BeginsWith order w p place ss → BeginsWith order w p place ts → ss ≡ ts
begins_one order w p place [] [] some l h k = refl
begins_one order w p place (s ∷ ss) (t ∷ ts) some l h k =
    grind (arith, residue_one, begins_one order w p (place + w) ss ts some (omega arith) h.3 k.3)
begins_one order w p place _ _ some l h k = absurd (omega arith)

begins_long : (order : Order) (w : ℕ) (p : List ℕ) (place : ℕ) (ss : List ℤ) → place ≤ length p
    → BeginsWith order w p place ss → place + w * length ss ≤ length p
begins_long order w p place [] within h = omega arith
begins_long order w p place (s ∷ ss) within h = grind (arith, mul-suc, begins_long order w p (place + w) ss h.0 h.3)

payload_one : (form : Form) (order : Order) (p : List ℕ) (n : ℕ) (ss ts : List ℤ) → IsPayloadReading form order p n ss
    → IsPayloadReading form order p n ts → ss ≡ ts
payload_one (Integers Two) order p n ss ts h k = begins_one order 2 p 0 ss ts (omega arith) (h.0 ∙ sym k.0) h.1 k.1
payload_one (Integers Four) order p n ss ts h k = begins_one order 4 p 0 ss ts (omega arith) (h.0 ∙ sym k.0) h.1 k.1
payload_one (Frames scheme) order p n ss ts h k = sums_one scheme p n ss ts h.1 k.1

-- A record has one reading at most.
pub reading_one : (v : View) → HasOneReading v
reading_one v ss ts a b = search (arith, payload_one)

-- integers that are there leave no fault
integers_fit : (width : Width) (order : Order) (p : List ℕ) (n : ℕ) (ss : List ℤ)
    → IsPayloadReading (Integers width) order p n ss → length p / bytes_of width < n → ⊥
integers_fit width order p n ss h less = search (arith, begins_long)

payload_fault_one : (form : Form) (p : List ℕ) (n : ℕ) (f g : ReadFault) → IsPayloadFault form p n f
    → IsPayloadFault form p n g → f ≡ g
payload_fault_one (Integers width) p n f g h k = h.1 ∙ sym k.1
payload_fault_one (Frames scheme) p n f g h k = fault_one scheme p n f g h k

not_readable : (form : Form) (order : Order) (s : Scheme) → form ≡ Frames s → order ≡ Little → IsReadable form order → ⊥
not_readable (Integers width) order s e l h = cc
not_readable (Frames scheme) order s e l h = cc

-- A record has one fault at most.
pub record_fault_one : (v : View) (f g : ReadFault) → IsFault v f → IsFault v g → f ≡ g
record_fault_one v f g (blockette_100 a) (blockette_100 b) = refl
record_fault_one v f g (blockette_100 a) (encoding b e) = cc (a, b)
record_fault_one v f g (blockette_100 a) (little_steim b s e l) = cc (a, b)
record_fault_one v f g (blockette_100 a) (data_offset b form e r p) = cc (a, b)
record_fault_one v f g (blockette_100 a) (in_payload b form e r p fault h) = cc (a, b)
record_fault_one v f g (encoding a d) (blockette_100 b) = cc (a, b)
record_fault_one v f g (encoding a d) (encoding b e) = refl
record_fault_one v f g (encoding a d) (little_steim b s e l) = cc (d, e)
record_fault_one v f g (encoding a d) (data_offset b form e r p) = cc (d, e)
record_fault_one v f g (encoding a d) (in_payload b form e r p fault h) = cc (d, e)
record_fault_one v f g (little_steim a s d l) (blockette_100 b) = cc (a, b)
record_fault_one v f g (little_steim a s d l) (encoding b e) = cc (d, e)
record_fault_one v f g (little_steim a s d l) (little_steim b t e m) = refl
record_fault_one v f g (little_steim a s d l) (data_offset b form e r p) = grind (arith, not_readable)
record_fault_one v f g (little_steim a s d l) (in_payload b form e r p fault h) = grind (arith, not_readable)
record_fault_one v f g (data_offset a form d r p) (blockette_100 b) = cc (a, b)
record_fault_one v f g (data_offset a form d r p) (encoding b e) = cc (d, e)
record_fault_one v f g (data_offset a form d r p) (little_steim b s e l) = grind (arith, not_readable)
record_fault_one v f g (data_offset a form d r p) (data_offset b form' e r' p') = refl
record_fault_one v f g (data_offset a form d r p) (in_payload b form' e r' p' fault h) = absurd (p p')
record_fault_one v f g (in_payload a form d r p fault h) (blockette_100 b) = cc (a, b)
record_fault_one v f g (in_payload a form d r p fault h) (encoding b e) = cc (d, e)
record_fault_one v f g (in_payload a form d r p fault h) (little_steim b s e l) = grind (arith, not_readable)
record_fault_one v f g (in_payload a form d r p fault h) (data_offset b form' e r' p') = absurd (p' p)
record_fault_one v f g (in_payload a form d r p fault h) (in_payload b form' e r' p' fault' h') =
    grind (arith, payload_fault_one)

-- two forms of one encoding
pub same_payload : (v : View) (form : Form) (s : List ℤ) → form_of v.encoding ≡ Some form → IsReading v s
    → IsPayloadReading form v.payload_order (payload_of v) (count_of v) s
same_payload v form s e a = search arith

-- what a fault of frames denies
last_denies : (v : View) (scheme : Scheme) (prefix : List ℤ) (last : ℤ) → 0 < count_of v → v.has_rate_blockette ≡ false
    → form_of v.encoding ≡ Some (Frames scheme) → v.payload_order ≡ Big → HasPayload v
    → IsPayloadReading (Frames scheme) v.payload_order (payload_of v) (count_of v) (prefix ++ last ∷ [])
    → last ≢ last_constant (payload_of v) → Denies v (LastDiffers last (last_constant (payload_of v)))
last_denies v scheme prefix last some a e big p h not =
    let whole : IsReading v (prefix ++ last ∷ []) = search (arith, nat_tests) in (
      prefix ++ last ∷ [],
      (
        whole,
        λ t b.
            let one : prefix ++ last ∷ [] ≡ t = reading_one v (prefix ++ last ∷ []) t whole b in (
              one,
              λ ends.
                  let end : slice_get (prefix ++ last ∷ []) (length (prefix ++ last ∷ []) - 1)
                  ≡ Some (last_constant (payload_of v)) =
                  subst (λ (xs : List ℤ). slice_get xs (length xs - 1) ≡ Some (last_constant (payload_of v)))
                  (sym one) (ends (Frames scheme) e) in
                  not (cc (end, get_pushed prefix last)),
            ),
      ),
    )

frames_deny : (v : View) (scheme : Scheme) (f : ReadFault) → 0 < count_of v → v.has_rate_blockette ≡ false
    → form_of v.encoding ≡ Some (Frames scheme) → v.payload_order ≡ Big → HasPayload v
    → Reason scheme (payload_of v) (count_of v) f → Denies v f
frames_deny v scheme f some a e big p (lacks ds [] h less) = λ s r.
    not_ending scheme (payload_of v) (count_of v) s ds [] (same_payload v (Frames scheme) s e r).1 h less
frames_deny v scheme f some a e big p (lacks ds (bad ∷ after) h less) = λ s r.
    not_ending scheme (payload_of v) (count_of v) s ds (bad ∷ after) (same_payload v (Frames scheme) s e r).1 h less
frames_deny v scheme f some a e big p (over prefix sum rest sums all not) = λ s r.
    let q = same_payload v (Frames scheme) s e r in
    not_in prefix sum rest (subst (All IsSample)
    (sums_one scheme (payload_of v) (count_of v) s (prefix ++ sum ∷ rest) q.1 sums) q.2) not
frames_deny v scheme f some a e big p (differs prefix last sums all not) =
    last_denies v scheme prefix last some a e big p (big, sums, all) not

-- What a fault says of readings.
pub fault_denies : (v : View) (f : ReadFault) → 0 < count_of v → IsFault v f → Denies v f
fault_denies v f some (blockette_100 a) = λ s r. cc (a, r.one_rate)
fault_denies v f some (encoding a d) = λ s r. cc (d, r.encoding)
fault_denies v f some (little_steim a scheme d l) = λ s r. let q = same_payload v (Frames scheme) s d r in cc (q.0, l)
fault_denies v f some (data_offset a form d readable p) = λ s r. p r.payload
fault_denies v f some (in_payload a (Integers width) d readable p fault h) =
    subst (Denies v) (sym h.1) (λ s r. integers_fit width v.payload_order (payload_of v)
    (count_of v) s (same_payload v (Integers width) s d r) h.0)
fault_denies v f some (in_payload a (Frames scheme) d readable p fault h) =
    frames_deny v scheme f some a d readable p (reason scheme (payload_of v) (count_of v) f h)

-- So a record with a fault has no reading that ends on its constants.
pub denied : (v : View) (f : ReadFault) (s : List ℤ) → Denies v f → IsReading v s → EndsOnConstants v s → ⊥
denied v (LastDiffers found constant) s h r e = (h.1.1 s r).1 e
denied v _ s h r e = h s r

-- What an answer means: there is no other reading, and no other fault.
pub answers_only : {X : Type 0} (v : View) (told : X → List ℤ → Type 0) (r : Result X ReadFault) → 0 < count_of v
    → AnswersRecord v told r → (s : List ℤ) → IsWhole v s → IsOkAnd r (λ x. told x s)
answers_only v told (Ok x) some h s w = subst (told x) (reading_one v h.0 s h.1.0.0 w.0) h.1.1
answers_only v told (Err f) some h s w = absurd (denied v f s (fault_denies v f some h) w.0 w.1)

pub answers_fault : {X : Type 0} (v : View) (told : X → List ℤ → Type 0) (r : Result X ReadFault) → 0 < count_of v
    → AnswersRecord v told r → (f : ReadFault) → (r ≡ Err f) ↔ IsFault v f
answers_fault v told (Ok x) some h f =
    ((λ e. cc), (λ q. absurd (denied v f h.0 (fault_denies v f some q) h.1.0.0 h.1.0.1)))
answers_fault v told (Err g) some h f = (
  (λ e. let same : g ≡ f = cc in subst (IsFault v) same h),
  (λ q. ap Err (record_fault_one v g f h q)),
)

pub answers_denies : {X : Type 0} (v : View) (told : X → List ℤ → Type 0) (r : Result X ReadFault) → 0 < count_of v
    → AnswersRecord v told r → IfErr r (λ f. Denies v f)
answers_denies v told (Ok x) some h = tt
answers_denies v told (Err f) some h = fault_denies v f some h

pub answers_done : {X : Type 0} (r : Result X ReadFault) (P : Type 0) → IsOkAnd r (λ x. P) → IsOk r × P
answers_done (Ok x) P h = (refl, h)
answers_done (Err f) P h = absurd h

-- a reading of the payload is one of the record, as is a fault
payload_read : (v : View) (form : Form) (p : List ℕ) (n : ℕ) (order : Order) (s : List ℤ) → 0 < count_of v
    → HoldsIn v form p → n ≡ count_of v → order ≡ v.payload_order → IsPayloadReading form order p n s
    → EndsOnConstant form p s → IsWhole v s
payload_read v form p n order s some holds count ordered read end = search arith

payload_lacks : (v : View) (form : Form) (p : List ℕ) (n : ℕ) (f : ReadFault) → HoldsIn v form p → n ≡ count_of v
    → IsPayloadFault form p n f → IsFault v f
payload_lacks v form p n f holds count h =
    in_payload holds.0 form holds.1 holds.2 holds.3 f
    (subst (λ (m : ℕ). IsPayloadFault form (payload_of v) m f) count
    (subst (λ (q : List ℕ). IsPayloadFault form q n f) holds.4 h))

-- so what a payload answers, its record does
pub payload_answers : {X : Type 0} (v : View) (form : Form) (p : List ℕ) (n : ℕ) (order : Order)
    (told more : X → List ℤ → Type 0) (r : Result X ReadFault) → 0 < count_of v → HoldsIn v form p → n ≡ count_of v
    → order ≡ v.payload_order → ((x : X) (s : List ℤ) → told x s → more x s) → AnswersPayload form order p n told r
    → AnswersRecord v more r
payload_answers v form p n order told more r some holds count ordered tells h =
    search (arith, payload_lacks, payload_read)

little_in : (v : View) (form : Form) (order : Order) → v.has_rate_blockette ≡ false → form_of v.encoding ≡ Some form
    → v.payload_order ≡ order → is_little_steim form order ≡ true → IsFault v LittleSteim
little_in v (Frames scheme) Little a e l h = little_steim a scheme e l
little_in v _ _ a e l h = cc

-- what the test of little-endian frames tells
pub little_fault : (v : View) (form : Form) → v.has_rate_blockette ≡ false → form_of v.encoding ≡ Some form
    → is_little_steim form v.payload_order ≡ true → IsFault v LittleSteim
little_fault v form a e h = little_in v form v.payload_order a e refl h

pub readable_else : (form : Form) (order : Order) → is_little_steim form order ≡ false → IsReadable form order
readable_else form order h = search arith

-- what the answer of a read means
pub read_only : {X : Type 0} (v : View) (items : X → List ℤ) (r : Result X ReadFault) → 0 < count_of v
    → IfOk r (λ x. IsWhole v (items x)) → IfErr r (λ f. IsRefusal v f) → (s : List ℤ) → IsWhole v s
    → MatchResult r (λ x. items x ≡ s) (λ f. f ≡ Memory)
read_only v items (Ok x) some whole refused s w = reading_one v (items x) s whole.0 w.0
read_only v items (Err f) some whole (inl h) s w = absurd (denied v f s (fault_denies v f some h) w.0 w.1)
read_only v items (Err f) some whole (inr h) s w = h.0

pub read_fault : {X : Type 0} (v : View) (items : X → List ℤ) (r : Result X ReadFault) → 0 < count_of v
    → IfOk r (λ x. IsWhole v (items x)) → IfErr r (λ f. IsRefusal v f) → (f : ReadFault) → IsFault v f → r ≡ Err f
read_fault v items (Ok x) some whole refused f q =
    absurd (denied v f (items x) (fault_denies v f some q) whole.0 whole.1)
read_fault v items (Err g) some whole (inl h) f q = ap Err (record_fault_one v g f h q)
read_fault v items (Err g) some whole (inr h) f q = absurd (denied v f h.1.0 (fault_denies v f some q) h.1.1.0 h.1.1.1)

pub refused_denies : (v : View) (f : ReadFault) → 0 < count_of v → IsRefusal v f → f ≢ Memory → Denies v f
refused_denies v f some (inl h) not = fault_denies v f some h
refused_denies v f some (inr h) not = absurd (not h.0)
