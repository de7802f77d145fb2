-- Bytes that begin with a written header are a record, and its fields read back.
use Rattle.std.proofs.Common.{◌≡◌, ℕ, ◌/◌, ◌%◌, ◌^◌, ◌<◌, ◌≤◌, ◌==◌, ◌&&◌, Bool, true, false, List, [], ◌∷◌}
use Rattle.std.proofs.Common.{◌++◌, length, take, drop, get_or, refl, sym, ap, subst, ◌∙◌, arith, lit≤, ℤ, pos}
use Rattle.std.proofs.Common.{zero, suc, negsuc, ◌+ℤ◌, FitsSigned, w8, w16}
use Rattle.std.proofs.lemmas.List.{take-append-drop}
use Rattle.std.proofs.lemmas.Bool.Decides.{nat_tests}
use Rattle.std.proofs.lemmas.Int.{ints}
use Rattle.std.proofs.Math.IntN.{+ℤ_idr}
use Rattle.std.proofs.Math.Pow.{pow_mono}
use Rattle.std.specs.List.{list_all}
use Rattle.std.specs.Int.{cast_unsigned, byte_at, bit_at}
use Rattle.byteorder.specs.Endian.{twos_complement, big_bytes}
use Rattle.mseed_time.specs.Text.{padded_decimal}
use Rattle.mseed_time.specs.declared.order.Order.TheVariants.{Big}
use Rattle.mseed_time.specs.Fields.{number_at}
use Rattle.mseed_time.specs.Btime.{Parts, IsTime, parts_at, microsecond_of, instant_of, is_within}
use Rattle.mseed_record.specs.Header.{is_sequence_byte, time_at}
use Rattle.mseed_record.specs.Record.{IsRecordBy}
use Rattle.mseed_record.specs.View.{IsViewBy}
use Rattle.mseed_record.specs.Written.{Header, header_bytes, name_bytes, time_bytes, IsWritable, IsHeaded, ReadsBack}
use Rattle.mseed_record.specs.Written.{headed_view}
use Rattle.mseed_record.proofs.Bytes.{bytes_from}
use Rattle.mseed_record.proofs.Puts.{each_byte}

key_bytes : (ks : List ℕ) → length ks ≡ 12 → ks ≡ bytes_from ks 0 12
key_bytes ks h = sym (each_byte ks 12 h)

-- the 64 bytes, one by one
abbrev spelled : Header → List ℕ
spelled h = header_bytes (record h { key = bytes_from h.key 0 12 })

begun : (h : Header) (b : List ℕ) → IsWritable h → IsHeaded h b → b ≡ spelled h ++ drop 64 b
begun h b w e =
    let begins : take 64 b ≡ spelled h =
    e.begins ∙ ap (λ (ks : List ℕ). header_bytes (record h { key = ks })) (key_bytes h.key w.key) in
    sym (take-append-drop 64 b) ∙ ap (λ (prefix : List ℕ). prefix ++ drop 64 b) begins

-- the bytes before the start are twenty
pub length-name_bytes : (h : Header) → length h.key ≡ 12 → length (name_bytes h) ≡ 20
length-name_bytes h w =
    ap (λ (ks : List ℕ). length (name_bytes (record h { key = ks }))) (key_bytes h.key w)

-- a number's two bytes spell it
two_bytes : (x : ℕ) → x < 2 ^ 16 → number_at Big 2 0 (big_bytes 2 x) ≡ x
two_bytes x h = omega arith

-- two bytes are those of the number that they spell
bytes_of_two : (x y : ℕ) → x < 256 → y < 256 → big_bytes 2 (number_at Big 2 0 (x ∷ y ∷ [])) ≡ x ∷ y ∷ []
bytes_of_two x y a b =
    let high : byte_at 1 (number_at Big 2 0 (x ∷ y ∷ [])) ≡ x = omega arith in
    let low : byte_at 0 (number_at Big 2 0 (x ∷ y ∷ [])) ≡ y = omega arith in
    cc

-- a signed number's bytes as two's complement are its own
complement_16 : (z : ℤ) → FitsSigned w16 z
    → twos_complement 2 (number_at Big 2 0 (big_bytes 2 (cast_unsigned w16 z))) ≡ z
complement_16 (pos n) f = let fits = f.sfits in grind (arith, nat_tests, ints)
complement_16 (negsuc n) f = let fits = f.sfits in grind (arith, nat_tests, ints)

complement_8 : (z : ℤ) → FitsSigned w8 z → twos_complement 1 (cast_unsigned w8 z) ≡ z
complement_8 (pos n) f = let fits = f.sfits in grind (arith, nat_tests, ints)
complement_8 (negsuc n) f = let fits = f.sfits in grind (arith, nat_tests, ints)

-- the digits of a number may stand in a sequence number
are_digits : (n x : ℕ) → list_all is_sequence_byte (padded_decimal n x) ≡ true
are_digits zero x = refl
are_digits (suc n) x =
    let digit : x / 10 ^ n % 10 < 10 = omega arith in
    grind (arith, nat_tests, are_digits n x)

is_dated : (t : Parts) → IsTime t → (is_within 1900 2100 t.year && is_within 1 366 t.day) ≡ true
is_dated t h = grind (arith, nat_tests, h)

day_small : (t : Parts) → IsTime t → t.day < 2 ^ 16
day_small t h = grind (arith, nat_tests, h)

no_shift : (t : Parts) (is_applied : Bool) (u : ℤ) → instant_of t (pos 0) is_applied u ≡ microsecond_of t +ℤ u
no_shift t true u = ap (λ (n : ℤ). n +ℤ u) (+ℤ_idr (microsecond_of t))
no_shift t false u = ap (λ (n : ℤ). n +ℤ u) (+ℤ_idr (microsecond_of t))

module _ (h : Header) (rest : List ℕ) (w : IsWritable h) (e : IsHeaded h (spelled h ++ rest)) where
  abbrev all_bytes : List ℕ
  all_bytes = spelled h ++ rest

  long_enough : 128 ≤ length all_bytes
  long_enough = rw e.size (pow_mono {i = 7} {j = h.exponent} e.exponent_low)

  is_record_by : IsRecordBy Big [] 48 all_bytes
  is_record_by =
      let year = two_bytes h.start.year (omega (arith, w.time)) in
      let day = two_bytes h.start.day (day_small h.start w.time) in
      record {
        octets = e.octets;
        fixed = ap (λ (v : Bool). v && true && true) (are_digits 6 h.sequence);
        order_is = rw (year, day, is_dated h.start w.time) refl;
        chain = record { low = lit≤ tt; others = refl; found = refl };
        exponent_low = e.exponent_low;
        exponent_high = e.exponent_high;
        inside = omega (arith, e.size, long_enough);
        size = e.size;
      }

  is_view_by : IsViewBy [] 48 (56 ∷ []) (headed_view h all_bytes)
  is_view_by = record {
    record_is = is_record_by;
    chain_is = record { chain = is_record_by.chain; others = (grind (arith, nat_tests, long_enough), refl, refl) };
    encoding_is = refl;
    payload_order_is = refl;
    microseconds_is = sym (complement_8 h.microseconds w.microseconds);
    rate_blockette_is = refl;
  }

  time_is : time_at Big all_bytes ≡ h.start
  time_is = λ i. record {
    year = two_bytes h.start.year (omega (arith, w.time)) i;
    day = two_bytes h.start.day (day_small h.start w.time) i;
    hour = h.start.hour;
    minute = h.start.minute;
    second = h.start.second;
    fraction = two_bytes h.start.fraction (omega (arith, w.time)) i;
  }

  spelled_back : ReadsBack h all_bytes
  spelled_back = record {
    is_record = (Big, ([], (48, is_record_by)));
    is_view = ([], (48, (56 ∷ [], is_view_by)));
    key = sym (key_bytes h.key w.key);
    time = time_is;
    start = no_shift (time_at Big all_bytes) (bit_at h.activity 1 == 1) h.microseconds
        ∙ ap (λ (t : Parts). microsecond_of t +ℤ h.microseconds) time_is;
    samples = two_bytes h.samples w.samples;
    factor = complement_16 h.factor w.factor;
    multiplier = complement_16 h.multiplier w.multiplier;
    activity = refl;
    has_payload = record { after_header = lit≤ tt; within = omega (arith, long_enough) };
    payload = refl;
  }

pub reads_back : (h : Header) (b : List ℕ) → IsWritable h → IsHeaded h b → ReadsBack h b
reads_back h b w e =
    let is = begun h b w e in
    subst (λ (xs : List ℕ). ReadsBack h xs) (sym is)
    (spelled_back h (drop 64 b) w (subst (λ (xs : List ℕ). IsHeaded h xs) is e))

-- what BTIME's ten bytes say is what they spell
pub time_written : (t : Parts) (bytes : List ℕ) → length bytes ≡ 10 → ((i : ℕ) → get_or bytes i 0 < 256)
    → parts_at Big 0 bytes ≡ t → get_or bytes 7 0 ≡ 0 → bytes ≡ time_bytes t
time_written t bytes size octets parts unused =
    let year = bytes_of_two (get_or bytes 0 0) (get_or bytes 1 0) (octets 0) (octets 1) in
    let day = bytes_of_two (get_or bytes 2 0) (get_or bytes 3 0) (octets 2) (octets 3) in
    let fraction = bytes_of_two (get_or bytes 8 0) (get_or bytes 9 0) (octets 8) (octets 9) in
    subst (λ (p : Parts). bytes ≡ time_bytes p) parts (sym (each_byte bytes 10 size) ∙ cc)
