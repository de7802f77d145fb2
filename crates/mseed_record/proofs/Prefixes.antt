-- What is read from within a prefix of bytes is read alike of any bytes that begin with it.
use Rattle.std.proofs.Common.{◌≡◌, ℕ, ◌+◌, ◌<◌, ◌≤◌, ◌++◌, List, [], ◌∷◌, length, take, get_or, refl, sym, arith, lit<}
use Rattle.std.proofs.Common.{zero, suc}
use Rattle.std.proofs.lemmas.List.{get_or-take, take-take}
use Rattle.std.proofs.Math.Seq.{take-append_seam}
use Rattle.byteorder.specs.Numbers.{big_from-take, little_from-take}
use Rattle.mseed_time.specs.declared.order.Order.{Order}
use Rattle.mseed_time.specs.declared.order.Order.TheVariants.{Big, Little}
use Rattle.mseed_time.specs.Fields.{number_at}
use Rattle.mseed_record.specs.Header.{has_fixed_bytes}
use Rattle.mseed_record.specs.Order.{is_dated, order_of}
use Rattle.mseed_record.specs.Scan.{is_version3}

-- a prefix and its first k bytes spell the same
pub number_prefix : (order : Order) (b : List ℕ) (o k : ℕ) → o + 2 ≤ k
    → number_at order 2 o (take k b) ≡ number_at order 2 o b
number_prefix Big b o k h = big_from-take o 2 k b h
number_prefix Little b o k h = little_from-take o 2 k b h

pub fixed_prefix : (b : List ℕ) (k : ℕ) → 48 ≤ k → has_fixed_bytes (take k b) ≡ has_fixed_bytes b
fixed_prefix b k h =
    rw (take-take 6 k b (omega arith), get_or-take k b 6 0 (omega arith), get_or-take k b 7 0 (omega arith)) refl

dated_prefix : (order : Order) (b : List ℕ) (k : ℕ) → 48 ≤ k → is_dated order (take k b) ≡ is_dated order b
dated_prefix order b k h =
    rw (number_prefix order b 20 k (omega arith), number_prefix order b 22 k (omega arith)) refl

pub order_prefix : (b : List ℕ) (k : ℕ) → 48 ≤ k → order_of (take k b) ≡ order_of b
order_prefix b k h = rw (dated_prefix Big b k h, dated_prefix Little b k h) refl

-- lists of bytes
abbrev pub Octets : List ℕ → Type 0
Octets b = (i : ℕ) → get_or b i 0 < 256

pub octets_prefix : (k : ℕ) (b : List ℕ) → Octets b → Octets (take k b)
octets_prefix zero b octets i = lit< tt
octets_prefix (suc k) [] octets i = lit< tt
octets_prefix (suc k) (x ∷ xs) octets zero = octets 0
octets_prefix (suc k) (x ∷ xs) octets (suc i) = octets_prefix k xs (λ j. octets (suc j)) i

-- what a header says stays where bytes follow it
pub number_more : (order : Order) (prefix more : List ℕ) (o : ℕ) → o + 2 ≤ length prefix
    → number_at order 2 o (prefix ++ more) ≡ number_at order 2 o prefix
number_more order prefix more o h =
    sym (rw (take-append_seam prefix more) at (number_prefix order (prefix ++ more) o (length prefix) h))

pub fixed_more : (prefix more : List ℕ) → 48 ≤ length prefix
    → has_fixed_bytes (prefix ++ more) ≡ has_fixed_bytes prefix
fixed_more prefix more h =
    sym (rw (take-append_seam prefix more) at (fixed_prefix (prefix ++ more) (length prefix) h))

pub order_more : (prefix more : List ℕ) → 48 ≤ length prefix → order_of (prefix ++ more) ≡ order_of prefix
order_more prefix more h =
    sym (rw (take-append_seam prefix more) at (order_prefix (prefix ++ more) (length prefix) h))

pub version3_more : (prefix more : List ℕ) → 3 ≤ length prefix → is_version3 (prefix ++ more) ≡ is_version3 prefix
version3_more [] more h = absurd (omega arith)
version3_more (a ∷ []) more h = absurd (omega arith)
version3_more (a ∷ b ∷ []) more h = absurd (omega arith)
version3_more (a ∷ b ∷ c ∷ rest) more h = refl
