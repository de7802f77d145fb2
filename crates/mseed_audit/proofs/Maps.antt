-- Maps by the bytes of their keys, and records by theirs.
use Rattle.std.proofs.Common.{◌≡◌, ◌∙◌, ◌<◌, ℕ, List, true, sym, arith}
use Rattle.std.specs.Ordering.{nat_cmp, eq_by_cmp}
use Rattle.std.specs.Cmp.{Equal-is, IsEquivalence}
use Rattle.std.specs.Cmp.Lexicographic.{slice_cmp}
use Rattle.std.proofs.lemmas.Cmp.{eq_by_cmp_equiv, nat_list_cmp_total}
use Rattle.std.proofs.lemmas.Map.Lookups.{exact_bytes}
use Rattle.std.proofs.lemmas.Bool.Decides.{nat_tests}
use Rattle.mseed_record.specs.Header.{key_at}
use Rattle.mseed_record.specs.View.{View}
use Rattle.mseed_steim.specs.Reading.{count_of}
use Rattle.mseed_audit.specs.Channels.{is_of_channel, same_key}

pub keys_alike : IsEquivalence (eq_by_cmp (slice_cmp nat_cmp))
keys_alike = eq_by_cmp_equiv nat_list_cmp_total

pub same_back : (key other : List ℕ) → same_key key other ≡ same_key other key
same_back key other = keys_alike.symm key other

pub same_itself : (key : List ℕ) → same_key key key ≡ true
same_itself key = keys_alike.refl key

-- keys that compare equal are equal
pub same_is : (key other : List ℕ) → same_key key other ≡ true → key ≡ other
same_is key other e = exact_bytes key other ((Equal-is (slice_cmp nat_cmp key other)).0 e)

-- a record with samples is of its channel alone
pub of_some : (key : List ℕ) (v : View) → 0 < count_of v → is_of_channel key v ≡ same_key key (key_at v.bytes)
of_some key v some = grind (arith, nat_tests)

pub samples_of : (key : List ℕ) (v : View) → is_of_channel key v ≡ true → 0 < count_of v
samples_of key v e = grind (arith, nat_tests)

-- a record of a channel has its key
pub key_of : (key : List ℕ) (v : View) → is_of_channel key v ≡ true → same_key key (key_at v.bytes) ≡ true
key_of key v e = sym (of_some key v (samples_of key v e)) ∙ e
