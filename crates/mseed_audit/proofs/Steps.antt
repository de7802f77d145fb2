-- A further record, added to what is kept of the channels.
use Rattle.std.proofs.Common.{◌≡◌, ◌∙◌, ◌<◌, ◌+◌, ◌∷◌, ◌++◌, [], ℕ, List, Option, Some, None, false, cond, Bool, refl}
use Rattle.std.proofs.Common.{◌≤◌, sym, ap, arith, inl, inr}
use Rattle.std.proofs.lemmas.Bool.{cases_Bool}
use Rattle.std.proofs.lemmas.List.{map-append}
use Rattle.std.proofs.lemmas.List.Elements.{All-push}
use Rattle.std.proofs.lemmas.Map.{lookup-set_value}
use Rattle.std.proofs.lemmas.Map.Views.{All-values-set_value, IfSome-lookup_from_All}
use Rattle.std.specs.List.{slice_get}
use Rattle.std.specs.Map.{lookup, set_value, values_of}
use Rattle.std.specs.Option.{option_map}
use Rattle.mseed_record.specs.Header.{key_at}
use Rattle.mseed_steim.specs.Reading.{count_of}
use Rattle.mseed_audit.specs.declared.channel.Channel.{Channel}
use Rattle.mseed_audit.specs.declared.finding.Why.{Why}
use Rattle.mseed_audit.specs.Audit.{Stands, StandsAt}
use Rattle.mseed_audit.specs.Channels.{Placed, is_of_channel, same_key}
use Rattle.mseed_audit.specs.Judging.{IsFound}
use Rattle.mseed_audit.specs.Places.{place_of, with_channel}
use Rattle.mseed_audit.specs.Reported.{last_of}
use Rattle.mseed_audit.specs.private.ChannelState.{AddsTo, AreBounded, IsBounded, TakesIn}
use Rattle.mseed_audit.proofs.Maps.{keys_alike, of_some, same_back, same_is}
use Rattle.mseed_audit.proofs.Rosters.{Entries, found_at, kept_more, with_is}

-- how high the counts of channels are
pub within_more : (m n : ℕ) (c : Channel) → m ≤ n → IsBounded m c → IsBounded n c
within_more m n c le h = record { records = omega (arith, h.records, le); samples = h.samples; found = h.found }

pub all_within_more : (m n : ℕ) (es : List (List ℕ × Channel)) → m ≤ n → AreBounded m es → AreBounded n es
all_within_more m n es le all = λ k d lt. within_more m n _ le (all k d lt)

-- a silent one
pub adds_silent : (es : Entries) (p : Placed) → count_of p.view ≡ 0 → AddsTo es es p None
adds_silent es p silent = record {
  stands = λ key ps s. let other : is_of_channel key p.view ≡ false = grind arith in rw other s;
  found = λ ps s. record { silent = λ e. refl; judged = λ some. absurd (omega (arith, silent, some)) };
  bounded = λ n all. all_within_more n (n + 1) es (omega arith) all;
}

-- its channel becomes another, and the others stay as they were
adds_at : (old new : Entries) (code : List ℕ) (p : Placed) (why : Option Why) (c : Channel)
    → code ≡ key_at p.view.bytes → 0 < count_of p.view
    → ((key : List ℕ) → lookup (same_key key) new ≡ cond (same_key code key) (Some c) (lookup (same_key key) old))
    → ((ps : List Placed) → StandsAt (lookup (same_key code) old) ps
    → Stands c (ps ++ p ∷ []) × IsFound (last_of None ps) p.view why)
    → ((n : ℕ) → AreBounded n old → AreBounded (n + 1) new) → AddsTo old new p why
adds_at old new code p why c at some kept takes bounded = record {
  stands = λ key ps s.
      let of : is_of_channel key p.view ≡ same_key code key = of_some key p.view some ∙ ap (same_key key) (sym at)
      ∙ same_back key code in elim (cases_Bool (same_key code key)) [
        | inl e ↦ rw (kept key, of, e) (takes ps (rw (same_is code key e) s)).0
        | inr e ↦ rw (kept key, of, e) s
      ];
  found = λ ps s. record {
    silent = λ e. absurd (omega (arith, some, e));
    judged = λ _. (takes ps (rw (← at) at s)).1;
  };
  bounded = bounded;
}

-- this channel stands there, among channels that are those of the roster
pub record IsThere (code : List ℕ) (es old : Entries) (i : ℕ) (c : Channel) : Type 0 where
  pub same : es ≡ old
  pub place : place_of (same_key code) es ≡ Some i
  pub at : option_map (λ (e : List ℕ × Channel). e.1) (slice_get es i) ≡ Some c

pub is_there : (code : List ℕ) (es now old : Entries) (i : ℕ) (c : Channel) → es ≡ now → now ≡ old
    → Some i ≡ place_of (same_key code) now
    → option_map (λ (e : List ℕ × Channel). e.1) (slice_get es i) ≡ Some c → IsThere code es old i c
is_there code es now old i c stays are place at =
    record { same = stays ∙ are; place = rw stays (sym place); at = at }

module _ {code : List ℕ} {es old : Entries} {i : ℕ} {c : Channel} (there : IsThere code es old i c) where
  -- the channel is kept at its key
  kept : lookup (same_key code) es ≡ Some c
  kept = found_at (same_key code) es i c there.place there.at

  pub there_bounded : (n : ℕ) → AreBounded n old → IsBounded n c
  there_bounded n all = rw kept at
      (IfSome-lookup_from_All (λ (d : Channel). IsBounded n d) (same_key code) es (rw there.same all))

  -- it takes the record in
  pub there_adds : (next : Channel) (p : Placed) (why : Option Why) → code ≡ key_at p.view.bytes → 0 < count_of p.view
      → TakesIn c next p why → ((n : ℕ) → IsBounded n c → IsBounded (n + 1) next)
      → AddsTo old (with_channel es i next) p why
  there_adds next p why at some takes counted =
      rw (← there.same, with_is (same_key code) es i next there.place)
      (adds_at es (set_value (same_key code) es next) code p why next at some
      (λ key. lookup-set_value keys_alike (same_key code)
      (λ x y e. ap (λ (k : List ℕ). same_key k y) (same_is code x e)) key next es (rw kept refl))
      (λ ps s. let stands = rw kept at s in (takes.stands ps stands, takes.found ps stands))
      (λ n all. All-values-set_value (same_key code) (λ (d : Channel). IsBounded (n + 1) d) es next
      (all_within_more n (n + 1) es (omega arith) all) (counted n (there_bounded n (rw there.same at all)))))

-- a new channel begins with it
pub new_adds : (old new : Entries) (code : List ℕ) (c : Channel) (p : Placed) (why : Option Why)
    → new ≡ old ++ (code, c) ∷ [] → lookup (same_key code) old ≡ None → code ≡ key_at p.view.bytes
    → 0 < count_of p.view → Stands c (p ∷ []) → IsFound None p.view why → IsBounded 1 c → AddsTo old new p why
new_adds old new code c p why is none at some stands found one =
    rw is (adds_at old (old ++ (code, c) ∷ []) code p why c at some
    (λ key. kept_more old code c none key
    ∙ ap (λ (b : Bool). cond b (Some c) (lookup (same_key key) old)) (same_back key code))
    (λ ps s. let empty : ps ≡ [] = rw none at s in rw empty (stands, found))
    (λ n all. rw map-append (All-push (λ (d : Channel). IsBounded (n + 1) d) (values_of old) c
    (all_within_more n (n + 1) old (omega arith) all) (within_more 1 (n + 1) c (omega arith) one))))
