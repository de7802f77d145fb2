-- Tries, one after another, and the pauses between them.
use Rattle.std.proofs.Common.{◌≡◌, ℕ, ◌+◌, ◌≤◌, inl, inr, refl, sym, ap, ◌∙◌, arith, Bool, true, false, List}
use Rattle.std.proofs.Common.{[], ◌∷◌, ◌++◌, append_assoc, append-nil, length, length-append}
use Rattle.std.proofs.lemmas.Bool.{false≢true}
use Rattle.mseed_stream.specs.Device.{BytesWritten}
use Rattle.mseed_stream.specs.Exchanges.{Exchange}
use Rattle.slink_feed.specs.Delivered.{Numbered}
use Rattle.slink_feed.specs.Dialogue.{Wants}
use Rattle.slink_feed.specs.Fetching.{Notes}
use Rattle.slink_feed.specs.Listening.{Listening}
use Rattle.slink_feed.specs.Reported.{AreOf, bytes_in, records_reported}
use Rattle.slink_feed.specs.Turns.{Emitted}
use Rattle.slink_feed.proofs.ReportedOver.{reported_link}
use Rattle.slink_links.specs.declared.fetching.FetchEnd.{FetchEnd}
use Rattle.slink_links.specs.declared.fetching.FetchEnd.TheVariants.{LinkFailed}
use Rattle.slink_links.specs.Fetched.{Calls, HasBrought, HasFetched, HasPaused, HasReadEach, HasReadLinks, HasTried}
use Rattle.slink_links.specs.Fetched.{HaveFailed, IsTry, WasFetchedOver, dialled, none, one_more, output_failures}
use Rattle.slink_links.specs.Fetched.{over_none, over_the_last, tried, undialled}
use Rattle.slink_links.specs.Pauses.{pause_after, pauses_from, pauses_since}
use Rattle.slink_links.proofs.Fetches.{links_both}
use Rattle.slink_feed.proofs.Reporting.{all_taken}

-- after how many pauses the next one comes
abbrev pub after_after : ℕ → List Bool → ℕ
after_after n [] = n
after_after n (received ∷ tries) = after_after (pauses_since received n + 1) tries

pauses_more : (n : ℕ) (tries : List Bool) (received : Bool) → pauses_from n (tries ++ received ∷ [])
    ≡ pauses_from n tries ++ pause_after (pauses_since received (after_after n tries)) ∷ []
pauses_more n [] received = refl
pauses_more n (t ∷ ts) received =
    ap (λ ps. pause_after (pauses_since t n) ∷ ps) (pauses_more (pauses_since t n + 1) ts received)

after_more : (n : ℕ) (tries : List Bool) (received : Bool) → after_after n (tries ++ received ∷ [])
    ≡ pauses_since received (after_after n tries) + 1
after_more n [] received = refl
after_more n (t ∷ ts) received = after_more (pauses_since t n + 1) ts received

pub after_most : (n : ℕ) (tries : List Bool) → after_after n tries ≤ n + length tries
after_most n [] = omega arith
after_most n (true ∷ ts) = omega (arith, after_most 1 ts)
after_most n (false ∷ ts) = omega (arith, after_most (n + 1) ts)

-- Whether a link brought a record shows in what the output accepted.
brought_of : (received : Bool) (rs : List Numbered) (wants : Wants) (a b : BytesWritten) → Emitted a b (bytes_in rs)
    → Notes false received a b → b.failures ≡ a.failures → AreOf wants rs → HasBrought received rs
brought_of false [] wants a b emitted notes fine of = refl
brought_of true [] wants a b emitted notes fine of = absurd (elim (notes.yes refl) [
  | inl was ↦ false≢true was
  | inr grown ↦ omega (arith, grown, ap length emitted.bytes, length-append a.bytes [])
])
brought_of true (r ∷ rs) wants a b emitted notes fine of = refl
brought_of false (r ∷ rs) wants a b emitted notes fine of =
    absurd (omega (
      arith,
      ap length (notes.none refl fine),
      ap length emitted.bytes,
      length-append a.bytes (r.bytes ++ bytes_in rs),
      length-append r.bytes (bytes_in rs),
      of.0,
    ))

brought_by : (end : FetchEnd) (received : Bool) (old new : Listening) (link : Exchange) (a b : BytesWritten)
    (over : WasFetchedOver end old new link a b) → b.failures ≡ a.failures → Notes false received a b
    → HasBrought received (records_reported over.read.reported)
brought_by end received old new link a b over fine notes =
    brought_of received (records_reported over.read.reported) over.read.begun.talk.wants a b
    (all_taken (records_reported over.read.reported) a b over.read.emitted fine) notes fine
    (reported_link over.read.begun.talk over.read.bytes over.read.reported new over.read.reads).are_of

-- a try over a link that was had
pub tried_over : (end : FetchEnd) (received : Bool) (old new : Listening) (link : Exchange)
    (before after : List Exchange) (a b : BytesWritten) → WasFetchedOver end old new link a b
    → HasFetched end old new a b
    → Notes false received a b → after ≡ before ++ link ∷ [] → HasTried end received old new before after a b
tried_over end received old new link before after a b over fetched notes given = record {
  links = link ∷ [];
  given_back = given;
  tried = dialled link over (λ is. brought_by end received old new link a b over
      (fetched.failures ∙ (ap (λ e. a.failures + output_failures e) is ∙ omega arith)) notes);
}

-- the tries so far, after each of which was paused
pub record AreTried (old now : Listening) (a b : BytesWritten) (before after : Calls) (count : ℕ) : Type 0 where
  pub tries : List Bool
  pub links : List Exchange
  pub failed : HaveFailed tries old now links a b
  pub dials : after.dials ≡ before.dials + length tries
  pub given_back : after.given_back ≡ before.given_back ++ links
  pub called : after.called ≡ before.called ++ pauses_from 0 tries
  pub counted : count ≡ after_after 0 tries

pub nothing_tried : (now : Listening) (written : BytesWritten) (calls : Calls)
    → AreTried now now written written calls calls 0
nothing_tried now written calls = record {
  tries = [];
  links = [];
  failed = none now written;
  dials = omega arith;
  given_back = sym (append-nil calls.given_back);
  called = sym (append-nil calls.called);
  counted = refl;
}

-- The links of a try were fetched over, and so were those of tries that failed.
links_tried : (end : FetchEnd) (received : Bool) (old new : Listening) (links : List Exchange) (a b : BytesWritten)
    → IsTry end received old new a b links → HasReadLinks end old new links a b
links_tried end received old new _ a b (undialled is quiet same kept) = rw (is, same, kept) (over_none old a)
links_tried end received old new _ a b (dialled link over brought) = over_the_last end old new link a b over

links_failed : (tries : List Bool) (old now : Listening) (links : List Exchange) (a b : BytesWritten)
    → HaveFailed tries old now links a b → HasReadLinks LinkFailed old now links a b
links_failed _ _ _ _ _ _ (none now written) = over_none now written
links_failed _ _ _ _ _ _ (one_more tries received old now new links others a b c before last) =
    links_both LinkFailed old now new links others a b c (links_failed tries old now links a b before)
    (links_tried LinkFailed received now new others b c last)

pub reads_tried : (end : FetchEnd) (received : Bool) (old now new : Listening) (a b c : BytesWritten)
    (before mid : Calls) (after : List Exchange) (count : ℕ) → AreTried old now a b before mid count
    → HasTried end received now new mid.given_back after b c → HasReadEach end old new before.given_back after a c
reads_tried end received old now new a b c before mid after count p q = record {
  links = p.links ++ q.links;
  given_back = rw (q.given_back, p.given_back, append_assoc);
  read = links_both end old now new p.links q.links a b c (links_failed p.tries old now p.links a b p.failed)
      (links_tried end received now new q.links b c q.tried);
}

pub tried_more : (received : Bool) (old now new : Listening) (a b c : BytesWritten) (before mid after : Calls)
    (count next : ℕ) → AreTried old now a b before mid count
    → HasTried LinkFailed received now new mid.given_back after.given_back b c → after.dials ≡ mid.dials + 1
    → after.called ≡ mid.called ++ pause_after (pauses_since received count) ∷ []
    → next ≡ pauses_since received count + 1 → AreTried old new a c before after next
tried_more received old now new a b c before mid after count next p q dials called is = record {
  tries = p.tries ++ received ∷ [];
  links = p.links ++ q.links;
  failed = one_more p.tries received old now new p.links q.links a b c p.failed q.tried;
  dials = omega (arith, dials, p.dials, length-append p.tries (received ∷ []));
  given_back = rw (q.given_back, p.given_back, append_assoc);
  called = rw (called, p.called, p.counted, pauses_more 0 p.tries received) (simp append_assoc);
  counted = rw (is, p.counted, after_more 0 p.tries received);
}

pub tried_last : (end : FetchEnd) (received : Bool) (old now new : Listening) (a b c : BytesWritten)
    (before mid after : Calls) (count : ℕ) → AreTried old now a b before mid count
    → HasTried end received now new mid.given_back after.given_back b c → after.dials ≡ mid.dials + 1
    → after.called ≡ mid.called → HasPaused end old new a c before after
tried_last end received old now new a b c before mid after count p q dials called =
    tried p.tries received now b p.links q.links p.failed q.tried
    (omega (arith, dials, p.dials)) (rw (q.given_back, p.given_back, append_assoc)) (called ∙ p.called)
