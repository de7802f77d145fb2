-- What a request comes to that is carried out with an input.
use Rattle.std.proofs.Common.{◌≡◌, ◌∙◌, ◌⊎◌, ℕ, IfErr, IfOk, inl, inr, List, map, Option, option_map, Ok, Err}
use Rattle.std.proofs.Common.{refl, Result, subst}
use Rattle.mseed_files.specs.Found.{Found}
use Rattle.mseed_select.specs.Selecting.{selection_of}
use Rattle.mseed_record.specs.Selection.{Selection}
use Rattle.mseed_feed.specs.Transport.{TransportState}
use Rattle.mseed_stream.specs.Device.{BytesRead, BytesWritten, nothing_read}
use Rattle.mseed_words.specs.declared.request.Command.{Command}
use Rattle.mseed_words.specs.declared.request.Fetching.{Fetching}
use Rattle.mseed_words.specs.declared.request.LiveServing.{LiveServing}
use Rattle.mseed_words.specs.declared.request.Request.{Request}
use Rattle.mseed_words.specs.declared.request.Serving.{Serving}
use Rattle.mseed_words.specs.declared.request.Request.TheVariants.{Serve, Live, Fetch}
use Rattle.mseed.specs.Asked.{IsAsked, LacksMemory}
use Rattle.mseed.specs.Effect.{HasDone, HasEffect, HasRun}
use Rattle.mseed.specs.Streams.{Streams, streams}

pub done : (found : List ℕ → Found) (words : List (List ℕ)) (r : Request) (asked : Option Selection)
    (files : List (List ℕ)) (status : ℕ) (old new : Streams) (before after : TransportState)
    → ((s : Serving) → r ≡ Serve s → ⊥) → ((l : LiveServing) → r ≡ Live l → ⊥) → ((f : Fetching) → r ≡ Fetch f → ⊥)
    → HasRun found words r asked files status old new → after ≡ before
    → HasDone found words r asked files status old new before after
done found words (Serve s) asked files status old new before after other _ _ run same = absurd (other s refl)
done found words (Live l) asked files status old new before after _ other _ run same = absurd (other l refl)
done found words (Fetch f) asked files status old new before after _ _ other run same = absurd (other f refl)
done found words r asked files status old new before after _ _ _ run same = (run, same)

-- what was written before stays as it was
pub still : (E : Type 0) (result : Result ℕ E) (a b c : BytesWritten) → b ≡ a → IfErr result (λ _. c ≡ b)
    → IfErr result (λ _. c ≡ a)
still E (Ok status) a b c before after = tt
still E (Err e) a b c before after = after ∙ before

-- what the command does that was read
abbrev Does : (List ℕ → Found) → List (List ℕ) → Command → ℕ → Streams → Streams → TransportState → TransportState
    → Type 0
Does found words command status old new before after =
    HasDone found words command.request (option_map selection_of command.selector)
    (map (λ file. file.now) command.files.items) status old new before after

-- It is the one that was asked for.
pub effect : (E : Type 0) (found : List ℕ → Found) (words : List (List ℕ)) (command : Command) (request : Request)
    (asked : Option Selection) (files : List (List ℕ)) (r : Result ℕ E) (w0 w1 e0 e1 e2 : BytesWritten)
    (before after : TransportState) → (IsAsked request asked files (Ok command) e0 e1 ⊎ LacksMemory (Ok command) e0 e1)
    → IfOk r (λ status. (read : BytesRead)
    × Does found words command status (streams nothing_read w0 e1) (streams read w1 e2) before after)
    → IfOk r (λ status. (read : BytesRead)
    × HasEffect found words request asked files status (streams nothing_read w0 e0) (streams read w1 e2) before after)
effect E found words command request asked files (Err e) w0 w1 e0 e1 e2 before after is run = tt
effect E found words command request asked files (Ok status) w0 w1 e0 e1 e2 before after (inr lacks) run =
    absurd lacks
effect E found words command request asked files (Ok status) w0 w1 e0 e1 e2 before after (inl is) run =
    let old : Streams = streams nothing_read w0 e1 in
    let new : Streams = streams run.0 w1 e2 in
    let names : List (List ℕ) = map (λ file. file.now) command.files.items in
    let a : HasDone found words request (option_map selection_of command.selector) names status old new before after =
    subst (λ (q : Request).
    HasDone found words q (option_map selection_of command.selector) names status old new before after) is.0 run.1 in
    let b : HasDone found words request asked names status old new before after =
    subst (λ (s : Option Selection). HasDone found words request s names status old new before after) is.1 a in
    let d : HasDone found words request asked files status old new before after =
    subst (λ (fs : List (List ℕ)). HasDone found words request asked fs status old new before after) is.2 b in (
      run.0,
      inl (subst (λ (e : BytesWritten).
          HasDone found words request asked files status (streams nothing_read w0 e) new before after) is.3 d),
    )
