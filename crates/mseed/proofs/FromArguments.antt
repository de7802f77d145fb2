-- What came of a command line, by its arguments as they are given.
use Rattle.std.proofs.Common.{◌≡◌, ℕ, List, Option, Some, None, Result, Ok, Err, IfOk, IfSome, subst}
use Rattle.mseed_record.specs.Selection.{Selection}
use Rattle.mseed_feed.specs.Transport.{TransportState}
use Rattle.mseed_files.specs.Found.{Found}
use Rattle.mseed_words.specs.Texts.{AreTextsOf}
use Rattle.mseed_stream.specs.Device.{BytesRead, BytesWritten, nothing_read}
use Rattle.mseed_words.specs.Words.{AreRefused, AsksFor, AsksForNothing}
use Rattle.mseed_words.specs.declared.mistake.Mistake.{Mistake}
use Rattle.mseed_words.specs.declared.request.Request.{Request}
use Rattle.mseed.specs.Asked.{HasRefusedRequest, HasRefusedWords, UnlessMemoryLacks}
use Rattle.mseed.specs.Effect.{HasComeTo, HasEffect, IsRefusedBy}
use Rattle.mseed.specs.Streams.{streams}

-- the words that were read are those that were given, where these are known
pub from_arguments : {F T E : Type 0} (given : Option (List (List ℕ))) (words texts : List (List ℕ))
    (result : Result ℕ E) (found : List ℕ → Found) (files files' : F) (transport transport' : T)
    (w0 w1 e0 e1 : BytesWritten) (before after : TransportState) → IfSome given (λ known. words ≡ known)
    → AreTextsOf words texts
    → ((request : Request) (asked : Option Selection) (named : List (List ℕ)) → AsksFor texts request asked named
    → IfOk result (λ status. (read : BytesRead) × HasEffect found words request asked named status
    (streams nothing_read w0 e0) (streams read w1 e1) before after))
    → ((mistake : Mistake) (bad : List ℕ) → AsksForNothing texts mistake bad
    → IfOk result (λ status. IsRefusedBy (UnlessMemoryLacks (HasRefusedRequest words mistake bad)) status
    (streams nothing_read w0 e0) (streams nothing_read w1 e1)))
    → (AreRefused texts → IfOk result (λ status. IsRefusedBy (UnlessMemoryLacks HasRefusedWords) status
    (streams nothing_read w0 e0) (streams nothing_read w1 e1)))
    → (((mistake : Mistake) (bad : List ℕ) → AsksForNothing texts mistake bad → files' ≡ files)
    × (AreRefused texts → files' ≡ files))
    → (((mistake : Mistake) (bad : List ℕ) → AsksForNothing texts mistake bad → transport' ≡ transport)
    × (AreRefused texts → transport' ≡ transport))
    → IfOk result (λ status. IfSome given (λ known. (ts : List (List ℕ)) × AreTextsOf known ts
    × HasComeTo found known ts status files files' transport transport' w0 w1 e0 e1 before after))
from_arguments given words texts (Err e) found files files' transport transport' w0 w1 e0 e1 before after is are called
    bad refused unopened unlinked = tt
from_arguments None words texts (Ok status) found files files' transport transport' w0 w1 e0 e1 before after is are
    called bad refused unopened unlinked = tt
from_arguments (Some known) words texts (Ok status) found files files' transport transport' w0 w1 e0 e1 before after is
    are called bad refused unopened unlinked =
    subst (λ (ws : List (List ℕ)). (ts : List (List ℕ)) × AreTextsOf ws ts
    × HasComeTo found ws ts status files files' transport transport' w0 w1 e0 e1 before after) is (
      texts,
      are,
      record {
        called = called;
        bad = bad;
        refused = refused;
        unopened = unopened;
        unlinked = unlinked;
      },
    )
