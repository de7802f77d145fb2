-- The keywords, and the words of a command line.
use Rattle.std.proofs.Common.{◌≢◌, ℕ, List, codes}
use Rattle.slink_wire.specs.declared.keyword.Keyword.{Keyword}
use Rattle.slink_wire.specs.declared.keyword.Keyword.TheVariants.{Hello, Station, Select, Data, Fetch, End, Bye}
use Rattle.slink_wire.specs.private.Parsing.{text_of}

pub no_keyword : (w : List ℕ) → w ≢ codes "hello" → w ≢ codes "station" → w ≢ codes "select" → w ≢ codes "data"
    → w ≢ codes "fetch" → w ≢ codes "end" → w ≢ codes "bye" → (k : Keyword) → w ≢ text_of k
no_keyword w a b c d e f g Hello = a
no_keyword w a b c d e f g Station = b
no_keyword w a b c d e f g Select = c
no_keyword w a b c d e f g Data = d
no_keyword w a b c d e f g Fetch = e
no_keyword w a b c d e f g End = f
no_keyword w a b c d e f g Bye = g
