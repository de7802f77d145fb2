-- What a command line comes to, from its arguments to what was written: for any standard input and any files.
use Rattle.std.specs.Prelude.{⊤, ◌≡◌, ◌⊎◌, ◌<◌, Bool, true, false, ℕ, List, [], ◌∷◌, length, map, codes, slice_get}
use Rattle.std.specs.Prelude.{Option, Some, None, Result, Err}
use Rattle.std.specs.Borrow.{Bor}
use Rattle.std.specs.Io.KnownBytes.{IsAtEnd}
use Rattle.mseed_files.specs.ChainState.{ChainState, left_of}
use Rattle.mseed_files.specs.Files.{Contents, all_of}
use Rattle.mseed_files.specs.Found.{Found, bytes_of, contents_of}
use Rattle.mseed_files.specs.Looked.{MayBeRead, MayBeUnreadable, found_at}
use Rattle.mseed_files.specs.declared.reason.Reason.{Reason}
use Rattle.mseed_words.specs.Texts.{IsWordOf}
use Rattle.mseed_files.specs.declared.blame.Blame.{Blame}
use Rattle.mseed_files.specs.InputFiles.{Names, ReportsBlame, ReportsName, ReportsReason, cannot_read}
use Rattle.mseed_record.specs.Selection.{Selection}
use Rattle.mseed_stream.specs.Cutting.{GivesMore}
use Rattle.mseed_stream.specs.Device.{BytesRead, BytesWritten, nothing_read}
use Rattle.mseed_feed.specs.Commands.{HasFetchedRequested, HasServedInput}
use Rattle.mseed_feed.specs.Transport.{IsListenedFor, TransportState}
use Rattle.mseed_feed.specs.Live.{HasServedAt}
use Rattle.mseed_words.specs.declared.request.Command.{Command}
use Rattle.mseed_words.specs.declared.request.Request.{Request}
use Rattle.mseed_words.specs.declared.request.Request.TheVariants.{Serve, Live, Fetch}
use Rattle.mseed_words.specs.Words.{AreRefused, AsksFor, AsksForNothing}
use Rattle.mseed_words.specs.declared.mistake.Mistake.{Mistake}
use Rattle.mseed.specs.Asked.{HasRefusedRequest, HasRefusedWords, LacksMemory, UnlessMemoryLacks}
use Rattle.mseed.specs.Run.{HasCarriedOut}
use Rattle.mseed.specs.Streams.{Streams, streams}
use Rattle.mseed.specs.declared.outcome.Ended.{Ended}

-- the names that these texts stand for, of the words of the command line: a text that begins with a NUL stands for a
-- word that isn't text
abbrev pub AreWordsOf : List (List ℕ) → List (List ℕ) → List (List ℕ) → Type 0
AreWordsOf words [] [] = ⊤
AreWordsOf words [] (name ∷ names) = ⊥
AreWordsOf words (text ∷ texts) [] = ⊥
AreWordsOf words (text ∷ texts) (name ∷ names) = IsWordOf words text name × AreWordsOf words texts names

-- the files of a command: those that are named, and standard input where none is
abbrev pub AreFilesOf : List (List ℕ) → List (List ℕ) → List (List ℕ) → Type 0
AreFilesOf words [] names = names ≡ codes "-" ∷ []
AreFilesOf words (text ∷ texts) names = AreWordsOf words (text ∷ texts) names

-- whether some are named
abbrev pub are_named : List (List ℕ) → Bool
are_named [] = false
are_named (text ∷ texts) = true

-- the word of the file of this number
abbrev pub now_of : Option (Bor (List ℕ)) → List ℕ
now_of None = []
now_of (Some name) = name.now

abbrev pub name_at : Names → ℕ → List ℕ
name_at names file = now_of (slice_get names file)

-- None of the files is known to be one that can't be read.
abbrev pub AreReadable : (List ℕ → Found) → Names → Type 0
AreReadable found names = (file : ℕ) → file < length names → MayBeRead (found_at found names file)

-- It isn't known that it can be read, nor that it can't for another reason; and none before it is known to be one that
-- can't.
pub record IsFirstUnreadable (found : List ℕ → Found) (names : Names) (file : ℕ) (reason : Reason) : Type 0 where
  pub inside : file < length names
  pub unreadable : MayBeUnreadable (found_at found names file) reason
  pub first : (before : ℕ) → before < file → MayBeRead (found_at found names before)

-- What was read of the files: a beginning of their bytes, in their order and each once, and all of them where the input
-- is at its end.
pub record HasReadOf (contents : Contents) (h : BytesRead) : Type 0 where
  pub rest : Option (List ℕ)
  pub more : GivesMore nothing_read h (all_of contents) rest
  pub known : h.is_at_end ≡ true → IsAtEnd rest

-- What was read of the files, by how far reading has come: a beginning of their bytes, in their order and each once,
-- and all of them where the input is at its end.
pub record HasReadFiles (contents : Contents) (h : BytesRead) (s : ChainState) : Type 0 where
  pub contents_are : s.files.contents ≡ contents
  pub read : s.read ≡ h
  pub more : GivesMore nothing_read h (all_of contents) (left_of s)
  pub known : h.is_at_end ≡ true → IsAtEnd (left_of s)

-- Where files are named, what is wrong with the input is reported of them; where none is, the system's reason is
-- reported of a read that failed.
abbrev pub ReportsNamed : Bool → Blame → Names → ChainState → BytesWritten → BytesWritten → Type 0
ReportsNamed false blame names s old new = ReportsReason blame s old new
ReportsNamed true blame names s old new = ReportsBlame blame names s old new

-- A request was carried out with what was read of these files, none of which is known to be one that can't be read.
pub record HasRunOver (found : List ℕ → Found) (request : Request) (asked : Option Selection) (names : Names)
    (named : Bool) (status : ℕ) (old new : Streams) : Type 0 where
  pub ended : Ended
  pub reported : BytesWritten
  pub files : ChainState
  pub carried_out : HasCarriedOut request asked ended old (streams new.input new.output reported)
  pub status_is : status ≡ ended.status
  pub read : HasReadFiles (contents_of found names) new.input files
  pub blames : ReportsNamed named ended.blame names files reported new.errors

-- A request was carried out with the files that are named, or with standard input; or one of these can't be read, the
-- first of them was reported with the reason, and nothing else was done.
pub data HasRun (found : List ℕ → Found) (words : List (List ℕ)) (request : Request) (asked : Option Selection)
    (files : List (List ℕ)) (status : ℕ) (old new : Streams) : Type 0 where
  over_files : (names : Names) → AreFilesOf words files (map (λ name. name.now) names) → AreReadable found names
      → HasRunOver found request asked names (are_named files) status old new
      → HasRun found words request asked files status old new
  unreadable : (names : Names) (file : ℕ) (reason : Reason) → AreFilesOf words files (map (λ name. name.now) names)
      → IsFirstUnreadable found names file reason → new.input ≡ old.input → new.output ≡ old.output → status ≡ 2
      → ReportsName (cannot_read reason (name_at names file)) old.errors new.errors
      → HasRun found words request asked files status old new

-- the arguments request nothing, or there was no memory for them, as this says, and nothing was written on the output
abbrev pub IsRefusedBy : (Result Command ℕ → BytesWritten → BytesWritten → Type 0) → ℕ → Streams → Streams → Type 0
IsRefusedBy Refuses status old new = Refuses (Err status) old.errors new.errors × (new.output ≡ old.output)

-- What a request comes to: its exit status, what was read and written, and what is known of how links are had. Only
-- `fetch` writes what it doesn't read. Only `serve` and `serve --live` listen, and only `fetch` dials: by what is
-- requested, and what they come to is by all that happened at the device of their links.
abbrev pub HasDone : (List ℕ → Found) → List (List ℕ) → Request → Option Selection → List (List ℕ) → ℕ → Streams
    → Streams → TransportState → TransportState → Type 0
HasDone found words (Serve serving) asked files status old new before after =
    HasReadOf (bytes_of (found (codes "-")) ∷ []) new.input
    × HasServedInput serving new.input status old.errors new.errors before after
    × (new.output ≡ old.output)
HasDone found words (Live live) asked files status old new before after =
    IsListenedFor live after.planned
    × HasServedAt live after.came status old.errors new.errors
    × (new.output ≡ old.output)
HasDone found words (Fetch fetching) asked files status old new before after =
    HasFetchedRequested fetching after status old.output new.output old.errors new.errors
HasDone found words request asked files status old new before after =
    HasRun found words request asked files status old new × (after ≡ before)

-- The request was carried out, unless there was no memory for the arguments.
abbrev pub HasEffect : (List ℕ → Found) → List (List ℕ) → Request → Option Selection → List (List ℕ) → ℕ → Streams
    → Streams → TransportState → TransportState → Type 0
HasEffect found words request asked files status old new before after =
    HasDone found words request asked files status old new before after
    ⊎ (IsRefusedBy LacksMemory status old new × (after ≡ before))

-- What came of a command line, by the texts that stand for its words. They request something, which was done; or they
-- request nothing that there is, which was reported; or they are refused. No file is opened then, and no link had.
pub record HasComeTo {F T : Type 0} (found : List ℕ → Found) (words texts : List (List ℕ)) (status : ℕ)
    (files files' : F) (transport transport' : T) (written written' reported reported' : BytesWritten)
    (before after : TransportState) : Type 0 where
  pub called : (request : Request) (asked : Option Selection) (named : List (List ℕ))
      → AsksFor texts request asked named → (read : BytesRead) × HasEffect found words request asked named status
      (streams nothing_read written reported) (streams read written' reported') before after
  pub bad : (mistake : Mistake) (given : List ℕ) → AsksForNothing texts mistake given
      → IsRefusedBy (UnlessMemoryLacks (HasRefusedRequest words mistake given)) status
      (streams nothing_read written reported) (streams nothing_read written' reported')
  pub refused : AreRefused texts → IsRefusedBy (UnlessMemoryLacks HasRefusedWords) status
      (streams nothing_read written reported) (streams nothing_read written' reported')
  pub unopened : ((mistake : Mistake) (given : List ℕ) → AsksForNothing texts mistake given → files' ≡ files)
      × (AreRefused texts → files' ≡ files)
  pub unlinked : ((mistake : Mistake) (given : List ℕ) → AsksForNothing texts mistake given
      → transport' ≡ transport) × (AreRefused texts → transport' ≡ transport)
