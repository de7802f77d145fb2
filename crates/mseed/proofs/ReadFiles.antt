-- What was read of the files of a command.
use Rattle.std.proofs.Common.{◌≡◌, ◌+◌, ◌<◌, ◌++◌, ◌∙◌, List, [], ◌∷◌, ℕ, Option, Some, None, ap, refl, map, take}
use Rattle.std.proofs.Common.{get_or, length, subst, sym, arith, not, zero, suc, ◌==◌}
use Rattle.std.proofs.Common.{Bool, true, false, Result, Ok, Err, IfOk}
use Rattle.std.proofs.Math.Dec.{eqb-suc-zero}
use Rattle.std.proofs.lemmas.List.{map_push, take_more}
use Rattle.std.specs.Borrow.{Bor}
use Rattle.std.proofs.KnownBytes.{prepend_known-nil}
use Rattle.mseed_files.specs.ChainState.{ChainState, beside_of, left_of, unread_chain}
use Rattle.mseed_files.specs.Files.{Contents, all_of, joined}
use Rattle.mseed_files.specs.ReaderState.{remaining_of, unread}
use Rattle.mseed_stream.specs.Calls.{ReadsOn}
use Rattle.mseed_stream.specs.Cutting.{GivesMore}
use Rattle.mseed_stream.specs.Device.{Beside, BytesRead, BytesWritten, nothing_read}
use Rattle.mseed_words.specs.Texts.{IsWordOf}
use Rattle.mseed_files.specs.InputFiles.{Names, ReportsBlame, ReportsName, ReportsReason, cannot_read}
use Rattle.mseed_files.specs.declared.blame.Blame.{Blame}
use Rattle.mseed_files.specs.Found.{Found}
use Rattle.mseed_files.specs.Looked.{MayBeRead, MayBeUnreadable, found_at}
use Rattle.mseed_files.specs.declared.reason.Reason.{Reason}
use Rattle.mseed_record.specs.Selection.{Selection}
use Rattle.mseed_words.specs.declared.request.Request.{Request}
use Rattle.mseed.specs.Streams.{streams}
use Rattle.mseed_feed.specs.Commands.{HasReadInput}
use Rattle.mseed.specs.Effect.{AreFilesOf, AreReadable, AreWordsOf, HasReadFiles, HasReadOf, HasRun, HasRunOver}
use Rattle.mseed.specs.Effect.{IsFirstUnreadable}
use Rattle.mseed.specs.Effect.{ReportsNamed, are_named, name_at, over_files, unreadable}

joined_none : (rest : Option (List ℕ)) → joined (Some []) rest ≡ rest
joined_none None = refl
joined_none (Some rest) = refl

-- nothing was read of files of which none was opened
all_left : (contents : Contents) (failures : ℕ) → left_of (unread_chain contents failures) ≡ all_of contents
all_left contents failures =
    prepend_known-nil (remaining_of (unread contents failures)) ∙ joined_none (all_of contents)

-- what was read of a chain, from the first byte on, is what was read of its files
pub read_files : (contents : Contents) (failures : ℕ) (old new : ChainState) → old ≡ unread_chain contents failures
    → ReadsOn old.read new.read (left_of old) (left_of new) (beside_of old) (beside_of new)
    → HasReadFiles contents new.read new
read_files contents failures old new is reads =
    let from : ReadsOn nothing_read new.read (left_of (unread_chain contents failures)) (left_of new)
    (beside_of (unread_chain contents failures)) (beside_of new) = rw is at reads in
    record {
      contents_are = ap (λ (b : Beside). b.files) from.beside;
      read = refl;
      more = subst (λ (left : Option (List ℕ)). GivesMore nothing_read new.read left (left_of new))
          (all_left contents failures) from.more;
      known = from.known;
    }

-- the same of an input that is read by value
pub read_of : (contents : Contents) (failures : ℕ) (old : ChainState) (read : BytesRead)
    → old ≡ unread_chain contents failures → HasReadInput (left_of old) (beside_of old) read → HasReadOf contents read
read_of contents failures old read is has =
    let from : HasReadInput (left_of (unread_chain contents failures)) (beside_of (unread_chain contents failures))
    read = rw is at has in
    record {
      rest = from.rest;
      more = subst (λ (left : Option (List ℕ)). GivesMore nothing_read read left from.rest) (all_left contents failures)
          from.reads.more;
      known = from.reads.known;
    }

-- the words of some texts, with one more
words_more : (words texts names : List (List ℕ)) (text name : List ℕ) → AreWordsOf words texts names
    → IsWordOf words text name → AreWordsOf words (texts ++ text ∷ []) (names ++ name ∷ [])
words_more words [] [] text name are one = (one, tt)
words_more words [] (n ∷ names) text name are one = absurd are
words_more words (t ∷ texts) [] text name are one = absurd are
words_more words (t ∷ texts) (n ∷ names) text name are one = (are.0, words_more words texts names text name are.1 one)

-- the word of one more of the texts was put behind those of the texts before it
pub word_pushed : (words : List (List ℕ)) (texts old new : List (Bor (List ℕ))) (i : ℕ) (default word : Bor (List ℕ))
    → i < length texts → AreWordsOf words (map (λ t. t.now) (take i texts)) (map (λ n. n.now) old)
    → new ≡ old ++ word ∷ [] → IsWordOf words (get_or texts i default).now word.now
    → AreWordsOf words (map (λ t. t.now) (take (i + 1) texts)) (map (λ n. n.now) new)
word_pushed words texts old new i default word less are is one =
    let now : Bor (List ℕ) → List ℕ = λ b. b.now in
    let more : map now (take (i + 1) texts) ≡ map now (take i texts) ++ now (get_or texts i default) ∷ [] =
    ap (map now) (take_more texts i default less) ∙ map_push now (take i texts) (get_or texts i default) in
    let names : map now new ≡ map now old ++ now word ∷ [] = ap (map now) is ∙ map_push now old word in
    rw (more, names) (words_more words (map now (take i texts)) (map now old) (now (get_or texts i default))
    (now word) are one)

-- where files are named, what is wrong with the input was reported of them
pub named_reported : (named : Bool) (blame : Blame) (names : Names) (s : ChainState) (old new now : BytesWritten)
    → named ≡ true → now ≡ new → ReportsBlame blame names s old new → ReportsNamed named blame names s old now
named_reported named blame names s old new now is same reported = rw (is, same) reported

-- and where none is, the reason of a read that failed
pub unnamed_reported : (named : Bool) (blame : Blame) (names : Names) (s : ChainState) (old new now : BytesWritten)
    → named ≡ false → now ≡ new → ReportsReason blame s old new → ReportsNamed named blame names s old now
unnamed_reported named blame names s old new now is same reported = rw (is, same) reported

-- the word that stands there is the name of the file
name_there : (names : Names) (i : ℕ) (name : Bor (List ℕ)) → i < length names → name ≡ get_or names i name
    → name_at names i ≡ name.now
name_there [] i name less is = absurd (omega (arith, less))
name_there (n ∷ names) zero name less is = ap (λ (b : Bor (List ℕ)). b.now) (sym is)
name_there (n ∷ names) (suc i) name less is = name_there names i name (omega (arith, less)) is

-- the first file that can't be read was reported
pub refused : (found : List ℕ → Found) (words : List (List ℕ)) (request : Request) (asked : Option Selection)
    (texts : List (List ℕ)) (names looked : Names) (i : ℕ) (reason : Reason) (name : Bor (List ℕ))
    (w e0 e1 : BytesWritten) → looked ≡ names
    → AreFilesOf words texts (map (λ n. n.now) names) → i < length looked
    → MayBeUnreadable (found_at found looked i) reason
    → ((before : ℕ) → before < i → MayBeRead (found_at found looked before)) → name ≡ get_or names i name
    → ReportsName (cannot_read reason name.now) e0 e1
    → HasRun found words request asked texts 2 (streams nothing_read w e0) (streams nothing_read w e1)
refused found words request asked texts names looked i reason name w e0 e1 same are within bad first is reported =
    let inside : i < length names = rw same at within in
    let unread : IsFirstUnreadable found names i reason = record {
      inside = inside;
      unreadable = rw same at bad;
      first = rw same at first;
    } in
    unreadable names i reason are unread refl refl refl
    (rw (name_there names i name inside is) reported)

-- or a command was carried out over them
pub carried_over : (E : Type 0) (found : List ℕ → Found) (words : List (List ℕ)) (request : Request)
    (asked : Option Selection) (texts : List (List ℕ)) (names looked lent : Names) (named : Bool) (result : Result ℕ E)
    (w0 w1 e0 e1 : BytesWritten) → looked ≡ names → lent ≡ names → AreFilesOf words texts (map (λ n. n.now) names)
    → ((file : ℕ) → file < length looked → MayBeRead (found_at found looked file)) → named ≡ are_named texts
    → IfOk result (λ status. (read : BytesRead) × HasRunOver found request asked lent named status
    (streams nothing_read w0 e0) (streams read w1 e1))
    → IfOk result (λ status. (read : BytesRead) × HasRun found words request asked texts status
    (streams nothing_read w0 e0) (streams read w1 e1))
carried_over E found words request asked texts names looked lent named (Err e) w0 w1 e0 e1 same also are all is run = tt
carried_over E found words request asked texts names looked lent named (Ok status) w0 w1 e0 e1 same also are all is
    run =
    let readable : AreReadable found names = rw same at all in
    let over : HasRunOver found request asked names (are_named texts) status (streams nothing_read w0 e0)
    (streams run.0 w1 e1) = rw (also, is) at run.1 in
    (run.0, over_files names are readable over)

-- files are named where the list of them isn't empty
pub named_is : (files : List (Bor (List ℕ))) (count : ℕ) (empty : Bool) → empty ≡ (count == 0) → count ≡ length files
    → not empty ≡ are_named (map (λ f. f.now) files)
named_is [] count empty e size = rw (e, size) refl
named_is (f ∷ files) count empty e size =
    ap not (e ∙ (ap (λ (n : ℕ). n == 0) size ∙ eqb-suc-zero (length files)))
