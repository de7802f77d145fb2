-- What opening the next of several files keeps, and where the files that were opened begin.
use Rattle.std.proofs.Common.{◌≡◌, ℕ, zero, suc, ◌+◌, ◌<◌, ◌≤◌, ◌≢◌, ◌++◌}
use Rattle.std.proofs.Common.{List, [], ◌∷◌, length, drop, get_or, slice_index}
use Rattle.std.proofs.Common.{Option, Some, None, IfSome, Bool, true, false, is_some, refl, sym, ap, ◌∙◌}
use Rattle.std.proofs.Common.{subst, arith, length-append, append_assoc}
use Rattle.std.proofs.KnownBytes.{Consumes-kept, Consumes-nil, Keeps-trans}
use Rattle.std.proofs.lemmas.List.{append-nil}
use Rattle.std.proofs.lemmas.Option.{same_Some}
use Rattle.std.specs.Bool.{⊤}
use Rattle.std.specs.Borrow.{Bor}
use Rattle.std.specs.Io.KnownBytes.{Consumes, IsAtEnd, Keeps}
use Rattle.mseed_files.specs.Files.{Contents, all_of, joined}
use Rattle.mseed_files.specs.Found.{Found, IsUnreadOf, bytes_of, contents_of, unknown, unreadable, readable}
use Rattle.mseed_files.specs.ReaderState.{HasEnded, IsAlong, IsPlace, ReaderState, before, left_in, remaining_of}
use Rattle.mseed_files.specs.declared.place.Place.{Place}

-- this is what is left of a file of which nothing was read, the first of these, where its bytes are known
abbrev pub IsUnread : Contents → Option (List ℕ) → Type 0
IsUnread [] left = ⊤
IsUnread (None ∷ files) left = ⊤
IsUnread (Some bytes ∷ files) left = left ≡ Some bytes

-- nothing is left of a file that isn't open
pub none_left : {F : Type 0} (remaining : F → Option (List ℕ)) (file : Option F) → is_some file ≡ false
    → left_in remaining file ≡ Some []
none_left remaining None e = refl
none_left remaining (Some file) e = absurd (cc e)

kept_first : (rest : Option (List ℕ)) (bytes : List ℕ)
    → Keeps (joined (Some []) (joined (Some bytes) rest)) (joined (Some bytes) rest)
kept_first None bytes = tt
kept_first (Some rest) bytes = refl

kept_at : (files : Contents) (n : ℕ) (now : Option (List ℕ)) → n < length files → IsUnread (drop n files) now
    → Keeps (joined (Some []) (all_of (drop n files))) (joined now (all_of (drop (suc n) files)))
kept_at [] n now less unread = absurd (omega (arith, less))
kept_at (None ∷ files) zero now less unread = tt
kept_at (Some bytes ∷ files) zero now less unread = rw unread (kept_first (all_of files) bytes)
kept_at (bytes ∷ files) (suc n) now less unread = kept_at files n now (omega (arith, less)) unread

length_more : (begins : List ℕ) (bytes : ℕ) → length (begins ++ bytes ∷ []) ≡ suc (length begins)
length_more begins bytes = omega (arith, length-append begins (bytes ∷ []))

-- what is known to be left stays where the next file is opened
pub opened_keeps : (files after : Contents) (begins now : List ℕ) (bytes : ℕ) (left file : Option (List ℕ))
    → after ≡ files → now ≡ begins ++ bytes ∷ [] → length begins < length files → left ≡ Some []
    → IsUnread (drop (length begins) files) file
    → Keeps (joined left (all_of (drop (length begins) files))) (joined file (all_of (drop (length now) after)))
opened_keeps files after begins now bytes left file same more less closed unread =
    rw (same, more, length_more begins bytes, closed) (kept_at files (length begins) file less unread)

-- what is known of the files before the next one, and of that one
record Next (files : Contents) (n : ℕ) (file : Option (List ℕ)) (xs : List ℕ) : Type 0 where
  prior : List ℕ
  bytes : List ℕ
  prior_is : before files n ≡ Some prior
  file_is : file ≡ Some bytes
  whole : xs ≡ prior ++ bytes

pub rest_known : (a : List ℕ) (p : Option (List ℕ)) (xs : List ℕ) → joined (Some a) p ≡ Some xs
    → (b : List ℕ) × ((p ≡ Some b) × (xs ≡ a ++ b))
rest_known a None xs e = absurd (cc e)
rest_known a (Some b) xs e = (b, (refl, sym (same_Some (a ++ b) xs e)))

next_known : (files : Contents) (n : ℕ) (file : Option (List ℕ)) (xs : List ℕ) → n < length files
    → IsUnread (drop n files) file → before files (suc n) ≡ Some xs → Next files n file xs
next_known [] n file xs less unread known = absurd (omega (arith, less))
next_known (None ∷ files) n file xs less unread known = absurd (cc known)
next_known (Some a ∷ files) zero file xs less unread known = record {
  prior = [];
  bytes = a;
  prior_is = refl;
  file_is = unread;
  whole = sym (same_Some (a ++ []) xs known) ∙ append-nil a;
}
next_known (Some a ∷ files) (suc n) file xs less unread known =
    let b = rest_known a (before files (suc n)) xs known in
    let next : Next files n file b.0 = next_known files n file b.0 (omega (arith, less)) unread b.1.0 in
    record {
      prior = a ++ next.prior;
      bytes = next.bytes;
      prior_is = ap (λ (o : Option (List ℕ)). joined (Some a) o) next.prior_is;
      file_is = next.file_is;
      whole = b.1.1 ∙ (ap (λ (ys : List ℕ). a ++ ys) next.whole ∙ sym (append_assoc a next.prior next.bytes));
    }

index_more : (begins : List ℕ) (b i n : ℕ) → i < length (begins ++ b ∷ [])
    → (i < length begins → slice_index begins i ≡ n) → (i ≡ length begins → b ≡ n)
    → slice_index (begins ++ b ∷ []) i ≡ n
index_more [] b zero n less inside last = last refl
index_more [] b (suc i) n less inside last = absurd (omega (arith, less))
index_more (x ∷ begins) b zero n less inside last = inside (omega arith)
index_more (x ∷ begins) b (suc i) n less inside last =
    index_more begins b i n (omega (arith, less)) (λ within. inside (omega (arith, within)))
    (λ same. last (omega (arith, same)))

-- all that was opened was read, where nothing of it is left
read_whole : (files : Contents) (begins : List ℕ) (is_open : Bool) (left : Option (List ℕ)) (bytes : ℕ) (xs : List ℕ)
    → IsAlong files begins is_open left bytes → left ≡ Some [] → before files (length begins) ≡ Some xs
    → bytes ≡ length xs
read_whole files begins is_open left bytes xs along none known =
    let read = along.read xs known in
    omega (arith, ap length (same_Some read.0 [] (sym read.1.0 ∙ none)), read.1.1)

-- reading goes on with the next file
pub opened_along : (files after : Contents) (begins now : List ℕ) (is_open : Bool) (bytes : ℕ)
    (left file : Option (List ℕ)) → after ≡ files → now ≡ begins ++ bytes ∷ [] → length begins < length files
    → left ≡ Some [] → IsUnread (drop (length begins) files) file → IsAlong files begins is_open left bytes
    → IsAlong after now true file bytes
opened_along files after begins now is_open bytes left file same more less closed unread along =
    let longer : length (begins ++ bytes ∷ []) ≡ suc (length begins) = length_more begins bytes in
    rw (same, more) (record {
      few = omega (arith, longer, less);
      some = λ is. omega (arith, longer);
      closed = λ is. absurd (cc is);
      begun = λ i xs within known. index_more begins bytes i _ within (λ inside. along.begun i xs inside known)
          (λ last. read_whole _ _ _ _ _ xs along closed (subst (λ (n : ℕ). before files n ≡ Some xs) last known));
      read = λ xs known.
          let next : Next files (length begins) file xs = next_known files (length begins) file xs less unread
          (subst (λ (n : ℕ). before files n ≡ Some xs) longer known) in
          let whole : bytes ≡ length next.prior =
          read_whole files begins is_open left bytes next.prior along closed next.prior_is in
          (next.bytes, (next.file_is, omega (arith, whole, ap length next.whole, length-append next.prior next.bytes)));
    })

-- a place by where the files begin
pub placed : (s : ReaderState) (offset : ℕ) (place : Option Place)
    → ((i : ℕ) (xs : List ℕ) → i < length s.begins → before s.contents i ≡ Some xs
    → slice_index s.begins i ≡ length xs)
    → IfSome place (λ p. p.file < length s.begins)
    → IfSome place (λ p. slice_index s.begins p.file + p.offset ≡ offset)
    → IfSome place (λ p. (next : ℕ) → p.file < next → next < length s.begins → offset < slice_index s.begins next)
    → IfSome place (IsPlace s offset)
placed s offset None begun opened offset_is last = tt
placed s offset (Some p) begun opened offset_is last = record {
  opened = opened;
  offset_is = λ xs known. omega (arith, begun p.file xs opened known, offset_is);
  before_next = λ next xs less within known. omega (arith, last next less within, begun next xs within known);
}

-- each word names a file
contents_length : (found : List ℕ → Found) (words : List (Bor (List ℕ)))
    → length (contents_of found words) ≡ length words
contents_length found [] = refl
contents_length found (word ∷ words) = ap (λ (n : ℕ). suc n) (contents_length found words)

unread_of : (f : Found) (files : Contents) (left : Option (List ℕ)) → IsUnreadOf f left
    → IsUnread (bytes_of f ∷ files) left
unread_of unknown files left unread = tt
unread_of (unreadable reason) files left unread = tt
unread_of (readable bytes) files left unread = unread

-- the file that a word names is that of the word's number
unread_at : (found : List ℕ → Found) (words : List (Bor (List ℕ))) (n : ℕ) (default : Bor (List ℕ))
    (left : Option (List ℕ)) → n < length words → IsUnreadOf (found (get_or words n default).now) left
    → IsUnread (drop n (contents_of found words)) left
unread_at found [] n default left less unread = absurd (omega (arith, less))
unread_at found (word ∷ words) zero default left less unread = unread_of (found word.now) _ left unread
unread_at found (word ∷ words) (suc n) default left less unread =
    unread_at found words n default left (omega (arith, less)) unread

-- the next file is that of the next word
pub unread_next : (found : List ℕ → Found) (words : List (Bor (List ℕ))) (n m : ℕ) (default : Bor (List ℕ))
    (left : Option (List ℕ)) → n ≡ m → n ≢ length words → m ≤ length (contents_of found words)
    → IsUnreadOf (found (get_or words n default).now) left
    → (m < length (contents_of found words)) × IsUnread (drop m (contents_of found words)) left
unread_next found words n m default left same other few unread =
    let less : n < length words = omega (arith, contents_length found words) in
    (omega (arith, contents_length found words), rw same at (unread_at found words n default left less unread))

all_past : (files : Contents) (n : ℕ) → n ≡ length files → all_of (drop n files) ≡ Some []
all_past [] zero e = refl
all_past [] (suc n) e = refl
all_past (file ∷ files) zero e = absurd (cc e)
all_past (file ∷ files) (suc n) e = all_past files n (omega (arith, e))

-- nothing is left where no file is
ended_is : (s : ReaderState) → HasEnded s → IsAtEnd (remaining_of s)
ended_is s ended = rw (ended.nothing, all_past s.contents (length s.begins) ended.all_opened) refl

-- nothing was given where what is known to be left stayed, and it is the end where no file is left
pub nothing_given : (old middle new : ReaderState) → Keeps (remaining_of old) (remaining_of middle)
    → Keeps (remaining_of middle) (remaining_of new) → HasEnded new
    → Consumes (remaining_of old) (remaining_of new) [] × IsAtEnd (remaining_of new)
nothing_given old middle new first second ended = (
  Consumes-kept (remaining_of old) (remaining_of old) (remaining_of new) [] (Consumes-nil (remaining_of old))
      (Keeps-trans (remaining_of old) (remaining_of middle) (remaining_of new) first second),
  ended_is new ended,
)
