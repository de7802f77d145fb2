-- What there is by a word of a command line.
use Rattle.std.specs.Prelude.{⊤, ◌≡◌, ℕ, List, map, Option, Some, None, Result, Ok, Err}
use Rattle.std.specs.Borrow.{Bor}
use Rattle.mseed_files.specs.declared.reason.Reason.{Reason}

-- nothing that is known; what can't be read, for this reason; or what can be read, of these bytes
pub data Found : Type 0 where
  unknown : Found
  unreadable : Reason → Found
  readable : List ℕ → Found

-- its bytes, where they are known
abbrev pub bytes_of : Found → Option (List ℕ)
bytes_of unknown = None
bytes_of (unreadable reason) = None
bytes_of (readable bytes) = Some bytes

-- the bytes of each of the files that these words name, where they are known
abbrev pub contents_of : (List ℕ → Found) → List (Bor (List ℕ)) → List (Option (List ℕ))
contents_of found words = map (λ word. bytes_of (found word.now)) words

-- why it can't be read, where that is known: not at all where it can
abbrev pub IsLookedAt : Found → Option Reason → Type 0
IsLookedAt unknown answer = ⊤
IsLookedAt (unreadable reason) answer = answer ≡ Some reason
IsLookedAt (readable bytes) answer = answer ≡ None

-- this is what is left of it where it was opened and nothing was read, where its bytes are known
abbrev pub IsUnreadOf : Found → Option (List ℕ) → Type 0
IsUnreadOf unknown left = ⊤
IsUnreadOf (unreadable reason) left = ⊤
IsUnreadOf (readable bytes) left = left ≡ Some bytes

-- how many more failed by a call: it, or none
abbrev pub failures_of : {T E : Type 0} → Result T E → ℕ
failures_of (Ok x) = 0
failures_of (Err e) = 1
