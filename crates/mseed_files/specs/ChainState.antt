-- How far several files were read, and what of it was handed on.
use Rattle.std.specs.Prelude.{◌≡◌, Bool, true, ℕ, List, [], Option, None, IfSome}
use Rattle.std.specs.Io.KnownBytes.{prepend_known}
use Rattle.mseed_stream.specs.Device.{Beside, BytesRead, nothing_read, nothing_written}
use Rattle.mseed_stream.specs.declared.tally.Tally.{Tally}
use Rattle.mseed_files.specs.Files.{Contents}
use Rattle.mseed_files.specs.ReaderState.{HasEnded, ReaderState, file_due, remaining_of, unread}

-- what a clause sees of a chain: how far its files were read, what was read of them and not handed on, and what was
-- handed on
pub record ChainState : Type 0 where
  pub files : ReaderState
  pub held : List ℕ
  pub read : BytesRead

-- what went through, and whether the chain is at its end
abbrev pub handed_on : Tally → Bool → BytesRead
handed_on reads is_at_end = record {
  bytes = reads.bytes;
  calls = reads.calls;
  failures = reads.failures;
  is_at_end = is_at_end;
}

-- nothing was read of the files
abbrev pub unread_chain : Contents → ℕ → ChainState
unread_chain contents failures = record { files = unread contents failures; held = []; read = nothing_read }

-- what is left to be handed on
abbrev pub left_of : ChainState → Option (List ℕ)
left_of s = prepend_known s.held (remaining_of s.files)

-- what reading leaves as it was: the files
abbrev pub beside_of : ChainState → Beside
beside_of s = record { written = nothing_written; files = s.files.contents }

-- A chain is at its end where no file is left. A file failed exactly where a call has failed: the one that was to be
-- read then, and none is read after it.
pub record IsChain (s : ChainState) : Type 0 where
  pub ended : s.read.is_at_end ≡ true → HasEnded s.files
  pub none_held : s.read.is_at_end ≡ true → s.held ≡ []
  pub fine : s.files.failed ≡ None → s.read.failures ≡ 0
  pub counted : s.read.failures ≡ 0 → s.files.failed ≡ None
  pub failed : IfSome s.files.failed (λ file. file ≡ file_due s.files)
