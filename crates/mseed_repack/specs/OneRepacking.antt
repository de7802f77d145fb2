-- Packing one archive anew twice, by the same options.
use Rattle.std.specs.Prelude.{⊤, ◌≡◌, ◌⊎◌, ℕ, List, ◌++◌, Result, Ok, Err}
use Rattle.mseed_stream.specs.Device.{BytesWritten}
use Rattle.mseed_pack.specs.Prefixes.{HaveTakenPrefixes}
use Rattle.mseed_repack.specs.declared.fault.RepackFault.{RepackFault}
use Rattle.mseed_repack.specs.declared.fault.RepackFault.TheVariants.{Stream, Broken, Misfit, Write, Memory}

-- both wrote one text
pub record HaveWrittenOne (old new before after : BytesWritten) : Type 0 where
  pub text : List ℕ
  pub here : new.bytes ≡ old.bytes ++ text
  pub there : after.bytes ≡ before.bytes ++ text

-- one wrote a text, and the other a prefix of it
pub record HasWrittenPrefix (old new before after : BytesWritten) : Type 0 where
  pub prefix : List ℕ
  pub rest : List ℕ
  pub here : new.bytes ≡ old.bytes ++ (prefix ++ rest)
  pub there : after.bytes ≡ before.bytes ++ prefix

-- what only the output or the memory can make of what is packed otherwise: a prefix of its text, or nothing
abbrev pub FailsBeside : RepackFault → BytesWritten → BytesWritten → BytesWritten → BytesWritten → Type 0
FailsBeside (Stream fault) old new before after = ⊥
FailsBeside (Broken key first) old new before after = ⊥
FailsBeside (Misfit key number fault) old new before after = ⊥
FailsBeside Write old new before after = HasWrittenPrefix old new before after
FailsBeside Memory old new before after = ⊤

-- Both come to one thing: to one text, of which a failed output accepted a prefix; or to one fault, memory aside, and
-- of what two failed outputs accepted, one is a prefix of the other.
abbrev pub ComeToOne : Result ⊤ RepackFault → Result ⊤ RepackFault → BytesWritten → BytesWritten → BytesWritten
    → BytesWritten → Type 0
ComeToOne (Ok u) (Ok v) old new before after = HaveWrittenOne old new before after
ComeToOne (Ok u) (Err fault) old new before after = FailsBeside fault old new before after
ComeToOne (Err fault) (Ok v) old new before after = FailsBeside fault before after old new
ComeToOne (Err fault) (Err other) old new before after =
    ((fault ≡ Memory) ⊎ ((other ≡ Memory) ⊎ (fault ≡ other))) × (fault ≡ Write → other ≡ Write
    → HaveTakenPrefixes old new before after)
