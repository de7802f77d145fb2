-- What `clap` says of the words, by the command.
use Rattle.std.proofs.Common.{◌≡◌, ◌∷◌, List, [], true, Result, Ok, Err, IfErr, IfOk, OnOk, inl, inr, refl}
use Rattle.clap.proofs.WalkLemmas.{both}
use Rattle.clap.specs.Walk.{Text, rows_of}
use Rattle.clap.specs.Simple.{App, is_simple, HasMatchesOf, matches_of}
use Rattle.clap.specs.Matches.{found_of}
use Rattle.clap.specs.Kinds.{FailsBy, HasKind, Kinds}
use Rattle.clap.specs.Values.{kind_of}
use Rattle.clap.specs.declared.error.kind.ErrorKind.TheVariants as kind
use Rattle.clap.specs.Faults.{fault_of, is_simple_and_free}
use Rattle.clap.specs.declared.error.Error.{Error}
use Rattle.clap.specs.declared.parser.matches.ArgMatches.{ArgMatches}
use Rattle.mseed_words.specs.Options.{the_command}
use Rattle.mseed_words.specs.Words.{Reading, refused, unless_refused}
use Rattle.mseed_words.specs.declared.command_name.CommandName.{CommandName}
use Rattle.mseed_words.specs.declared.command_name.CommandName.TheVariants.{Audit, Join, Show, Select, Repack}
use Rattle.mseed_words.specs.declared.command_name.CommandName.TheVariants.{Serve, Fetch}

is_free : (name : CommandName) → is_simple_and_free (the_command name) ≡ true
is_free Audit = refl
is_free Join = refl
is_free Show = refl
is_free Select = refl
is_free Repack = refl
is_free Serve = refl
is_free Fetch = refl

simple : (name : CommandName) → is_simple (the_command name) ≡ true
simple name = (both (is_simple (the_command name)) _ (is_free name)).0

-- it fails as a simple command does that it is
pub fails_as : {T : Type 0} (a b : App) (words : List Text) (r : Result T Error) → a ≡ b → is_simple_and_free b ≡ true
    → (is_simple_and_free a ≡ true → FailsBy (fault_of a words) r) → FailsBy (fault_of b words) r
fails_as a b words r same free h = (rw same at h) free

pub fails_by : {T : Type 0} (name : CommandName) (a : App) (words : List Text) (r : Result T Error)
    → a ≡ the_command name → (is_simple_and_free a ≡ true → FailsBy (fault_of a words) r)
    → FailsBy (fault_of (the_command name) words) r
fails_by name a words r same h = fails_as a (the_command name) words r same (is_free name) h

-- what is found among words that are taken
pub found_by : (name : CommandName) (a : App) (words : List Text) (r : Result ArgMatches Error)
    → a ≡ the_command name → IfOk r (HasMatchesOf a words)
    → IfOk r (λ m. rows_of (found_of m) ≡ matches_of (the_command name) words)
found_by name a words (Ok m) same h = ((rw same at h) (simple name)).0
found_by name a words (Err e) same h = tt

-- that words are taken, and why they are not
pub taken_by : {T : Type 0} (kinds : Kinds) (r : Result T Error) → FailsBy kinds r → OnOk r (kinds ≡ [])
taken_by kinds (Ok x) h = h
taken_by kinds (Err e) h = tt

pub refused_by : {T : Type 0} (kinds : Kinds) (r : Result T Error) → FailsBy kinds r → IfErr r (HasKind kinds)
refused_by kinds (Ok x) h = tt
refused_by kinds (Err e) h = h

-- an error but for want of memory is one of words that are refused
pub refused_for : (kinds : Kinds) (reading : Reading) (e : Error) → ¬ (kind_of e ≡ kind.OutOfMemory)
    → HasKind kinds e → unless_refused kinds reading ≡ refused
refused_for [] reading e other (inl memory) = absurd (other memory)
refused_for [] reading e other (inr among) = elim among [ ]
refused_for (k ∷ ks) reading e other has = refl
