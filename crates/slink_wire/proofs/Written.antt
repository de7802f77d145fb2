-- Words say at most one command.
use Rattle.std.proofs.Common.{◌≡◌, ◌≢◌, inl, inr, ℕ, sym, ◌∙◌, refl, arith, List}
use Rattle.std.proofs.Common.{◌∷◌, Some, None}
use Rattle.slink_wire.specs.declared.command.Command.{Command}
use Rattle.slink_wire.specs.declared.command.Command.TheVariants.{Hello, Station, SelectAll, Data, Fetch, End, Bye}
use Rattle.slink_wire.specs.declared.command.Command.TheVariants.{Other}
use Rattle.slink_wire.specs.declared.keyword.Keyword.{Keyword}
use Rattle.slink_wire.specs.declared.keyword.Keyword.TheVariants as keyword
use Rattle.slink_wire.specs.Command.{IsCommand, IsRow, IsWritten, folded, words}
use Rattle.slink_wire.specs.private.Parsing.{text_of}
use Rattle.slink_wire.proofs.Digits.{spells_one}

-- a first word that is no keyword says none
pub unknown : (w : List ℕ) (ws : List (List ℕ)) → ((k : Keyword) → w ≢ text_of k) → (d : Command) → IsWritten d (w ∷ ws)
    → ⊥
unknown w ws n Hello h = n keyword.Hello (cc)
unknown w ws n (Station sta None) h = n keyword.Station (cc)
unknown w ws n (Station sta (Some net)) h = n keyword.Station (cc)
unknown w ws n SelectAll h = n keyword.Select (cc)
unknown w ws n (Data None) h = n keyword.Data (cc)
unknown w ws n (Data (Some m)) h = n keyword.Data (cc)
unknown w ws n (Fetch None) h = n keyword.Fetch (cc)
unknown w ws n (Fetch (Some m)) h = n keyword.Fetch (cc)
unknown w ws n End h = n keyword.End (cc)
unknown w ws n Bye h = n keyword.Bye (cc)
unknown w ws n Other h = h

-- words are written of one command
one_written : (ws : List (List ℕ)) (c d : Command) → IsWritten c ws → IsWritten d ws → c ≡ d
one_written ws Hello Hello p q = refl
one_written ws (Station s None) (Station t None) p q = cc
one_written ws (Station s (Some n)) (Station t (Some m)) p q = cc
one_written ws SelectAll SelectAll p q = refl
one_written ws (Data None) (Data None) p q = refl
one_written ws (Data (Some n)) (Data (Some m)) p q = cc (spells_one p.0 q.0 n m (cc) p.1.2 q.1.2)
one_written ws (Fetch None) (Fetch None) p q = refl
one_written ws (Fetch (Some n)) (Fetch (Some m)) p q = cc (spells_one p.0 q.0 n m (cc) p.1.2 q.1.2)
one_written ws End End p q = refl
one_written ws Bye Bye p q = refl
one_written ws Other Other p q = refl
one_written ws c d p q = first_of (cc, grind arith)

pub one_command : (ws : List (List ℕ)) (c d : Command) → IsRow c ws → IsRow d ws → c ≡ d
one_command ws c d (inl p) (inl q) = one_written ws c d p q
one_command ws c d (inl p) (inr q) = absurd (q.1 c p)
one_command ws c d (inr p) (inl q) = absurd (p.1 d q)
one_command ws c d (inr p) (inr q) = p.0 ∙ sym q.0

pub line_once : (line : List ℕ) (c d : Command) → IsCommand line c → IsCommand line d → c ≡ d
line_once line c d p q = one_command (folded (words line)) c d p q
