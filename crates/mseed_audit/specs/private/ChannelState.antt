-- Words of what is kept of a channel: no public contract is stated by them.
use Rattle.std.specs.Prelude.{⊤, ◌≡◌, ◌≤◌, ◌+◌, ◌*◌, ℕ, ℤ, List, [], ◌∷◌, ◌++◌, length, Option, Some, None}
use Rattle.std.specs.List.{All}
use Rattle.std.specs.Map.{lookup, values_of}
use Rattle.std.specs.Vec.{vec_capacity}
use Rattle.std.specs.declared.vec.Vec.{Vec}
use Rattle.mseed_time.specs.declared.rate.Rate.{Rate}
use Rattle.mseed_record.specs.Header.{factor_at, key_at, multiplier_at}
use Rattle.mseed_record.specs.View.{View}
use Rattle.mseed_audit.specs.declared.channel.Channel.{Channel}
use Rattle.mseed_audit.specs.declared.channel.Findings.{Findings}
use Rattle.mseed_audit.specs.declared.channel.Findings.TheVariants.{Nothing, Counted}
use Rattle.mseed_steim.specs.declared.fault.ReadFault.{ReadFault}
use Rattle.mseed_steim.specs.Reading.{IsFault, IsWhole}
use Rattle.mseed_audit.specs.declared.channel.Judged.{Judged}
use Rattle.mseed_audit.specs.declared.channel.Judged.TheVariants.{Sound, Faulty}
use Rattle.mseed_audit.specs.declared.channel.Examined.{Examined}
use Rattle.mseed_audit.specs.declared.finding.Finding.{Finding}
use Rattle.mseed_audit.specs.declared.finding.Why.{Why}
use Rattle.mseed_audit.specs.declared.tail.Tail.{Tail}
use Rattle.mseed_audit.specs.declared.verdict.Verdict.{Verdict}
use Rattle.mseed_audit.specs.Audit.{IsTail, Stands, StandsAt, count_in, break_by}
use Rattle.mseed_audit.specs.Channels.{Placed, same_key, with_record}
use Rattle.mseed_audit.specs.Judging.{IsFound, known_rate, rate_in}
use Rattle.mseed_audit.specs.Places.{place_of}
use Rattle.mseed_audit.specs.Reported.{IsFoundOf, last_of}

-- what is found of a record that was judged
abbrev pub why_in : Judged → Option Why
why_in (Sound tail) = None
why_in (Faulty why tail) = Some why

-- and its end, where it is known
abbrev pub end_in : Judged → Option Tail
end_in (Sound tail) = Some tail
end_in (Faulty why tail) = tail

-- what is wrong with a record's samples, if something is
abbrev pub IsReadTo : View → Option ReadFault → Type 0
IsReadTo v None = (samples : List ℤ) × IsWhole v samples
IsReadTo v (Some fault) = IsFault v fault

-- what was learnt of a record whose time and rate are known
pub record IsExamined (examined : Examined) (v : View) : Type 0 where
  pub tail : IsTail examined.tail v
  pub read : IsReadTo v examined.fault

-- the same, where something was learnt
abbrev pub IsLearnt : Option Examined → View → Type 0
IsLearnt None v = ⊤
IsLearnt (Some examined) v = IsExamined examined v

-- what is kept of the channel's record before another, where there is one whose time and rate are known
abbrev pub IsTailBefore : Option Tail → Option View → Type 0
IsTailBefore None None = ⊤
IsTailBefore None (Some b) = known_rate b ≡ None
IsTailBefore (Some t) None = ⊥
IsTailBefore (Some t) (Some b) = IsTail t b

-- why a record that ends so doesn't follow the one before it, if there is one whose end is known
abbrev pub break_after : Option Tail → Tail → Option Why
break_after None next = None
break_after (Some t) next = break_by t next.start next.rate

-- with a further record that has no finding and ends so
abbrev pub with_end : Findings → Tail → Findings
with_end (Nothing head tail) end = Nothing head end
with_end (Counted count first head tail) end = Counted count first head (Some end)

-- with a further record that has a finding and ends so
abbrev pub with_finding : Findings → Finding → Option Tail → Findings
with_finding (Nothing head tail) finding end = Counted 1 finding (Some head) end
with_finding (Counted count first head tail) finding end = Counted (count + 1) first head end

-- with a further record of which this was judged
abbrev pub with_judged : Findings → Placed → Judged → Findings
with_judged findings p (Sound end) = with_end findings end
with_judged findings p (Faulty why end) =
    with_finding findings (record { number = p.number; offset = p.offset; why = why }) end

-- a channel takes a further record in, of which this is found
pub record TakesIn (old new : Channel) (p : Placed) (why : Option Why) : Type 0 where
  pub stands : (ps : List Placed) → Stands old ps → Stands new (ps ++ p ∷ [])
  pub found : (ps : List Placed) → Stands old ps → IsFound (last_of None ps) p.view why

-- the counts of a channel of at most so many records
pub record IsBounded (n : ℕ) (c : Channel) : Type 0 where
  pub records : c.records ≤ n
  pub samples : c.samples ≤ 65535 * c.records
  pub found : count_in c.findings ≤ c.records

abbrev pub AreBounded : ℕ → List (List ℕ × Channel) → Type 0
AreBounded n channels = All (λ c. IsBounded n c) (values_of channels)

-- A further record is added to what is kept of the channels: its own takes it in, or begins with it, and this is found
-- of it. A silent one changes nothing.
pub record AddsTo (old new : List (List ℕ × Channel)) (p : Placed) (why : Option Why) : Type 0 where
  pub stands : (key : List ℕ) (ps : List Placed) → StandsAt (lookup (same_key key) old) ps
      → StandsAt (lookup (same_key key) new) (with_record key ps p)
  pub found : (ps : List Placed) → StandsAt (lookup (same_key (key_at p.view.bytes)) old) ps
      → IsFoundOf ps p.view why
  pub bounded : (n : ℕ) → AreBounded n old → AreBounded (n + 1) new

-- no channel has the key, if there is one
abbrev pub IsMissed : Option (List ℕ) → List (List ℕ × Channel) → Type 0
IsMissed None channels = ⊤
IsMissed (Some key) channels = place_of (same_key key) channels ≡ None

-- there is room for a verdict on each channel, and none yet
abbrev pub HasRoom : {Y Z : Type 0} → List Y → Vec (List ℕ × Verdict) Z → Type 0
HasRoom channels verdicts = (verdicts.items ≡ []) × (length channels ≤ vec_capacity verdicts)

-- the factor and multiplier of the first record's rate, where there is a first and it has a rate
abbrev pub IsFirstRate : List View → Option Rate → Type 0
IsFirstRate [] rate = rate ≡ None
IsFirstRate (v ∷ vs) None = rate_in v ≡ None
IsFirstRate (v ∷ vs) (Some r) = (r.factor ≡ factor_at v.order v.bytes) × (r.multiplier ≡ multiplier_at v.order v.bytes)
