-- What is kept of a channel with further records after.
use Rattle.std.proofs.Common.{◌≡◌, ◌+◌, List, [], ◌∷◌, ◌++◌, length, Option, Some, None, refl}
use Rattle.std.proofs.Common.{sym, ap, ◌∙◌, subst, arith, append_assoc, append-nil, length-append}
use Rattle.std.specs.Option.{option_to_list}
use Rattle.mseed_time.specs.Rate.{Ratio}
use Rattle.mseed_record.specs.View.{View}
use Rattle.mseed_audit.specs.declared.finding.Finding.{Finding}
use Rattle.mseed_audit.specs.declared.finding.Why.{Why}
use Rattle.mseed_audit.specs.Channels.{Placed, sample_count}
use Rattle.mseed_audit.specs.Judging.{known_rate, why_from, why_after, IsFound, time as by_time}
use Rattle.mseed_audit.specs.Judging.{rate as by_rate, read as by_read, after as by_after}
use Rattle.mseed_audit.specs.Reported.{last_of}
use Rattle.mseed_audit.specs.Verdict.{finding_at, AreFindings, none, one}
use Rattle.mseed_audit.specs.declared.channel.Channel.{Channel}
use Rattle.mseed_audit.specs.declared.channel.Findings.{Findings}
use Rattle.mseed_audit.specs.declared.channel.Head.{Head}
use Rattle.mseed_audit.specs.declared.tail.Tail.{Tail}
use Rattle.mseed_join.specs.Joining.{found_at, border_of, findings_with, channel_then, channel_joined}
use Rattle.mseed_audit.specs.Audit.{IsHead, IsHeadOf, IsTail, IsTailOf, break_by, head_in, tail_in, AreCounted, Stands}
use Rattle.mseed_audit.specs.Audit.{StandsAt}
use Rattle.mseed_audit.proofs.Lasts.{last_snoc}

-- a record has one finding
abbrev pub HaveOneFinding : Type 0
HaveOneFinding = (before : Option View) (v : View) (a b : Option Why) → IsFound before v a → IsFound before v b → a ≡ b

-- ---- what is found of a record alone is found of it after another
own_found : (before : Option View) (v : View) (a : Option Why) (why : Why) → IsFound None v a → a ≡ Some why
    → IsFound before v (Some why)
own_found before v a why (by_time fault e) h =
    subst (λ (x : Option Why). IsFound before v x) h (by_time fault e)
own_found before v a why (by_rate e r) h = subst (λ (x : Option Why). IsFound before v x) h (by_rate e r)
own_found before v a why (by_read next known fault is) h =
    subst (λ (x : Option Why). IsFound before v x) h (by_read next known fault is)
own_found before v a why (by_after next known samples whole) h = cc (h)

-- where nothing is, it is judged by the one before
sound_found : (before : Option View) (v : View) (a : Option Why) (next : Ratio) → IsFound None v a → a ≡ None
    → known_rate v ≡ Some next → IsFound before v (why_after before v next)
sound_found before v a next (by_after other known samples whole) h is = by_after next is samples whole
sound_found before v a next _ h is = cc (h)

-- the border says so of the record by which the next is judged
border_is : (t : Tail) (b : View) (h : Head) (q : Placed) → IsTail t b → IsHead h q
    → why_after (Some b) q.view h.rate ≡ break_by t h.start h.rate
border_is t b h q tail head = search arith

found_is : (h : Head) (q : Placed) (why : Option Why) → IsHead h q
    → finding_at q why ≡ option_to_list (found_at h why)
found_is h q why h1 = grind arith

-- a record that is judged after another has the border's finding before what is found of it alone
pub record IsFoundNext (t : Option Tail) (b : View) (h : Option Head) (q : Placed) (why : Option Why) : Type 0 where
  pub further : Option Why
  pub found : IsFound (Some b) q.view further
  pub is : finding_at q further ≡ option_to_list (border_of t h) ++ finding_at q why

own_after : HaveOneFinding → (b : View) (q : Placed) (why : Option Why) (own : Why) → IsFound None q.view (Some own)
    → IsFound None q.view why → IsFound (Some b) q.view why
own_after only b q why own alone k = search (arith, own_found)

pub found_after : HaveOneFinding → (t : Option Tail) (b : View) (h : Option Head) (q : Placed) (why : Option Why)
    → IsTailOf t b → IsHeadOf h q → IsFound None q.view why → IsFoundNext t b h q why
found_after only None b None q why tail head k =
    record { further = why; found = own_after only b q why head.0 head.1 k; is = refl }
found_after only (Some t) b None q why tail head k =
    record { further = why; found = own_after only b q why head.0 head.1 k; is = refl }
found_after only None b (Some h) q why tail head k =
    let is : why ≡ None = only None q.view why None k head.sound in
    let nothing = ap (λ (r : Option Ratio). why_from b r q.view h.rate) tail ∙ sym is in
    record {
      further = why;
      found = subst (λ (x : Option Why). IsFound (Some b) q.view x) nothing
          (sound_found (Some b) q.view None h.rate head.sound refl head.rate);
      is = refl;
    }
found_after only (Some t) b (Some h) q why tail head k =
    let is : why ≡ None = only None q.view why None k head.sound in
    let border : List Finding = option_to_list (found_at h (break_by t h.start h.rate)) in
    record {
      further = break_by t h.start h.rate;
      found = subst (λ (x : Option Why). IsFound (Some b) q.view x) (border_is t b h q tail head)
          (sound_found (Some b) q.view None h.rate head.sound refl head.rate);
      is = found_is h q (break_by t h.start h.rate) head ∙ sym (append-nil border)
          ∙ ap (λ (w : Option Why). border ++ finding_at q w) (sym is);
    }

border_found : HaveOneFinding → (t : Option Tail) (b : View) (h : Option Head) (q : Placed) (qs : List Placed)
    (found : List Finding) → IsTailOf t b → IsHeadOf h q → AreFindings None (q ∷ qs) found
    → AreFindings (Some b) (q ∷ qs) (option_to_list (border_of t h) ++ found)
border_found only t b h q qs found tail head (one _ _ _ why rest k later) =
    let f = found_after only t b h q why tail head k in
    subst (λ (fs : List Finding). AreFindings (Some b) (q ∷ qs) fs)
    (ap (λ (fs : List Finding). fs ++ rest) f.is
    ∙ append_assoc (option_to_list (border_of t h)) (finding_at q why) rest)
    (one (Some b) q qs f.further rest f.found later)

-- the findings of records and of further ones after them
findings_append : (before : Option View) (ps qs : List Placed) (found further : List Finding)
    → AreFindings before ps found → AreFindings (last_of before ps) qs further
    → AreFindings before (ps ++ qs) (found ++ further)
findings_append before [] qs found further (none _) k = k
findings_append before (p ∷ ps) qs found further (one _ _ _ why rest h later) k =
    subst (λ (fs : List Finding). AreFindings before (p ∷ (ps ++ qs)) fs)
    (sym (append_assoc (finding_at p why) rest further))
    (one before p (ps ++ qs) why (rest ++ further) h
    (findings_append (Some p.view) ps qs rest further later k))

pub last_is : (ps prefix : List Placed) (last : Placed) → ps ≡ prefix ++ last ∷ [] → last_of None ps ≡ Some last.view
last_is ps prefix last e = ap (λ (qs : List Placed). last_of None qs) e ∙ last_snoc None prefix last

-- ---- counts and ends
ends_with : (a b : Findings) (border : Option Finding)
    → (head_in (findings_with a b border) ≡ head_in a) × (tail_in (findings_with a b border) ≡ tail_in b)
ends_with a b border = grind arith

pub head_with : (a b : Findings) (border : Option Finding) → head_in (findings_with a b border) ≡ head_in a
head_with a b border = (ends_with a b border).0

pub tail_with : (a b : Findings) (border : Option Finding) → tail_in (findings_with a b border) ≡ tail_in b
tail_with a b border = (ends_with a b border).1

none_in : (fs : List Finding) → fs ≡ [] → length fs ≡ 0
none_in fs e = ap (λ (gs : List Finding). length gs) e

counted_with : (a b : Findings) (border : Option Finding) (fs gs : List Finding) → AreCounted a fs → AreCounted b gs
    → AreCounted (findings_with a b border) (fs ++ (option_to_list border ++ gs))
counted_with a b border fs gs h1 h2 = grind (arith, none_in, length-append)

samples_append : (ps qs : List Placed) → sample_count (ps ++ qs) ≡ sample_count ps + sample_count qs
samples_append [] qs = omega arith
samples_append (p ∷ ps) qs = search (arith, samples_append ps qs)

-- the findings of all records, with the border's between them
all_found : HaveOneFinding → (c o : Channel) (ps qs : List Placed) (s : Stands c ps) (t : Stands o qs)
    → AreFindings None (ps ++ qs)
    (s.found ++ (option_to_list (border_of (tail_in c.findings) (head_in o.findings)) ++ t.found))
all_found only c o ps qs s t =
    search (arith, border_found, last_is, findings_append)

pub stands_after : HaveOneFinding → (c o : Channel) (ps qs : List Placed) → Stands c ps → Stands o qs
    → Stands (channel_then c o) (ps ++ qs)
stands_after only c o ps qs s t =
    let border : Option Finding = border_of (tail_in c.findings) (head_in o.findings) in record {
      records = omega (arith, s.records, t.records, length-append ps qs);
      samples = omega (arith, s.samples, t.samples, samples_append ps qs);
      first = s.first;
      rest = s.rest ++ qs;
      begins = ap (λ (rs : List Placed). rs ++ qs) s.begins;
      head = subst (λ (h : Option Head). IsHeadOf h s.first) (sym (head_with c.findings o.findings border)) s.head;
      prefix = ps ++ t.prefix;
      last = t.last;
      ends = ap (λ (rs : List Placed). ps ++ rs) t.ends ∙ sym (append_assoc ps t.prefix (t.last ∷ []));
      tail = subst (λ (x : Option Tail). IsTailOf x t.last.view) (sym (tail_with c.findings o.findings border)) t.tail;
      found = s.found ++ (option_to_list border ++ t.found);
      are_found = all_found only c o ps qs s t;
      counted = counted_with c.findings o.findings border s.found t.found s.counted t.counted;
    }

pub stands_joined : HaveOneFinding → (c o : Option Channel) (ps qs : List Placed) → StandsAt c ps → StandsAt o qs
    → StandsAt (channel_joined c o) (ps ++ qs)
stands_joined h1 c o ps qs h2 h3 = grind (arith, append-nil, stands_after)
