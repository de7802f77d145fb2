-- The texts of the parts of archives, one after another.
use Rattle.std.proofs.Common.{◌≡◌, ℕ, ◌<◌, ◌^◌, ◌++◌, List, length, Bool, true, false, refl, sym, subst, arith}
use Rattle.std.proofs.Common.{length-append}
use Rattle.std.specs.List.{AllByRecursion}
use Rattle.mseed_stream.specs.Device.{BytesRead}
use Rattle.mseed_audit.specs.Summary.{Audited}
use Rattle.mseed_join.specs.AuditPart.{AuditedPart}
use Rattle.mseed_join.specs.Headline.{AreParted, EndsByBytes, IsReadOf, IsWithinLimits, SaysAudit, last, more, none}
use Rattle.mseed_join.specs.Joined.{IsBadLine, IsJointOf}
use Rattle.mseed_join.specs.Written.{HasText, Spells, Written, texts}
use Rattle.mseed_join.proofs.Clean.{all_read}
use Rattle.mseed_join.proofs.Running.{each_after, each_before}

first_within : (xs ys : List ℕ) → IsWithinLimits (xs ++ ys) → IsWithinLimits xs
first_within xs ys h = search (arith, each_before, length-append)

rest_within : (xs ys : List ℕ) → IsWithinLimits (xs ++ ys) → IsWithinLimits ys
rest_within xs ys h = search (arith, each_after, length-append)

abbrev pub ReadsBack : Type 0
ReadsBack = (h : BytesRead) (a : AuditedPart h) → IsWithinLimits h.bytes → HasText a.written

read_within : (archive : List ℕ) (h : BytesRead) → IsReadOf archive h → IsWithinLimits archive → IsWithinLimits h.bytes
read_within archive h read fits = first_within h.bytes read.rest (subst IsWithinLimits read.bytes fits)

have_texts : ReadsBack → (archive : List ℕ) (ws : List Written) → AreParted archive ws → IsWithinLimits archive
    → AllByRecursion HasText ws
have_texts back _ _ none fits = tt
have_texts back _ _ (last archive h a read by) fits = (back h a (read_within archive h read fits), tt)
have_texts back _ _ (more archive others h a ws read end parted) fits =
    let later = have_texts back others ws parted (rest_within archive others fits) in
    search (arith, read_within, first_within, rest_within, later)

pub spelled : ReadsBack → (archive : List ℕ) (ws : List Written) → AreParted archive ws → IsWithinLimits archive
    → Spells (texts ws) ws
spelled back archive ws parted fits = record { text = refl; each = have_texts back archive ws parted fits }

abbrev pub HaveOneText : Type 0
HaveOneText = (bytes : List ℕ) (ws vs : List Written) → Spells bytes ws → Spells bytes vs → ws ≡ vs

abbrev pub Says : Type 0
Says = (archive : List ℕ) (ws : List Written) (joint : Written) (h : BytesRead) (a : Audited h)
    → AreParted archive ws → IsJointOf false ws joint → IsReadOf archive h → EndsByBytes a.end → SaysAudit joint a

-- what is read of the texts is these parts
pub parts_read : ReadsBack → HaveOneText → (archive : List ℕ) (ws vs : List Written) (input : BytesRead)
    → AreParted archive ws → IsWithinLimits archive → IsReadOf (texts ws) input → input.is_at_end ≡ true
    → Spells input.bytes vs → vs ≡ ws
parts_read back single archive ws vs input parted fits reported done spells =
    let all = subst (λ (xs : List ℕ). Spells xs vs) (sym (all_read (texts ws) input reported done)) spells in
    single (texts ws) vs ws all (spelled back archive ws parted fits)

pub says_read : ReadsBack → HaveOneText → Says → (archive : List ℕ) (ws vs : List Written) (joint : Written)
    (input h : BytesRead) (a : Audited h) → AreParted archive ws → IsWithinLimits archive → IsReadOf archive h
    → EndsByBytes a.end → IsReadOf (texts ws) input → input.is_at_end ≡ true → Spells input.bytes vs
    → IsJointOf false vs joint → SaysAudit joint a
says_read back single says archive ws vs joint input h a parted fits read by reported done spells joined =
    let one : vs ≡ ws = parts_read back single archive ws vs input parted fits reported done spells in
    says archive ws joint h a parted (subst (λ (us : List Written). IsJointOf false us joint) one joined) read by

abbrev pub NoneBad : Type 0
NoneBad = (past : Bool) (text : List ℕ) (input : BytesRead) (line offset : ℕ) (ws : List Written)
    (joint : Written) → Spells text ws → IsJointOf past ws joint → IsReadOf text input
    → IsBadLine past input.bytes input.is_at_end line offset → ⊥

abbrev pub CanJoin : Type 0
CanJoin = (archive : List ℕ) (ws : List Written) (h : BytesRead) (a : Audited h) → AreParted archive ws
    → length archive < 2 ^ 63 → IsReadOf archive h → EndsByBytes a.end → (joint : Written) × IsJointOf false ws joint

pub never_bad : ReadsBack → NoneBad → CanJoin → (archive : List ℕ) (ws : List Written) (input h : BytesRead)
    (a : Audited h) (line offset : ℕ) → AreParted archive ws → IsWithinLimits archive → IsReadOf archive h
    → EndsByBytes a.end
    → IsReadOf (texts ws) input → IsBadLine false input.bytes input.is_at_end line offset → ⊥
never_bad back bad can archive ws input h a line offset parted fits read by reported is =
    let joint = can archive ws h a parted fits.size read by in
    bad false (texts ws) input line offset ws joint.0 (spelled back archive ws parted fits) joint.1 reported is
