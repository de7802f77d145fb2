-- The ends of a record's reading, none of which is read.
use Rattle.std.proofs.Common.{◌≡◌, ℕ, ◌-◌, ◌<◌, List, length, ap, sym, subst, ◌∙◌, arith, ℤ, slice_get, Some}
use Rattle.std.proofs.lemmas.Bool.Decides.{nat_tests}
use Rattle.std.proofs.Common.{IfSome, None, Option}
use Rattle.mseed_record.specs.View.{View, payload_of}
use Rattle.mseed_steim.specs.declared.scheme.Scheme.{Scheme}
use Rattle.mseed_steim.specs.declared.form.Form.TheVariants.{Frames}
use Rattle.mseed_steim.specs.declared.fault.Ends.{Ends}
use Rattle.mseed_steim.specs.declared.fault.ReadFault.{ReadFault}
use Rattle.mseed_steim.specs.declared.fault.ReadFault.TheVariants.{Short}
use Rattle.mseed_steim.specs.Frames.{first_constant, last_constant}
use Rattle.mseed_steim.specs.Reading.{HoldsIn, IsFault, IsWhole, count_of, in_payload}
use Rattle.mseed_steim.specs.Samples.{AreEnds, IsFrameFault}
use Rattle.mseed_steim.proofs.Ended.{first_is, no_frame}
use Rattle.mseed_steim.proofs.Laws.{denied, fault_denies, reading_one, same_payload}

-- the ends of a reading are those of any
pub one_ends : (v : View) (ends : Ends) → (s : List ℤ) × (IsWhole v s × AreEnds ends s) → (s : List ℤ) → IsWhole v s
    → AreEnds ends s
one_ends v ends h s whole = subst (AreEnds ends) (reading_one v h.0 s h.1.0.0 whole.0) h.1.1

-- those of Steim frames are their constants
pub constants_end : (v : View) (scheme : Scheme) (p : List ℕ) (ends : Ends) → HoldsIn v (Frames scheme) p
    → ends.first ≡ first_constant p → ends.last ≡ last_constant p → (s : List ℤ) → IsWhole v s → AreEnds ends s
constants_end v scheme p ends held first last s whole =
    let read = same_payload v (Frames scheme) s held.1 whole.0 in
    let end : slice_get s (length s - 1) ≡ Some (last_constant (payload_of v)) = whole.1 (Frames scheme) held.1 in
    let same : p ≡ payload_of v = held.4 in
    let begin : slice_get s 0 ≡ Some (first_constant (payload_of v)) = search (arith, nat_tests, first_is) in (
      begin ∙ ap (λ (q : List ℕ). Some (first_constant q)) (sym same) ∙ ap Some (sym first),
      end
          ∙ ap (λ (q : List ℕ). Some (last_constant q)) (sym same) ∙ ap Some (sym last),
    )

pub frameless : (v : View) (scheme : Scheme) (p : List ℕ) → 0 < count_of v → HoldsIn v (Frames scheme) p
    → length p < 64 → IsFault v (Short 0)
frameless v scheme p some held small =
    in_payload held.0 (Frames scheme) held.1 held.2 held.3 (Short 0)
    (subst (λ (q : List ℕ). IsFrameFault scheme q (count_of v) (Short 0)) held.4
    (no_frame scheme p (count_of v) small some))

-- a record with a reading that ends on its constants has no fault
pub whole_fault : (v : View) (s : List ℤ) (f : ReadFault) → IsWhole v s → IsFault v f → ⊥
whole_fault v s f whole fault = denied v f s (fault_denies v f whole.0.some fault) whole.0 whole.1

pub constants_ends : (v : View) (scheme : Scheme) (p : List ℕ) (r : Option Ends) → HoldsIn v (Frames scheme) p
    → IfSome r (λ ends. ends.first ≡ first_constant p) → IfSome r (λ ends. ends.last ≡ last_constant p)
    → IfSome r (λ ends. (s : List ℤ) → IsWhole v s → AreEnds ends s)
constants_ends v scheme p None held first last = tt
constants_ends v scheme p (Some ends) held first last = constants_end v scheme p ends held first last
