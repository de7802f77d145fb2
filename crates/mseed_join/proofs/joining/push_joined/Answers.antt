use Rattle.std.proofs.Common.{◌≡◌, ◌∙◌, Result, Ok, OnOk, sym, subst}
use Rattle.mseed_join.proofs.joining.push_joined.Goals.{in-Audit, in-Part}
use Rattle.mseed_join.proofs.joining.push_joined.Goals as goal

-- what a call ensures where it answers `Ok`
where_ok : {T E : Type 0} (X : Type 0) (t : T) (answer result : Result T E) → answer ≡ result → answer ≡ Ok t
    → OnOk result X → X
where_ok X t answer result same is on = subst (λ r. OnOk r X) (sym same ∙ is) on

pub returns-in-Ok-clause-text : goal.returns-in-Ok-clause-text
returns-in-Ok-clause-text g c = elim c.match-form.branch [
  | in-Audit w ↦ let pushed = where_ok _ _ _ _ w.pushed-is c.in-Ok.is (w.push_join-pushed.ensures c.args.part.bytes)
      in
      let text = rw (w.as_slice.ensures.value, c.in_ok-channels.ensures, c.records-records.ensures.value) at pushed in
      rw (w.text-is, w.in-Audit.is) text
  | in-Part w ↦ let pushed = where_ok _ _ _ _ w.pushed-is c.in-Ok.is w.push_part-pushed.ensures in
      let text = rw (
        w.as_slice-in-Part.ensures.value,
        c.in_ok-channels.ensures,
        c.records-records.ensures.value,
        c.bytes-bytes.ensures,
      ) at pushed in
      rw (w.text-is, w.in-Part.is) text
]
