use Rattle.std.proofs.Common.{◌≡◌, ◌-◌, ◌∙◌, ap, arith, length, refl}
use Rattle.mseed_audit.specs.Channels.{added_from}
use Rattle.mseed_audit.specs.Scope.{asked_of}
use Rattle.mseed_audit.specs.Summary.{broken_count}
use Rattle.mseed_audit.specs.declared.passed.Passed.{Passed}
use Rattle.mseed_audit.proofs.Views.{added_length}
use Rattle.mseed_audit.proofs.summary.push_finished.Goals as goal

pub returns-in-Ok : goal.returns-in-Ok
returns-in-Ok g c = λ s h views ended.
    let p : Passed = c.args.selected.passed in
    let judged : c.added.result - p.left - p.without_time ≡ length (asked_of s views) =
    omega (arith, c.added.ensures, c.requires, ended.passed.all, ended.all.audit.number, added_length 0 views) in
    record {
      audited = record {
        views = views;
        end = c.args.selected.gathered.end;
        verdicts = c.finish-verdicts.result;
        all = ended.all.all;
        are_verdicts = c.finish-verdicts.ensures.among (asked_of s views) (length (added_from 0 views)) ended.all.audit;
      };
      views_are = refl;
      summary = record {
        records = judged;
        channels = ap length c.as_slice-in-Ok.ensures;
        broken = c.count_broken.ensures ∙ ap broken_count c.as_slice-in-Ok-2.ensures;
        fault = c.is_some.ensures;
        end = refl;
      };
      without_time = ended.passed.without_time;
      text_is = rw (c.as_slice.ensures, judged) at c.in-Ok.ensures;
    }
