use Rattle.std.proofs.Common.{refl}
use Rattle.mseed_stream.specs.Device.{nothing_read}
use Rattle.mseed.proofs.ReadFiles.{carried_over, refused}
use Rattle.mseed.proofs.files.run_over_named.Goals as goal

pub returns-in-Some-clause-ok : goal.returns-in-Some-clause-ok
returns-in-Some-clause-ok g c =
    let are = rw c.deref.ensures.value at c.in_ok-names.ensures in (
      nothing_read,
      refused (g.F.Files.found c.args.files.now) _ c.args.command.now.request _ _ c.in_ok-names.names.items
          c.deref-2.result.now c.in-Some.index c.in-Some.reason c.index.result.now _ _ _ c.deref-2.ensures.value are
          c.in-Some.ensures.within c.in-Some.ensures.unreadable c.in-Some.ensures.first c.index.ensures
          c.report_unreadable.ensures,
    )

pub returns-in-None-selector-clause-ok : goal.returns-in-None-selector-clause-ok
returns-in-None-selector-clause-ok g c =
    let are = rw c.deref.ensures.value at c.in_ok-names.ensures in
    carried_over _ (g.F.Files.found c.args.files.now) _ c.args.command.now.request _ _ c.in_ok-names.names.items
    c.deref-2.result.now c.deref-in-None-selector.result.now _ c.run_over_files.result _ _ _ _ c.deref-2.ensures.value
    c.deref-in-None-selector.ensures.value are (c.in-None.ensures.none refl) refl c.run_over_files.ensures.ok

pub returns-clause-ok : goal.returns-clause-ok
returns-clause-ok g c =
    let are = rw c.deref.ensures.value at c.in_ok-names.ensures in
    carried_over _ (g.F.Files.found c.args.files.now) _ c.args.command.now.request _ _ c.in_ok-names.names.items
    c.deref-2.result.now c.deref-in-Some-selector.result.now _ c.run_over_files-in-Some-selector.result _ _ _ _
    c.deref-2.ensures.value c.deref-in-Some-selector.ensures.value are (c.in-None.ensures.none refl) refl
    c.run_over_files-in-Some-selector.ensures.ok
