use Rattle.mseed_record.specs.Viewing.{view_of}
use Rattle.mseed_repack.proofs.Steps.{goes_next, next_goes}
use Rattle.mseed_repack.proofs.stretch.Stretch.goes_on.Goals as goal

pub returns-in-Some : goal.returns-in-Some
returns-in-Some c =
    let s = c.args.self.now in
    let v = view_of c.args.view.now in
    let known = c.in-Some.ensures.known in
    let start = c.in-Some.ensures.start in λ vs is. (
      λ h. next_goes s vs v _ _ c.if-self.false known start is (c.is_next.ensures.0 h),
      λ go. c.is_next.ensures.1 (goes_next s vs v _ _ known start is go),
    )
