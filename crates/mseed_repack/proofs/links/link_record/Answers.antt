use Rattle.std.proofs.Common.{◌≡◌, ◌<◌, All, arith, false, true, get_or}
use Rattle.mseed_record.specs.Header.{key_at}
use Rattle.mseed_record.specs.Viewing.{view_of}
use Rattle.mseed_steim.specs.Reading.{count_of}
use Rattle.mseed_audit.specs.Channels.{same_key}
use Rattle.mseed_repack.specs.Repack.{Channel}
use Rattle.mseed_repack.proofs.Linked.{links_foreign, links_more, links_silent}
use Rattle.mseed_repack.proofs.links.link_record.Goals as goal

pub returns-then-samples-eq0 : goal.returns-then-samples-eq0
returns-then-samples-eq0 c =
    let none : count_of (view_of c.args.view.now) ≡ 0 = omega (arith, c.samples.ensures, c.if-samples-eq0.true) in
    λ rs lt is h. links_silent _ _ _ _ _ _ none lt is h

pub returns-in-Some : goal.returns-in-Some
returns-in-Some c =
    let found : (d : Channel)
    → same_key (get_or c.args.channels.now c.in-Some.number d).0 (key_at (view_of c.args.view.now).bytes) ≡ true =
    λ d. rw c.codes.ensures at (c.in-Some.ensures.some d) in
    let some : 0 < count_of (view_of c.args.view.now) =
    omega (arith, c.samples.ensures, c.if-samples-eq0.false) in
    λ rs lt is h.
    links_more rs c.args.channels.now c.args.index c.in-Some.number c.args.firsts.now c.args.nexts.now
    c.args.view.now c.requires.ascending c.in-Some.ensures.inside c.requires.firsts c.requires.inside some found lt is h

pub returns-in_default : goal.returns-in_default
returns-in_default c =
    let none : All (λ (d : Channel). same_key d.0 (key_at (view_of c.args.view.now).bytes) ≡ false)
    c.args.channels.now = rw c.codes.ensures at c.in_default.ensures.none in
    λ rs lt is h. links_foreign _ _ _ _ _ _ none lt is h
