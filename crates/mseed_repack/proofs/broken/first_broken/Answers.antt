use Rattle.std.proofs.Common.{map, ap, sym, refl}
use Rattle.mseed_record.specs.Viewing.{view_of}
use Rattle.mseed_audit.specs.Follows.{IsContinuous}
use Rattle.mseed_audit.specs.Verdict.{says_continuous}
use Rattle.mseed_repack.specs.Repack.{Channel, records_in}
use Rattle.mseed_repack.proofs.InPlaces.{first_number}
use Rattle.mseed_repack.proofs.Packabilities.{all_to_end}
use Rattle.mseed_repack.proofs.Repacks.{broken_at, continuous_next, first_said}
use Rattle.mseed_repack.proofs.broken.first_broken.Goals as goal

pub returns-in-Some-clause-some : goal.returns-in-Some-clause-some
returns-in-Some-clause-some c =
    broken_at _ _ _ _ _ c.requires c.loop-channel-test.true c.channel-item.is (sym (ap says_continuous
    c.in-Some.ensures.some.1)) refl c.loop-channel.invariant

pub returns-in-Some-clause-first : goal.returns-in-Some-clause-first
returns-in-Some-clause-first c =
    first_said _ _ _ _ _ _ c.requires c.loop-channel-test.true c.channel-item.is c.in-Some.ensures.some.1

pub returns-in-Some-clause-number : goal.returns-in-Some-clause-number
returns-in-Some-clause-number c =
    first_number c.channel-item.result.0 (map view_of c.args.views.now) c.in-Some.first
    (first_said _ _ _ _ _ _ c.requires c.loop-channel-test.true c.channel-item.is c.in-Some.ensures.some.1)

pub loop-channel-preserved : goal.loop-channel-preserved
loop-channel-preserved c =
    continuous_next _ _ _ _ _ c.requires c.loop-channel-test.true c.channel-item.is (sym c.in_default.ensures.none) refl
    c.loop-channel.invariant

pub returns-clause-none : goal.returns-clause-none
returns-clause-none c =
    all_to_end (λ (d : Channel). IsContinuous (records_in (map view_of c.args.views.now) d.0)) _ _
    c.loop-channel-test.false c.loop-channel.invariant
