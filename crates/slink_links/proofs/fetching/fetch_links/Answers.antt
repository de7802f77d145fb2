use Rattle.std.proofs.Common.{◌≡◌, [], append-nil, arith, refl, rules, sym}
use Rattle.slink_links.specs.declared.fetching.FetchEnd.TheVariants.{LinkFailed}
use Rattle.slink_links.specs.Fetched.{Calls, calls_of, over_none}
use Rattle.slink_links.proofs.Fetches.{fetched_both, fetched_none}
use Rattle.slink_links.proofs.Tries.{after_most, nothing_tried, reads_tried, tried_last, tried_more}
use Rattle.slink_links.proofs.fetching.fetch_links.Goals as goal

pub returns-then-tries-eq0-clause-fetched : goal.returns-then-tries-eq0-clause-fetched
returns-then-tries-eq0-clause-fetched g c = fetched_none _ _

pub returns-then-tries-eq0-clause-read : goal.returns-then-tries-eq0-clause-read
returns-then-tries-eq0-clause-read g c =
    record { links = []; given_back = sym (append-nil _); read = over_none _ _ }

pub links-init : goal.links-init
links-init g c = record {
  fetched = fetched_none _ _;
  some = omega (arith, c.if-tries-eq0.false);
  most = omega arith;
  dialled = refl;
  out = c.requires;
  tried = nothing_tried _ _ _;
}

pub returns-then-ne-clause-fetched : goal.returns-then-ne-clause-fetched
returns-then-ne-clause-fetched g c = fetched_both _ _ _ _ _ _ _ c.links.invariant.fetched c.try_link-end.ensures.fetched

pub returns-then-ne-clause-read : goal.returns-then-ne-clause-read
returns-then-ne-clause-read g c =
    reads_tried _ _ _ _ _ _ _ _ _ _ _ _ c.links.invariant.tried c.try_link-end.ensures.tried

pub returns-then-ne-clause-paused : goal.returns-then-ne-clause-paused
returns-then-ne-clause-paused g c =
    tried_last _ _ _ _ _ _ _ _ _ _ _ _ c.links.invariant.tried c.try_link-end.ensures.tried
    c.try_link-end.ensures.dialled refl

pub wait_after-count-requires : goal.wait_after-count-requires
wait_after-count-requires g c = omega (
  arith,
  c.links.invariant.tried.counted,
  c.links.invariant.tried.dials,
  after_most 0 c.links.invariant.tried.tries,
  c.links.invariant.dialled,
  c.links.invariant.some,
  c.ranges.tries.fits,
)

pub links-preserved : goal.links-preserved
links-preserved g c =
    let same : c.try_link-end.result.0 ≡ LinkFailed = search rules in
    let after : Calls = calls_of (g.D.Dial.calls c.try_link-end.new.dialler)
    (g.D.Dial.given_back c.try_link-end.new.dialler)
    (g.P.Pause.called c.wait_after-count.new.waits) in
    record {
      fetched = fetched_both _ _ _ _ _ _ _ c.links.invariant.fetched (rw same at c.try_link-end.ensures.fetched);
      some = omega (arith, c.if-left-eq0.false);
      most = omega (arith, c.links.invariant.most);
      dialled = omega (arith, c.try_link-end.ensures.dialled, c.links.invariant.dialled, c.links.invariant.some);
      out = c.try_link-end.ensures.out;
      tried = tried_more _ _ _ _ _ _ _ _ _ after _ _ c.links.invariant.tried
          (rw same at c.try_link-end.ensures.tried) c.try_link-end.ensures.dialled c.wait_after-count.ensures.called
          c.wait_after-count.ensures.next;
    }
