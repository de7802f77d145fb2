use Rattle.std.proofs.Common.{[], ◌∷◌, ◌++◌, ◌∙◌, ap, append-nil, arith, length, length-append, refl, sym}
use Rattle.mseed_stream.specs.Exchanges.{Exchange, exchange}
use Rattle.slink_feed.specs.Reporter.{ReporterState}
use Rattle.slink_links.specs.Fetched.{undialled}
use Rattle.slink_links.proofs.Fetches.{fetched_none, was_over}
use Rattle.slink_links.proofs.Tries.{tried_over}
use Rattle.slink_links.proofs.fetching.try_link.Goals as goal

pub returns-in-Ok-clause-tried : goal.returns-in-Ok-clause-tried
returns-in-Ok-clause-tried g c =
    let link : Exchange = exchange (g.D.Link.Source.read c.fetch_link_reporting-end.new.link)
    (g.D.Link.Sink.written c.fetch_link_reporting-end.new.link) in
    rw c.has_received.ensures (tried_over _ _ _ _ link _ _ _ _
    (was_over _ _ _ _ _ _ _ _ _ c.in-Ok.ensures.unread c.in-Ok.ensures.unwritten
    c.fetch_link_reporting-end.ensures.read c.fetch_link_reporting-end.ensures.turns)
    c.fetch_link_reporting-end.ensures.fetched.fetched
    (rw (ap (λ (a : ReporterState). a.received) c.begin.ensures) at c.fetch_link_reporting-end.ensures.received)
    (c.hang_up-loss.ensures.given_back ∙ ap (λ links. links ++ link ∷ []) c.in-Ok.ensures.given_back))

pub returns-in-Ok-clause-fetched : goal.returns-in-Ok-clause-fetched
returns-in-Ok-clause-fetched g c =
    rw (ap (λ (a : ReporterState). a.reporting) c.begin.ensures) at c.fetch_link_reporting-end.ensures.fetched

pub returns-in-Err-clause-fetched : goal.returns-in-Err-clause-fetched
returns-in-Err-clause-fetched g c = fetched_none _ _

pub returns-in-Err-clause-tried : goal.returns-in-Err-clause-tried
returns-in-Err-clause-tried g c = record {
  links = [];
  given_back = c.in-Err.ensures.given_back ∙ sym (append-nil _);
  tried = undialled refl refl refl refl;
}

pub returns-in-Ok-clause-out : goal.returns-in-Ok-clause-out
returns-in-Ok-clause-out g c =
    let link : Exchange = exchange (g.D.Link.Source.read c.fetch_link_reporting-end.new.link)
    (g.D.Link.Sink.written c.fetch_link_reporting-end.new.link) in
    let more = c.hang_up-loss.ensures.given_back ∙ ap (λ ls. ls ++ link ∷ []) c.in-Ok.ensures.given_back in omega (
      arith,
      c.requires,
      c.hang_up-loss.ensures.calls,
      c.hang_up-loss.ensures.failures,
      c.in-Ok.ensures.calls,
      c.in-Ok.ensures.failures,
      ap length more ∙ length-append (g.D.Dial.given_back c.args.dialler.now) (link ∷ []),
    )
