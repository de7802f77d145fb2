use Rattle.std.proofs.Common.{◌∙◌, ◌++◌, ◌∷◌, [], ap, arith, not}
use Rattle.mseed_stream.specs.Exchanges.{exchange}
use Rattle.std.proofs.lemmas.List.Elements.{All-cons}
use Rattle.slink_links.specs.Served.{WasServed}
use Rattle.slink_links.proofs.Serves.{each_none, failed_exactly, served_first}
use Rattle.slink_links.proofs.serving.serve_next.Goals as goal

pub hang_up-requires-clause-reported : goal.hang_up-requires-clause-reported
hang_up-requires-clause-reported g c = ap not c.is_ok-is_fine.ensures.value
    ∙ failed_exactly c.in-Some.ensures.unread c.in-Some.ensures.unwritten c.serve_link.ensures

pub returns-in-Some-clause-served : goal.returns-in-Some-clause-served
returns-in-Some-clause-served g c =
    let link = exchange (g.A.Link.Source.read c.serve_link.new.link) (g.A.Link.Sink.written c.serve_link.new.link) in
    record {
      links = link ∷ [];
      given_back = c.hang_up.ensures.given_back ∙ ap (λ xs. xs ++ link ∷ []) c.in-Some.ensures.given_back;
      served = All-cons (WasServed c.args.feed.now) link []
          (served_first _ _ _ _ _ _ c.in-Some.ensures.unread c.in-Some.ensures.unwritten c.serve_link.ensures)
          (λ k d lt. absurd (omega (arith, lt)));
    }

pub returns-in-None-clause-served : goal.returns-in-None-clause-served
returns-in-None-clause-served g c = rw c.in-None.ensures.given_back (each_none _ _)
