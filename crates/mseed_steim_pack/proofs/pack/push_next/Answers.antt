use Rattle.std.proofs.Common.{arith}
use Rattle.std.proofs.lemmas.List.{drop-drop}
use Rattle.mseed_steim_pack.proofs.Filling.{pushing_refused}
use Rattle.mseed_steim_pack.proofs.Held.{fullest_few}
use Rattle.mseed_steim_pack.proofs.Lookaheads.{known_here, known_next}
use Rattle.mseed_steim_pack.proofs.Sizes.{rest_long}
use Rattle.mseed_steim_pack.proofs.pack.push_next.Goals as goal

pub next_word-requires-clause-ahead : goal.next_word-requires-clause-ahead
next_word-requires-clause-ahead g c =
    rw c.from-held.ensures (known_here c.args.scheme _ _ c.requires.reached.1.ahead).0

pub next_word-requires-clause-cut : goal.next_word-requires-clause-cut
next_word-requires-clause-cut g c = search (arith, known_here, rest_long)

pub returns-in_default-clause-refused : goal.returns-in_default-clause-refused
returns-in_default-clause-refused g c =
    pushing_refused c.args.scheme (g.P.Pending.differences c.args.pending.now) c.args.frames.now c.args.frames.now
    c.requires.reached.0 c.args.reached.codes c.args.reached.index c.args.reached.used c.requires.reached.1.pushing
    c.requires.room c.requires.data c.in_default.ensures.refused

pub overflow_add-result : goal.overflow_add-result
overflow_add-result g c =
    let few = fullest_few c.args.scheme _ _ _ c.in-Ok.count c.in-Ok.ensures.fullest in
    record { fits = omega (arith, few, c.requires.few) }

pub overflow_add-result-2 : goal.overflow_add-result-2
overflow_add-result-2 g c =
    let few = fullest_few c.args.scheme _ _ _ c.in-Ok.count c.in-Ok.ensures.fullest in
    record { fits = omega (arith, few, c.requires.early) }

pub returns-clause-fills : goal.returns-clause-fills
returns-clause-fills g c = λ head is.
    let used = c.args.reached.used in
    let known = c.args.known.now in
    let full = c.in-Ok.ensures.fullest in
    let few = fullest_few c.args.scheme _ _ _ c.in-Ok.count full in
    record {
      pushing = c.push_word.ensures c.args.scheme _ head used c.in-Ok.count c.requires.data is.pushing full;
      ahead = rw drop-drop at (known_next c.args.scheme known.most known.cut c.args.reached.place c.in-Ok.count _
          is.ahead (omega (arith, c.requires.early, few)));
    }
