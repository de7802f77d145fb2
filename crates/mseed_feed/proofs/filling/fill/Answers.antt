use Rattle.std.proofs.Common.{◌≡◌, ◌+◌, ◌++◌, ◌∷◌, [], List, length, ap, arith, refl, rules, sym}
use Rattle.std.proofs.KnownBytes.{Consumes-nil}
use Rattle.std.proofs.lemmas.List.{append-nil, length-append}
use Rattle.std.proofs.lemmas.Result.{err_from_is_err_and}
use Rattle.mseed_record.specs.View.{View}
use Rattle.mseed_stream.specs.Device.{BytesRead}
use Rattle.mseed_stream.specs.Walk.{HasHandedOut}
use Rattle.mseed_stream.proofs.Calls.{reads_none, reads_on}
use Rattle.mseed_feed.proofs.Fills.{next_small}
use Rattle.mseed_feed.proofs.filling.fill.Goals as goal

pub push_next-requires : goal.push_next-requires
push_next-requires g c =
    let views : List View = c.records.invariant.2.0 in
    let filled = c.records.invariant.2.1 in (
      search rules,
      (
        c.records.invariant.0,
        λ k w there. next_small c.args.serving.now views c.records.feed k w c.requires.called.first
            (omega arith) filled.feed_is there,
      ),
    )

pub returns-in_err-push_next-clause-filled : goal.returns-in_err-push_next-clause-filled
returns-in_err-push_next-clause-filled g c =
    let views : List View = c.records.invariant.2.0 in
    let filled = c.records.invariant.2.1 in
    let e = err_from_is_err_and c.from_residual-in_err-push_next.result
    c.from_residual-in_err-push_next.ensures.1 in
    rw (e.1, e.2) (c.in_err-push_next.ensures.pushed c.args.serving.now views c.requires.called filled
    (omega (arith, c.records.invariant.2.2)))

pub records-smaller : goal.records-smaller
records-smaller g c =
    let more = rw c.in-Pushed.is at c.in_ok-push_next.ensures.pushed c.args.serving.now c.records.invariant.2.0
    c.requires.called c.records.invariant.2.1 (omega (arith, c.records.invariant.2.2)) in
    omega (arith, more.called, more.filled.handed.along.read.reads, more.filled.handed.along.read.few_reads)

pub records-preserved : goal.records-preserved
records-preserved g c =
    let views : List View = c.records.invariant.2.0 in
    let more = rw c.in-Pushed.is at c.in_ok-push_next.ensures.pushed c.args.serving.now views c.requires.called
    c.records.invariant.2.1 (omega (arith, c.records.invariant.2.2)) in
    let number : c.records.records + 1 ≡ length (views ++ more.view ∷ []) =
    omega (arith, c.records.invariant.2.2, length-append views (more.view ∷ [])) in
    let reads = reads_on (g.R.Source.read c.args.input.now) (g.R.Source.read c.records.input)
    (g.R.Source.read c.push_next.new.input) _ _ _ _ _ _ c.records.invariant.3 c.records.invariant.4
    (c.in_ok-push_next.ensures.reads c.records.invariant.2.1.handed.goes_on) in (
      more.filled.handed.along,
      omega (arith, c.records.invariant.1, more.called),
      (views ++ more.view ∷ [], more.filled, number),
      reads.more,
      reads.beside,
    )

pub returns-in-Ended-clause-filled : goal.returns-in-Ended-clause-filled
returns-in-Ended-clause-filled g c =
    let views : List View = c.records.invariant.2.0 in
    let filled = c.records.invariant.2.1 in
    rw c.in-Ended.is at c.in_ok-push_next.ensures.pushed c.args.serving.now views c.requires.called filled
    (omega (arith, c.records.invariant.2.2))

pub records-init : goal.records-init
records-init g c =
    let handed : HasHandedOut (g.R.Source.read c.args.input.now) c.new-cutter.result [] =
    rw c.requires.unread c.new-cutter.ensures.handed in (
      handed.along,
      omega arith,
      ([], record { handed = handed; each = tt; feed_is = c.in_ok-feed.ensures.ok }, refl),
      (
        [],
        sym (append-nil (g.R.Source.read c.args.input.now).bytes),
        Consumes-nil (g.R.Source.remaining c.args.input.now),
      ),
      refl,
    )

pub returns-in_err-push_next-clause-reads : goal.returns-in_err-push_next-clause-reads
returns-in_err-push_next-clause-reads g c =
    reads_on _ _ _ _ _ _ _ _ _ c.records.invariant.3 c.records.invariant.4
    (c.in_err-push_next.ensures.reads c.records.invariant.2.1.handed.goes_on)

pub returns-in-Ended-clause-reads : goal.returns-in-Ended-clause-reads
returns-in-Ended-clause-reads g c =
    reads_on _ _ _ _ _ _ _ _ _ c.records.invariant.3 c.records.invariant.4
    (c.in_ok-push_next.ensures.reads c.records.invariant.2.1.handed.goes_on)

pub returns-in_err-feed-clause-reads : goal.returns-in_err-feed-clause-reads
returns-in_err-feed-clause-reads g c =
    reads_none (g.R.Source.read c.args.input.now) _ _
    (ap (λ (h : BytesRead). h.is_at_end) c.requires.unread)
