use Rattle.std.proofs.Common.{◌≡◌, drop, length, rules}
use Rattle.std.proofs.lemmas.List.{take_at}
use Rattle.mseed_repack.proofs.planned.plan_archive.Goals as goal

pub plan_channels-requires-clause-whole : goal.plan_channels-requires-clause-whole
plan_channels-requires-clause-whole g c = rw (c.archive.ensures.views, c.archive.ensures.channels) c.requires.whole

pub returns-clause-ready : goal.returns-clause-ready
returns-clause-ready g c =
    let steps = c.in_ok-steps.steps in
    let xs = c.plan_channels.new.steps in
    let size : length xs ≡ steps.len = search rules in
    rw (
      take_at xs (drop (length xs) steps.items) steps.len size,
      ← c.archive.ensures.views,
      ← c.archive.ensures.channels,
    )
    c.in_ok-packabilities.ensures
