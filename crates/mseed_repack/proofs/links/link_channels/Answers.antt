use Rattle.std.proofs.Common.{◌≡◌, ◌++◌, List, ℕ, drop, length, rules, subst, sym, take}
use Rattle.std.proofs.lemmas.List.{take_at}
use Rattle.mseed_repack.specs.private.Links.{AreLinked}
use Rattle.mseed_repack.proofs.links.link_channels.Goals as goal

-- the lists are written back whole
pub returns : goal.returns
returns g c =
    let rs = c.args.views.now in
    let cs = c.args.channels.now in
    let firsts : List ℕ = c.link_records.new.firsts in
    let nexts : List ℕ = c.link_records.new.nexts in
    let further : List ℕ = drop (length nexts) c.in_ok-nexts.nexts.items in
    let first_size : length firsts ≡ c.in_ok-firsts.firsts.len = search rules in
    let next_size : length nexts ≡ c.in_ok-nexts.nexts.len = search rules in
    let first_count : length firsts ≡ length cs = search rules in
    let next_count : length nexts ≡ length rs = search rules in
    subst (λ (ks : List ℕ). AreLinked rs cs ks (take c.in_ok-nexts.nexts.len (nexts ++ further)))
    (sym (take_at firsts (drop (length firsts) c.in_ok-firsts.firsts.items) c.in_ok-firsts.firsts.len first_size))
    (subst (λ (ks : List ℕ). AreLinked rs cs firsts ks) (sym (take_at nexts further c.in_ok-nexts.nexts.len next_size))
    (record { links = c.link_records.ensures; firsts_count = first_count; nexts_count = next_count }))
