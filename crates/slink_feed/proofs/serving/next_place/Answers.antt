use Rattle.std.proofs.Common.{◌+◌, ◌∙◌, length, refl, sym}
use Rattle.std.proofs.lemmas.Bool.{eq-eqb, ne_eqb}
use Rattle.slink_feed.proofs.serving.next_place.Goals as goal

pub returns-then-k-count : goal.returns-then-k-count
returns-then-k-count g c =
    rw (eq-eqb (c.args.k + 1) (length c.args.feed.now) (c.if-k-count.true ∙ c.len-count.ensures.value)) refl

pub returns-else-k-count : goal.returns-else-k-count
returns-else-k-count g c =
    rw (ne_eqb (c.args.k + 1) (length c.args.feed.now)
    (λ same. c.if-k-count.false (same ∙ sym c.len-count.ensures.value))) refl
