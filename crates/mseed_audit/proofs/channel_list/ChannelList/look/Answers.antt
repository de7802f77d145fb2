use Rattle.std.proofs.Common.{◌≡◌, ◌∙◌, Some, List, ℕ, length, refl, sym, ap, rules}
use Rattle.std.specs.List.{slice_get}
use Rattle.std.specs.Ordering.{is_eq}
use Rattle.std.proofs.lemmas.Option.{slice_get_read}
use Rattle.mseed_audit.specs.declared.channel.Channel.{Channel}
use Rattle.mseed_audit.specs.Places.{AreApart}
use Rattle.mseed_audit.proofs.Placed.{apart_place}
use Rattle.mseed_audit.proofs.Maps.{same_is}
use Rattle.mseed_audit.proofs.channel_list.ChannelList.look.Goals as goal

pub returns-in-Equal : goal.returns-in-Equal
returns-in-Equal g c =
    let es : List (List ℕ × Channel) = c.deref.result.now in
    let e : List ℕ × Channel = c.in-Some.field-0.now in
    let index : ℕ = c.args.index in
    let there : slice_get es index ≡ Some e =
    slice_get_read es (length es) index e refl (search rules) (search rules) in
    let apart : AreApart es = rw c.deref.ensures.value c.self.invariant.0.apart in
    let same : e.0 ≡ c.args.codes = same_is e.0 c.args.codes (ap is_eq (sym c.cmp.ensures ∙ c.in-Equal.is)) in
    rw (← (c.deref.ensures.value ∙ c.self.view_is), ← same) (apart_place es index e apart there)
