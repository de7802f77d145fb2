use Rattle.std.proofs.Common.{◌≡◌, ◌∙◌, ◌++◌, List, [], ℕ, ap}
use Rattle.mseed_stream.proofs.Calls.{grown}
use Rattle.mseed_c.specs.private.Reported.{says_of}
use Rattle.mseed_c.proofs.Texts.{shown}
use Rattle.mseed_c.proofs.auditing.show_text.Goals as goal

pub returns-in-Some-clause-shown : goal.returns-in-Some-clause-shown
returns-in-Some-clause-shown c = λ some.
    let told = c.in-Some.ensures.reported in
    let reported = grown _ _ _ _ _ _ told.text c.write_text.ensures.writes told.bytes in
    let none : c.new-sink.result.inner.items ≡ [] = ap (λ v. v.items) c.new-sink.ensures.inner ∙ c.new.ensures.items in
    let held : c.write_text.new.sink.inner.items ≡ told.text =
    reported ∙ ap (λ (xs : List ℕ). xs ++ told.text) none in
    let lent : c.deref.result.now ≡ told.text =
    c.deref.ensures.value ∙ ap (λ v. v.items) c.get_ref.ensures ∙ held in
    shown (says_of c.args.text) c.args.bytes.now c.args.room.now c.show.new.room c.new-source.result
    c.write_text.new.source c.in-Some.summary told.text c.deref.result.now c.show.new.totals c.show.result
    c.new-source.ensures.read c.new-source.ensures.left c.write_text.ensures.reads.more c.write_text.ensures.reads.known
    told.says lent c.show.ensures.room c.show.ensures.totals c.show.ensures.status
