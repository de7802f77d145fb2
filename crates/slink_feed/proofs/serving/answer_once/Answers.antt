use Rattle.std.proofs.Common.{◌≡◌, ◌≢◌, ◌∙◌, ℕ, List, ap, arith, length}
use Rattle.std.proofs.lemmas.List.{length-take-le}
use Rattle.mseed_stream.specs.Device.{BytesWritten}
use Rattle.slink_feed.specs.Attending.{GoesOn, at_read, at_reply, attending, is_at_end, replies}
use Rattle.slink_feed.specs.Rounds.{Attending}
use Rattle.slink_feed.specs.Serving.{SessionState}
use Rattle.slink_feed.specs.Window.{Window}
use Rattle.slink_feed.specs.declared.session.Phase.TheVariants.{Closed}
use Rattle.slink_feed.specs.private.Replying.{HasSent}
use Rattle.slink_feed.proofs.Attended.{stays}
use Rattle.slink_feed.proofs.serving.answer_once.Goals as goal

-- a read leaves what the link accepted as it was
goes_on : (feed : List Window) (start : Attending) (session : SessionState) (was is : BytesWritten) (count : ℕ)
    → is ≡ was → HasSent feed start (attending session was) count → session.state.phase ≢ Closed
    → GoesOn feed start (attending session is)
goes_on feed start session was is count same sent awake = rw same (record { sends = sent.sends; open_still = awake })

pub returns-in-Err-clause-fault : goal.returns-in-Err-clause-fault
returns-in-Err-clause-fault g c start sent =
    at_read (goes_on _ _ _ _ _ _ c.read_once.ensures.written sent c.requires.awake) c.in-Err.ensures.failed

pub returns-then-count-eq0-clause-ok : goal.returns-then-count-eq0-clause-ok
returns-then-count-eq0-clause-ok g c start sent =
    is_at_end (goes_on _ _ _ _ _ _ c.read_once.ensures.written sent c.requires.awake)
    (rw c.if-count-eq0.true at c.in-Ok.ensures.read)

pub returns-in-Ok-reply_to_all-clause-ok : goal.returns-in-Ok-reply_to_all-clause-ok
returns-in-Ok-reply_to_all-clause-ok g c start sent =
    let long = length-take-le c.in-Ok.count c.read_once.new.room c.in-Ok.ensures.within in
    replies _ _ (goes_on _ _ _ _ _ _ c.read_once.ensures.written sent c.requires.awake)
    (stays (g.met.S.Duplex.writes_apart c.reply_to_all.new.link) c.reply_to_all.ensures.beside
    (g.met.S.Duplex.writes_apart c.read_once.new.link) ∙ c.in-Ok.ensures.read)
    (omega (arith, long, c.if-count-eq0.false)) (omega (arith, long, c.in-Ok.ensures.within, c.read_once.auto.room))
    c.in-Ok-reply_to_all.ensures.ok

pub returns-in-Err-reply_to_all-clause-fault : goal.returns-in-Err-reply_to_all-clause-fault
returns-in-Err-reply_to_all-clause-fault g c start sent =
    let long = length-take-le c.in-Ok.count c.read_once.new.room c.in-Ok.ensures.within in
    let fails = c.in-Err-reply_to_all.ensures.fault in
    at_reply _ _ _ (goes_on _ _ _ _ _ _ c.read_once.ensures.written sent c.requires.awake)
    (stays (g.met.S.Duplex.writes_apart c.reply_to_all.new.link) c.reply_to_all.ensures.beside
    (g.met.S.Duplex.writes_apart c.read_once.new.link) ∙ c.in-Ok.ensures.read)
    (omega (arith, long, c.in-Ok.ensures.within, c.read_once.auto.room)) fails.fails
    (omega (arith, fails.counted, sent.counted, ap (λ (w : BytesWritten). length w.bytes) c.read_once.ensures.written))

pub returns-in-Ok-reply_to_all-clause-fits : goal.returns-in-Ok-reply_to_all-clause-fits
returns-in-Ok-reply_to_all-clause-fits g c = c.reply_to_all.ensures.fits

pub returns-in-Ok-reply_to_all-clause-stands : goal.returns-in-Ok-reply_to_all-clause-stands
returns-in-Ok-reply_to_all-clause-stands g c = c.reply_to_all.ensures.stands

pub returns-in-Err-reply_to_all-clause-fits : goal.returns-in-Err-reply_to_all-clause-fits
returns-in-Err-reply_to_all-clause-fits g c = c.reply_to_all.ensures.fits

pub returns-in-Err-reply_to_all-clause-stands : goal.returns-in-Err-reply_to_all-clause-stands
returns-in-Err-reply_to_all-clause-stands g c = c.reply_to_all.ensures.stands
