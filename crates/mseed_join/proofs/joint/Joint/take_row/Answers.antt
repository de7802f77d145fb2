use Rattle.std.proofs.Common.{sym, ◌∙◌}
use Rattle.std.proofs.lemmas.Bool.{false≢true}
use Rattle.mseed_join.proofs.Rows.{channel_taken, counts_taken, order_flaw, row_flaw}
use Rattle.mseed_join.proofs.joint.Joint.take_row.Goals as goal

pub returns-then-not-is_after : goal.returns-then-not-is_after
returns-then-not-is_after g c =
    order_flaw c.args.self.now c.args.self.now c.args.line.now c.args.last _ _ c.requires.place c.requires.ended
    c.in-Some.ensures.read c.in-Some.ensures.fits
    (λ k. false≢true (sym c.if-not-is_after.true ∙ c.is_after.ensures.1 k))

pub returns-in-Some : goal.returns-in-Some
returns-in-Some g c =
    channel_taken c.args.self.now c.take_channel.new.self c.args.line.now c.args.last _ _ c.take_channel.result
    c.requires.place (c.is_after.ensures.0 c.if-not-is_after.false) c.in-Some.ensures.read c.in-Some.ensures.fits
    c.take_channel.ensures.step c.take_channel.ensures.limit

pub returns-in_default-read_counts_line : goal.returns-in_default-read_counts_line
returns-in_default-read_counts_line g c =
    row_flaw c.args.self.now c.args.self.now c.args.line.now c.args.last c.first_bad_field.result c.requires.place
    c.requires.ended
    c.in_default.ensures.none c.in_default-read_counts_line.ensures.none c.first_bad_field.ensures

pub returns : goal.returns
returns g c =
    counts_taken c.args.self.now c.take_counts.new.self c.args.line.now c.args.last _ _ c.take_counts.result
    c.requires.place c.in-Some-read_counts_line.ensures.read c.in-Some-read_counts_line.ensures.fits
    c.take_counts.ensures.step c.take_counts.ensures.limit
