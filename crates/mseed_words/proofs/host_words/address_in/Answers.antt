use Rattle.std.proofs.Common.{rules, sym}
use Rattle.mseed_words.proofs.host_words.address_in.Goals as goal

pub returns-in_err-octet_in-2 : goal.returns-in_err-octet_in-2
returns-in_err-octet_in-2 c =
    rw (sym c.cut.ensures.before, sym c.cut.ensures.after, sym c.cut-2.ensures.before) (search rules)

pub returns-in_err-octet_in-3 : goal.returns-in_err-octet_in-3
returns-in_err-octet_in-3 c =
    rw (sym c.cut.ensures.before, sym c.cut.ensures.after, sym c.cut-2.ensures.before, sym c.cut-2.ensures.after)
    (rw (sym c.cut-3.ensures.before) (search rules))

pub returns-in_err-octet_in-4 : goal.returns-in_err-octet_in-4
returns-in_err-octet_in-4 c =
    rw (sym c.cut.ensures.before, sym c.cut.ensures.after, sym c.cut-2.ensures.before, sym c.cut-2.ensures.after)
    (rw (sym c.cut-3.ensures.before, sym c.cut-3.ensures.after) (search rules))

pub returns : goal.returns
returns c =
    rw (sym c.cut.ensures.before, sym c.cut.ensures.after, sym c.cut-2.ensures.before, sym c.cut-2.ensures.after)
    (rw (sym c.cut-3.ensures.before, sym c.cut-3.ensures.after) (search rules))
