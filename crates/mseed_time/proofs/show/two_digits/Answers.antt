use Rattle.mseed_time.proofs.Digits.{digits_at}
use Rattle.mseed_time.proofs.show.two_digits.Goals as goal

pub returns : goal.returns
returns c = digits_at c.args.number c.requires
