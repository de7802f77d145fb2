use Rattle.mseed_join.proofs.Extended.{channel_more, none_joined, with_counts}
use Rattle.mseed_join.proofs.part_law.joined_in_turn.Goals as goal

pub returns : goal.returns
returns c = record { none = none_joined; channel = channel_more; counts = with_counts }
