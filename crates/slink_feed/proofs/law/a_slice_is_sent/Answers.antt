use Rattle.std.proofs.Common.{inl}
use Rattle.slink_feed.proofs.Sendings.{answer_read, slice_sent}
use Rattle.slink_feed.proofs.law.a_slice_is_sent.Goals as goal

pub returns-clause-slice : goal.returns-clause-slice
returns-clause-slice c = λ k first pushed called s g on at_k are shown. slice_sent _ _ _ _ _ g (inl on) at_k are shown

pub returns-clause-lines : goal.returns-clause-lines
returns-clause-lines c = λ feed s new what reply on is. answer_read feed s new what reply on is
