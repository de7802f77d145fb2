use Rattle.slink_tests.proofs.model.ends_where_a_record_is_lost.Goals as goal

pub is_overrun-requires : goal.is_overrun-requires
is_overrun-requires g c = c.push.ensures c.asking-session.result.state c.asking-session.ensures
