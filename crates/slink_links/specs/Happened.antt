-- What a contract reads of a device over TCP.
use Rattle.std.specs.Prelude.{List, Bool}
use Rattle.slink_live.specs.Happening.{Happening}
use Rattle.slink_links.specs.declared.live_tcp.LiveTcp.{LiveTcp}

-- what happened at it so far
abbrev pub happened : {C I : Type 0} → LiveTcp C I → List Happening
happened t = t.log.all

-- nothing comes any more
abbrev pub has_failed : {C I : Type 0} → LiveTcp C I → Bool
has_failed t = t.has_failed
