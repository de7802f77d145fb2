-- Where the records that a client asks for begin.
use Rattle.std.specs.Prelude.{ℕ, Bool, true, false, Option, Some, None}
use Rattle.slink_feed.specs.declared.grant.Mode.{Mode}
use Rattle.slink_feed.specs.declared.grant.Mode.TheVariants.{Data, Fetch}
use Rattle.slink_feed.specs.Window.{Window, oldest_of, resolve_of}

-- DATA without a number begins at the next record, FETCH without one at the oldest; with one, both begin at the record
-- of
-- that number, which is there or is the next one. Otherwise there is no grant.
abbrev pub grant_of : Mode → Option ℕ → Window → Option ℕ
grant_of Data None w = Some w.next
grant_of Fetch None w = Some (oldest_of w)
grant_of Data (Some seq) w = resolve_of w seq
grant_of Fetch (Some seq) w = resolve_of w seq

abbrev pub is_fetch : Mode → Bool
is_fetch Data = false
is_fetch Fetch = true
