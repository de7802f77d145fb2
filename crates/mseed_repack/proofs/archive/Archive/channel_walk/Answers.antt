use Rattle.std.proofs.Common.{◌∙◌, arith, get_or, map, refl, sym}
use Rattle.mseed_record.specs.Viewing.{view_of}
use Rattle.mseed_audit.proofs.Following.{views_are}
use Rattle.mseed_repack.proofs.Linked.{nexts_after, trail_at}
use Rattle.mseed_repack.proofs.archive.Archive.channel_walk.Goals as goal

pub returns-clause-channel_walk : goal.returns-clause-channel_walk
returns-clause-channel_walk c =
    let a = c.args.self.now in
    let channel = c.index-channels-number.result in
    let laid = c.requires.audited.laid in
    let rs = a.views.now in
    let first = get_or a.firsts.now c.args.number 0 in
    let channel_walk = trail_at _ _ _ _ _ _ laid.links c.requires.inside c.index-channels-number.is in
    record {
      channel = channel;
      at = c.index-channels-number.is;
      codes_are = refl;
      led = record {
        of = channel_walk.first_is.of;
        nexts_are = nexts_after channel.0 rs 0 first a.nexts.now (omega arith) channel_walk.nexts_are;
        nexts_count = laid.nexts_count;
      };
      records_are = sym channel_walk.first_is.none ∙ sym (views_are channel.0 (map view_of rs));
    }
