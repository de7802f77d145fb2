use Rattle.mseed_repack.proofs.SoundRecords.{sound_exactly}
use Rattle.mseed_repack.proofs.sound.is_sound.Goals as goal

pub returns : goal.returns
returns c =
    sound_exactly c.one_reading.ensures c.one_fault.ensures.excludes _ _ _ c.own_finding.ensures c.is_none.ensures
