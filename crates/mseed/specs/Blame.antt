-- What is wrong with an input, by what a command came to.
use Rattle.mseed_join.specs.declared.fault.JoinFault.{JoinFault}
use Rattle.mseed_join.specs.declared.fault.JoinFault.TheVariants as joins
use Rattle.mseed_repack.specs.declared.fault.RepackFault.{RepackFault}
use Rattle.mseed_repack.specs.declared.fault.RepackFault.TheVariants as packing
use Rattle.mseed_files.specs.Blame.{blame_of}
use Rattle.mseed_files.specs.declared.blame.Blame.{Blame}
use Rattle.mseed_files.specs.declared.blame.Blame.TheVariants as blames

-- of parts that weren't joined: a bad line lies where it begins; a wrong number of parts lies nowhere
abbrev pub join_blame : JoinFault → Blame
join_blame (joins.Line number offset flaw) = blames.Fault offset
join_blame (joins.Stream fault) = blame_of fault
join_blame fault = blames.Nothing

-- of an archive that wasn't packed anew
abbrev pub packing_blame : RepackFault → Blame
packing_blame (packing.Stream fault) = blame_of fault
packing_blame fault = blames.Nothing
