use Rattle.mseed_stream.proofs.whole.write_beyond.Goals as goal

pub returns-in-Err-clause-err : goal.returns-in-Err-clause-err
returns-in-Err-clause-err g c = record {
  text = rw c.deref.ensures.value at c.in-Err.ensures.err;
  part = rw c.deref.ensures.value at c.in-Err.ensures.within;
  failed = c.in-Err.ensures.failed;
}
