-- What a sink in memory accepted.
use Rattle.mseed_stream.specs.Device.{BytesWritten}
use Rattle.slink_model.specs.declared.memory_sink.MemorySink.{MemorySink}

abbrev pub written_by : {A : Type 0} → MemorySink A → BytesWritten
written_by k = record { bytes = k.bytes.items; calls = k.calls.calls; failures = k.calls.failures }
