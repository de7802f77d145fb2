-- What a command reads and writes.
use Rattle.mseed_stream.specs.Device.{BytesRead, BytesWritten}

-- what was read of the input, and what the output and the errors accepted
pub record Streams : Type 0 where
  pub input : BytesRead
  pub output : BytesWritten
  pub errors : BytesWritten

abbrev pub streams : BytesRead → BytesWritten → BytesWritten → Streams
streams input output errors = record { input = input; output = output; errors = errors }
