-- What went over links, one after another.
use Rattle.std.specs.Prelude.{ℕ, Bool, List, refl}
use Rattle.std.specs.Coded.{Coded, code_by, coded×, coded_ℕ, coded_bool, coded_list}
use Rattle.mseed_stream.specs.Counted.{read_by, written_by}
use Rattle.mseed_stream.specs.Device.{BytesRead, BytesWritten}
use Rattle.mseed_stream.specs.declared.counted.Counted.{Counted}

-- what a link gave, and what it accepted
pub record Exchange : Type 0 where
  pub read : BytesRead
  pub written : BytesWritten

-- of what was read and written
abbrev pub exchange : BytesRead → BytesWritten → Exchange
exchange read written = record { read = read; written = written }

-- over a reader and writer in one
abbrev pub exchange_over : {T : Type 0} → Counted T → Exchange
exchange_over link = exchange (read_by link) (written_by link)

-- the parts by which the logic stores an exchange
abbrev Parts : Type 0
Parts = List ℕ × (ℕ × (ℕ × (Bool × (List ℕ × (ℕ × ℕ)))))

abbrev to_parts : Exchange → Parts
to_parts e = (
  e.read.bytes,
  (e.read.calls, (e.read.failures, (e.read.is_at_end, (e.written.bytes, (e.written.calls, e.written.failures))))),
)

abbrev of_parts : Parts → Exchange
of_parts p = record {
  read = record { bytes = p.0; calls = p.1.0; failures = p.1.1.0; is_at_end = p.1.1.1.0 };
  written = record { bytes = p.1.1.1.1.0; calls = p.1.1.1.1.1.0; failures = p.1.1.1.1.1.1 };
}

-- how the logic stores exchanges
abbrev pub exchanges_code : Coded (List Exchange)
exchanges_code =
    coded_list (code_by Parts
    (coded× (coded_list coded_ℕ)
    (coded× coded_ℕ (coded× coded_ℕ (coded× coded_bool (coded× (coded_list coded_ℕ) (coded× coded_ℕ coded_ℕ))))))
    to_parts of_parts (λ e. refl))
