-- What is reported where the port can't be had that was requested.
use Rattle.std.specs.Prelude.{◌≡◌, ℕ, List, [], ◌∷◌, ◌++◌, codes, decimal}
use Rattle.std.specs.Net.Text.{ipv4_text}
use Rattle.mseed_stream.specs.Device.{BytesWritten}
use Rattle.slink_wire.specs.declared.host.Address.{Address}
use Rattle.slink_feed.specs.Reporter.{AreReported}
use Rattle.slink_links.specs.ListenFault.{listen_text}
use Rattle.slink_links.specs.declared.listen_fault.ListenFault.{ListenFault}
use Rattle.mseed_words.specs.declared.request.Endpoint.{Endpoint}

-- the line of it: the address and the port that were requested, and the reason
abbrev pub cannot_listen : Endpoint Address → ListenFault → List ℕ
cannot_listen listener fault =
    codes "mseed: cannot listen at " ++ ipv4_text listener.host.octets ++ codes ":" ++ decimal listener.port
    ++ codes ": " ++ listen_text fault ++ codes "\n"

-- the line of a link that failed, and that one
abbrev pub listen_lines : Endpoint Address → ListenFault → List (List ℕ)
listen_lines listener fault = codes "mseed: link failed\n" ∷ cannot_listen listener fault ∷ []

-- The port can't be had: status 2, and both lines.
abbrev pub IsUnlistened : Endpoint Address → ListenFault → ℕ → BytesWritten → BytesWritten → Type 0
IsUnlistened listener fault status old new = (status ≡ 2) × AreReported (listen_lines listener fault) old new
