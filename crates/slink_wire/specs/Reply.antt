-- The server's replies to a line (SeedLink 3, handshaking).
use Rattle.std.specs.Prelude.{ℕ, List, [], ◌∷◌, ◌++◌, codes}
use Rattle.slink_wire.specs.declared.reply.Reply.{Reply}
use Rattle.slink_wire.specs.declared.reply.Reply.TheVariants.{Nothing, Ok, Error, Hello}

-- CR LF
abbrev pub line_end : List ℕ
line_end = 13 ∷ 10 ∷ []

abbrev pub reply_bytes : Reply → List ℕ
reply_bytes Nothing = []
reply_bytes Ok = codes "OK" ++ line_end
reply_bytes Error = codes "ERROR" ++ line_end
reply_bytes Hello = codes "SeedLink v3.0 (mseed)" ++ line_end ++ codes "mseed feed" ++ line_end
