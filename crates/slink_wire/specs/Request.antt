-- What a client writes (SeedLink 3, commands): lines in capitals, a number in six digits.
use Rattle.std.specs.Prelude.{ℕ, ◌<◌, ◌^◌, Option, Some, None, List, [], ◌∷◌, ◌++◌, IfSome, codes}
use Rattle.slink_wire.specs.declared.command.Command.{Command}
use Rattle.slink_wire.specs.declared.command.Command.TheVariants as command
use Rattle.slink_wire.specs.declared.request.Request.{Request}
use Rattle.slink_wire.specs.declared.request.Request.TheVariants.{Station, Data, Fetch, End}
use Rattle.slink_wire.specs.Hexadecimal.{hexadecimal}
use Rattle.slink_wire.specs.Place.{IsField, code_in}
use Rattle.slink_wire.specs.Reply.{line_end}

-- a number after a keyword
abbrev pub number_bytes : Option ℕ → List ℕ
number_bytes None = []
number_bytes (Some n) = 32 ∷ hexadecimal 6 n

-- a line, without its end
abbrev pub request_line : Request → List ℕ
request_line (Station place) = codes "STATION " ++ code_in place.station ++ codes " " ++ code_in place.network
request_line (Data number) = codes "DATA" ++ number_bytes number
request_line (Fetch number) = codes "FETCH" ++ number_bytes number
request_line End = codes "END"

abbrev pub request_bytes : Request → List ℕ
request_bytes request = request_line request ++ line_end

-- its number has at most six digits
abbrev pub IsShort : Option ℕ → Type 0
IsShort number = IfSome number (λ n. n < 2 ^ 24)

abbrev pub IsSpelled : Request → Type 0
IsSpelled (Data number) = IsShort number
IsSpelled (Fetch number) = IsShort number
IsSpelled request = Unit {0}

-- the fields of its station are those of codes
abbrev pub HasPlace : Request → Type 0
HasPlace (Station place) = IsField 5 place.station × IsField 2 place.network
HasPlace request = Unit {0}

-- the command that is read from it
abbrev pub requested : Request → Command
requested (Station place) = command.Station place.station (Some place.network)
requested (Data number) = command.Data number
requested (Fetch number) = command.Fetch number
requested End = command.End
