-- Why arguments that a command takes request nothing that there is, and the words in which that is said.
use Rattle.std.specs.Prelude.{◌++◌, Result, Ok, Err, Option, Some, None, codes}
use Rattle.clap.specs.Walk.{Text}
use Rattle.mseed_words.specs.Names.{word_of}
use Rattle.mseed_words.specs.declared.command_name.CommandName.{CommandName}
use Rattle.mseed_words.specs.declared.mistake.Mistake.{Mistake}
use Rattle.mseed_words.specs.declared.mistake.Mistake.TheVariants as mistake
use Rattle.mseed_words.specs.declared.mistake.PlaceFault.{PlaceFault}
use Rattle.mseed_words.specs.declared.mistake.PlaceFault.TheVariants as place
use Rattle.mseed_words.specs.declared.mistake.Valued.{Valued}
use Rattle.mseed_words.specs.declared.mistake.Valued.TheVariants as option
use Rattle.mseed_words.specs.declared.mistake.Wanted.{Wanted}
use Rattle.mseed_words.specs.declared.mistake.Wanted.TheVariants as wanted

-- what comes of a value, unless it is refused
abbrev pub and_then : {A B : Type 0} → Result A Mistake → (A → Result B Mistake) → Result B Mistake
and_then (Ok x) f = f x
and_then (Err m) f = Err m

-- a value made of another one, unless that is refused
abbrev pub mapped : {A B : Type 0} → (A → B) → Result A Mistake → Result B Mistake
mapped f (Ok x) = Ok (f x)
mapped f (Err m) = Err m

-- the name of an option
abbrev pub name_text : Valued → Text
name_text option.Channels = codes "channels"
name_text option.From = codes "from"
name_text option.Until = codes "until"
name_text option.Length = codes "length"
name_text option.Encoding = codes "encoding"
name_text option.Expect = codes "expect"
name_text option.Port = codes "port"
name_text option.Station = codes "station"
name_text option.Network = codes "network"
name_text option.Address = codes "address"
name_text option.Timeout = codes "timeout"
name_text option.Capacity = codes "capacity"
name_text option.First = codes "first"
name_text option.Connections = codes "connections"
name_text option.Clients = codes "clients"
name_text option.Tries = codes "tries"

-- the option before its value
abbrev pub option_text : Valued → Text
option_text option = codes "--" ++ name_text option ++ codes " "

-- what is wrong with a value, and what would be right
abbrev pub wanted_text : Wanted → Text
wanted_text wanted.Patterns =
    codes ": no patterns; one is NET_STA_LOC_CHA, as IU_ANMO_00_BH?, with commas between several"
wanted_text wanted.Time =
    codes ": no time; a time is as 2024-05-14T03:20 or 2024-135"
wanted_text wanted.Day =
    codes ": no such day; a time is as 2024-05-14T03:20 or 2024-135"
wanted_text wanted.Clock =
    codes ": no such time of day; a time is as 2024-05-14T03:20 or 2024-135"
wanted_text wanted.Later =
    codes ": not after --from; records are asked for from --from up to --until"
wanted_text wanted.AllOfPart =
    codes ": not with --part, which is of all records"
wanted_text wanted.Length =
    codes ": no length; it is 128, 256, 512, 1024, 2048 or 4096 bytes"
wanted_text wanted.Encoding =
    codes ": no encoding; it is int16, int32, steim1 or steim2"
wanted_text wanted.Parts =
    codes ": no number of parts; it is 1 to 999999999, in 1 to 9 digits"
wanted_text wanted.Count =
    codes ": no number in its range, which the help of the command gives"
wanted_text wanted.Station =
    codes ": no station; it is 1 to 5 letters or digits, as ANMO"
wanted_text wanted.Network =
    codes ": no network; it is 1 or 2 letters or digits, as IU"
wanted_text wanted.Address =
    codes ": no address; it is as 127.0.0.1"
wanted_text wanted.Host =
    codes ": no host; it is an address, as 127.0.0.1, or a name, as localhost"
wanted_text wanted.Seconds =
    codes ": no time to wait; it is 0 to 86400 seconds, in 1 to 5 digits"
wanted_text wanted.Capacity =
    codes ": no capacity; it is 1 to 1000000 records, in 1 to 7 digits"
wanted_text wanted.Hexadecimal =
    codes ": no number of a record; it is 0 to FFFFFF, in 1 to 6 hexadecimal digits"
wanted_text wanted.NotLive =
    codes ": not with --live, which has --clients"
wanted_text wanted.Live =
    codes ": only with --live; without it there is --connections"

-- what is wrong with a further place, and what would be right
abbrev pub place_text : PlaceFault → Text
place_text place.Plain =
    codes ": no station; it is NET_STA, as IU_ANMO"
place_text place.Numbered =
    codes ": no station; it is NET_STA or NET_STA:HEX, as IU_ANMO or IU_ANMO:00001F"
place_text place.Again =
    codes ": given twice; each station is given once"
place_text place.Many =
    codes ": one too many; there are at most 16 stations"

-- that a word names no command, which one is near, if one is, and which ones there are
abbrev pub near_text : Option CommandName → Text
near_text None = codes ": no command; there are audit, join, show, select, repack, serve and fetch"
near_text (Some name) =
    codes ": no command, but " ++ word_of name
    ++ codes " is one; there are audit, join, show, select, repack, serve and fetch"

-- the words of the line up to what was given
abbrev pub before_text : Mistake → Text
before_text (mistake.Command near) = codes ""
before_text (mistake.Value option wanted) = option_text option
before_text mistake.Leave = codes "--leave"
before_text mistake.EachPart = codes "--each"
before_text (mistake.Place index fault) = codes ""
before_text mistake.EmptyFile = codes "an empty argument"
before_text mistake.InputAgain = codes "-"

-- and those after it
abbrev pub after_text : Mistake → Text
after_text (mistake.Command near) = near_text near
after_text (mistake.Value option wanted) = wanted_text wanted
after_text mistake.Leave = codes ": only with --stretches"
after_text mistake.EachPart = codes ": not with --part; of the two join takes one"
after_text (mistake.Place index fault) = place_text fault
after_text mistake.EmptyFile = codes ": it names no file"
after_text mistake.InputAgain = codes ": given twice; standard input is read once"
