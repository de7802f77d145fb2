-- What the words of the two commands of a feed ask for.
use Rattle.std.specs.Prelude.{ℕ, Bool, ◌≤◌, ◌<◌, ◌^◌, ◌-◌, ◌==◌, ◌&&◌, nat_le, nat_lt, List, [], ◌∷◌, ◌++◌, length}
use Rattle.std.specs.Prelude.{if◌then◌else◌, Result, Ok, Err, ok_or}
use Rattle.std.specs.Prelude.{Option, Some, None, is_some, option_and_then, option_map, codes}
use Rattle.std.specs.Char.{is_ascii_alphanumeric}
use Rattle.std.specs.List.{after_first, before_first, list_all, position_or_len}
use Rattle.clap.specs.Walk.{Row, Text, first_of}
use Rattle.slink_wire.specs.Place.{Fields, fields_of}
use Rattle.mseed_words.specs.Found.{is_set, further_in, text_or}
use Rattle.mseed_words.specs.Mistakes.{and_then, mapped, name_text}
use Rattle.mseed_words.specs.Numbers.{counted_in, hexadecimal_in, number_in}
use Rattle.mseed_words.specs.Places.{ArePlaces, Called, has_place}
use Rattle.mseed_words.specs.declared.feed_words.Naming.{Naming}
use Rattle.mseed_words.specs.declared.feed_words.Naming.TheVariants.{Plain, Numbered}
use Rattle.mseed_words.specs.declared.mistake.Mistake.{Mistake}
use Rattle.mseed_words.specs.declared.mistake.Mistake.TheVariants.{Value, Place}
use Rattle.mseed_words.specs.declared.mistake.PlaceFault.{PlaceFault}
use Rattle.mseed_words.specs.declared.mistake.PlaceFault.TheVariants as fault
use Rattle.mseed_words.specs.declared.mistake.Valued.{Valued}
use Rattle.mseed_words.specs.declared.mistake.Valued.TheVariants as option
use Rattle.mseed_words.specs.declared.mistake.Wanted.TheVariants as wanted
use Rattle.slink_wire.specs.declared.host.Address.{Address}
use Rattle.slink_wire.specs.declared.host.Host.{Host}
use Rattle.slink_wire.specs.declared.host.Timeout.{Timeout}
use Rattle.mseed_words.specs.Addresses.{IsTimeout, address_in, host_in, timeout_in}
use Rattle.mseed_words.specs.declared.request.Endpoint.{Endpoint}
use Rattle.mseed_words.specs.declared.request.LiveServing.{LiveServing}
use Rattle.mseed_words.specs.declared.request.Serving.{Serving}
use Rattle.mseed_words.specs.declared.request.Fetching.{Fetching}

-- a code: 1 to `width` ASCII letters or digits
abbrev pub is_code : ℕ → Text → Bool
is_code width code = nat_le 1 (length code) && (nat_le (length code) width && list_all is_ascii_alphanumeric code)

-- the place of a station's and a network's code
abbrev pub place_by : Text → Text → Option Fields
place_by sta net = if is_code 5 sta && is_code 2 net then Some (fields_of sta net) else None

-- the place that a word names: the network's code before its first underscore, the station's after it
abbrev pub place_in : Text → Option Fields
place_in word = place_by (after_first (λ c. c == 95) word) (before_first (λ c. c == 95) word)

-- what is wrong with the codes of a station and its network, one of which is none: with the network's where the
-- station's is one
abbrev pub code_mistake : Text → Mistake
code_mistake sta =
    if is_code 5 sta then Value option.Network wanted.Network else Value option.Station wanted.Station

-- the place that the two options name
abbrev pub place_named : Text → Text → Result Fields Mistake
place_named sta net = ok_or (place_by sta net) (code_mistake sta)

abbrev pub place_of : List Row → Result Fields Mistake
place_of rows = place_named (text_or (codes "station") (codes "") rows) (text_or (codes "network") (codes "") rows)

-- a place, with the number that is given, if one is: in hexadecimal digits
abbrev pub called_with : Option Fields → Option Text → Option Called
called_with None digits = None
called_with (Some place) None = Some (place, None)
called_with (Some place) (Some digits) = option_map (λ number. (place, Some number)) (hexadecimal_in digits)

-- what stands after the first colon, where there is one
abbrev pub after_colon : Text → Option Text
after_colon word =
    if nat_lt (position_or_len (λ c. c == 58) word) (length word) then Some (after_first (λ c. c == 58) word) else None

-- a further place: `NET_STA`, or, where it can have a number, `NET_STA:HEX` as well
abbrev pub called_in : Naming → Text → Option Called
called_in Plain word = called_with (place_in word) None
called_in Numbered word = called_with (place_in (before_first (λ c. c == 58) word)) (after_colon word)

-- the number of a record, as an option gives it
abbrev pub number_of : Valued → Text → Result ℕ Mistake
number_of option digits = ok_or (hexadecimal_in digits) (Value option wanted.Hexadecimal)

-- the place of the two options, with the number that is given of it, if one is
abbrev pub numbered : Option Text → Fields → Result Called Mistake
numbered None place = Ok (place, None)
numbered (Some digits) place = mapped (λ number. (place, Some number)) (number_of option.From digits)

abbrev pub first_place : Option Text → List Row → Result Called Mistake
first_place from rows = and_then (place_of rows) (numbered from)

-- what a word lacks that names no place
abbrev pub unnamed : Naming → PlaceFault
unnamed Plain = fault.Plain
unnamed Numbered = fault.Numbered

-- a further place, after these: one that isn't there yet, and at most the sixteenth
abbrev pub next_place : Naming → List Called → Option Called → Result (List Called) Mistake
next_place naming taken None = Err (Place (length taken - 1) (unnamed naming))
next_place naming taken (Some place) =
    if length taken == 16 then Err (Place (length taken - 1) fault.Many)
    else if has_place place.0 taken then Err (Place (length taken - 1) fault.Again) else Ok (taken ++ place ∷ [])

-- the places of these words, one after another, after the first one: they have the numbers from 0 on
abbrev pub gathered : Naming → List Called → List Text → Result (List Called) Mistake
gathered naming taken [] = Ok taken
gathered naming taken (word ∷ words) =
    and_then (next_place naming taken (called_in naming word)) (λ places. gathered naming places words)

-- the place of `--station` and `--network`, and the further ones
abbrev pub places_in : Naming → Option Text → List Row → Result (List Called) Mistake
places_in naming from rows =
    and_then (first_place from rows) (λ first. gathered naming (first ∷ []) (further_in rows))

-- a number from 1 to `most`, as an option gives it, and `default` where it isn't given
abbrev pub count_of : Valued → ℕ → Text → List Row → Result ℕ Mistake
count_of option most default rows =
    ok_or (counted_in most (text_or (name_text option) default rows)) (Value option wanted.Count)

-- a ring's capacity: from one record to a million
abbrev pub capacity_by : ℕ → Option ℕ
capacity_by n = if nat_le 1 n && nat_le n 1000000 then Some n else None

abbrev pub capacity_in : Text → Option ℕ
capacity_in text = option_and_then capacity_by (number_in text)

-- a thousand where none is given
abbrev pub capacity_of : List Row → Result ℕ Mistake
capacity_of rows =
    ok_or (capacity_in (text_or (codes "capacity") (codes "1000") rows)) (Value option.Capacity wanted.Capacity)

-- a machine, this one where none is named
abbrev pub machine_named : List Row → Text
machine_named rows = text_or (codes "address") (codes "127.0.0.1") rows

abbrev pub address_of : List Row → Result Address Mistake
address_of rows = ok_or (address_in (machine_named rows)) (Value option.Address wanted.Address)

abbrev pub host_of : List Row → Result Host Mistake
host_of rows = ok_or (host_in (machine_named rows)) (Value option.Address wanted.Host)

abbrev pub port_of : List Row → Result ℕ Mistake
port_of rows = count_of option.Port 65535 (codes "") rows

-- ten minutes where none is given
abbrev pub timeout_of : List Row → Result Timeout Mistake
timeout_of rows =
    ok_or (timeout_in (text_or (codes "timeout") (codes "600") rows)) (Value option.Timeout wanted.Seconds)

-- a machine, with the port and the time-out that the options give
abbrev pub endpoint_of : {H : Type 0} → H → List Row → Result (Endpoint H) Mistake
endpoint_of host rows =
    and_then (port_of rows) (λ port. and_then (timeout_of rows) (λ timeout.
    Ok (record { host = host; port = port; timeout = timeout })))

-- a feed to be served, whether or not records come, and where nothing is given to one connection, from rings of a
-- thousand records, of which the first has the number 0; its places have no numbers of their own
abbrev pub serving_in : List Row → Result Serving Mistake
serving_in rows =
    and_then (address_of rows) (λ address. and_then (endpoint_of address rows) (λ listener.
    and_then (count_of option.Connections 1000000 (codes "1") rows) (λ connections.
    and_then (capacity_of rows) (λ capacity.
    and_then (number_of option.First (text_or (codes "first") (codes "0") rows)) (λ first.
    and_then (places_in Plain None rows) (λ places.
    Ok (record {
      listener = listener;
      connections = connections;
      capacity = capacity;
      first = first;
      places = places;
    })))))))

-- a feed to be served once all its records are there: a number of clients doesn't go with it
abbrev pub serving_of : List Row → Result Serving Mistake
serving_of rows =
    if is_some (first_of (codes "clients") rows) then Err (Value option.Clients wanted.Live) else serving_in rows

-- a feed to be served while its records come, to 64 clients at once where no number is given: a number of connections
-- doesn't go with it
abbrev pub live_in : List Row → Result LiveServing Mistake
live_in rows =
    and_then (serving_in rows) (λ serving. and_then (count_of option.Clients 1024 (codes "64") rows) (λ clients.
    Ok (record { serving = serving; clients = clients })))

abbrev pub live_serving_of : List Row → Result LiveServing Mistake
live_serving_of rows =
    if is_some (first_of (codes "connections") rows) then Err (Value option.Connections wanted.NotLive)
    else live_in rows

-- a feed to be fetched, by one try where no number is given: `--from` is the number of the first place
abbrev pub fetching_of : List Row → Result Fetching Mistake
fetching_of rows =
    and_then (host_of rows) (λ host. and_then (endpoint_of host rows) (λ server.
    and_then (count_of option.Tries 1000000 (codes "1") rows) (λ tries.
    and_then (places_in Numbered (first_of (codes "from") rows) rows) (λ places.
    Ok (record {
      server = server;
      tries = tries;
      places = places;
      report_next = is_set (codes "tell-next") rows;
      holes = is_set (codes "holes") rows;
    })))))

-- a port that there is
abbrev pub IsPort : ℕ → Type 0
IsPort port = (1 ≤ port) × (port ≤ 65535)

-- one to a million
abbrev pub IsCount : ℕ → Type 0
IsCount count = (1 ≤ count) × (count ≤ 1000000)

-- a port that there is, and a time of up to a day
pub record IsEndpoint {H : Type 0} (endpoint : Endpoint H) : Type 0 where
  pub port : IsPort endpoint.port
  pub timeout : IsTimeout endpoint.timeout

-- what a feed can be served by
pub record CanServe (serving : Serving) : Type 0 where
  pub listener : IsEndpoint serving.listener
  pub connections : IsCount serving.connections
  pub capacity : IsCount serving.capacity
  pub first : serving.first < 2 ^ 24
  pub places : ArePlaces serving.places

-- one to 1,024
abbrev pub IsClients : ℕ → Type 0
IsClients clients = (1 ≤ clients) × (clients ≤ 1024)

-- what a feed can be served by while its records come
pub record CanServeLive (live : LiveServing) : Type 0 where
  pub serving : CanServe live.serving
  pub clients : IsClients live.clients

-- what a feed can be fetched by
pub record CanFetch (fetching : Fetching) : Type 0 where
  pub server : IsEndpoint fetching.server
  pub tries : IsCount fetching.tries
  pub places : ArePlaces fetching.places
