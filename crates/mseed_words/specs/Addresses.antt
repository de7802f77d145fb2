-- Where a feed leads, and how long a link may be silent, as the arguments of the command line say.
use Rattle.std.specs.Prelude.{ℕ, Bool, ◌≤◌, ◌==◌, ◌&&◌, ◌||◌, nat_le, nat_lt, [], ◌∷◌, length, if◌then◌else◌}
use Rattle.std.specs.Prelude.{Option, Some, None, option_and_then, option_map}
use Rattle.std.specs.Char.{is_ascii_alphabetic, is_ascii_alphanumeric}
use Rattle.std.specs.List.{after_first, before_first, list_all, list_any}
use Rattle.std.specs.Option.{option_or}
use Rattle.clap.specs.Walk.{Text}
use Rattle.slink_wire.specs.Hosts.{name_of}
use Rattle.slink_wire.specs.declared.host.Address.{Address}
use Rattle.slink_wire.specs.declared.host.Host.{Host}
use Rattle.slink_wire.specs.declared.host.Host.TheVariants as hosts
use Rattle.slink_wire.specs.declared.host.Name.{Name}
use Rattle.slink_wire.specs.declared.host.Timeout.{Timeout}
use Rattle.mseed_words.specs.Numbers.{number_in}

-- how many decimal digits a number of an address has
abbrev pub digits_in : ℕ → ℕ
digits_in n = if nat_lt n 10 then 1 else if nat_lt n 100 then 2 else 3

-- a number of an address: up to 255, without a zero before it
abbrev pub octet_in : Text → Option ℕ
octet_in text =
    option_and_then (λ n. if nat_le n 255 && length text == digits_in n then Some n else None) (number_in text)

-- four numbers, where each can be had
abbrev pub address_with : Option ℕ → Option ℕ → Option ℕ → Option ℕ → Option Address
address_with (Some a) (Some b) (Some c) (Some d) = Some (record { octets = a ∷ b ∷ c ∷ d ∷ [] })
address_with _ _ _ _ = None

-- what stands before the first dot, and what stands after it
abbrev pub before_dot : Text → Text
before_dot text = before_first (λ c. c == 46) text

abbrev pub after_dot : Text → Text
after_dot text = after_first (λ c. c == 46) text

-- an IPv4 address: four numbers with dots between them
abbrev pub address_in : Text → Option Address
address_in text =
    address_with (octet_in (before_dot text)) (octet_in (before_dot (after_dot text)))
    (octet_in (before_dot (after_dot (after_dot text)))) (octet_in (after_dot (after_dot (after_dot text))))

-- a letter, a digit, `-`, `.` or `_`
abbrev pub is_in_name : ℕ → Bool
is_in_name c = is_ascii_alphanumeric c || (c == 45 || (c == 46 || c == 95))

-- of such characters, with a letter among them
abbrev pub is_name : Text → Bool
is_name text = list_all is_in_name text && list_any is_ascii_alphabetic text

-- a name of at most 253 characters
abbrev pub name_in : Text → Option Name
name_in text = if is_name text then name_of text else None

-- an address, where there is one, and else a name
abbrev pub host_in : Text → Option Host
host_in text = option_or (option_map hosts.Address (address_in text)) (option_map hosts.Name (name_in text))

-- up to a day
abbrev pub timeout_by : ℕ → Option Timeout
timeout_by n = if nat_le n 86400 then Some (record { seconds = n }) else None

-- how long a link may be silent, in seconds of up to five digits
abbrev pub timeout_in : Text → Option Timeout
timeout_in text = if nat_lt 5 (length text) then None else option_and_then timeout_by (number_in text)

abbrev pub IsTimeout : Timeout → Type 0
IsTimeout timeout = timeout.seconds ≤ 86400
