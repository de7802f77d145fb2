-- The text of a listing.
use Rattle.std.specs.Prelude.{ℕ, Bool, if◌then◌else◌, List, [], ◌∷◌, ◌++◌, length, Option, Some, None, codes}
use Rattle.std.specs.Prelude.{decimal}
use Rattle.mseed_time.specs.declared.order.Order.{Order}
use Rattle.mseed_time.specs.declared.order.Order.TheVariants.{Big, Little}
use Rattle.mseed_time.specs.Rate.{Ratio, rate_of}
use Rattle.mseed_record.specs.Header.{key_at, quality_at, samples_at, factor_at, multiplier_at}
use Rattle.mseed_record.specs.View.{View}
use Rattle.mseed_text.specs.Name.{name_text}
use Rattle.mseed_text.specs.Time.{ratio_text, start_text}

-- a record's rate, or `none`
abbrev pub rate_by : Option Ratio → List ℕ
rate_by (Some rate) = ratio_text rate
rate_by None = codes "none"

abbrev pub rate_text : View → List ℕ
rate_text v = rate_by (rate_of (factor_at v.order v.bytes) (multiplier_at v.order v.bytes))

abbrev pub order_word : Order → List ℕ
order_word Big = codes " big"
order_word Little = codes " little"

-- the text of a record's line, a few at a time
abbrev pub offset_words : ℕ → View → List ℕ
offset_words offset v = decimal offset ++ codes " " ++ name_text (key_at v.bytes)

abbrev pub size_words : View → List ℕ
size_words v =
    codes " " ++ (quality_at v.bytes ∷ []) ++ codes " length " ++ decimal (length v.bytes)
    ++ codes " samples " ++ decimal (samples_at v.order v.bytes)

abbrev pub time_words : View → List ℕ
time_words v = codes " start " ++ start_text v ++ codes " rate " ++ rate_text v

abbrev pub last_words : Bool → List ℕ
last_words has_rate_blockette = if has_rate_blockette then codes " blockette100\n" else codes "\n"

abbrev pub payload_words : View → List ℕ
payload_words v = codes " encoding " ++ decimal v.encoding ++ order_word v.payload_order
    ++ last_words v.has_rate_blockette

-- a record's line, by where it begins
abbrev pub record_line : ℕ → View → List ℕ
record_line offset v = offset_words offset v ++ size_words v ++ time_words v ++ payload_words v

-- how many records there are
abbrev pub count_line : ℕ → List ℕ
count_line records = codes "records " ++ decimal records ++ codes "\n"
