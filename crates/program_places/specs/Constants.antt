-- What a program tells of its static data: the bytes that nothing writes, as they stand in the first memory.
use Rattle.std.specs.Prelude.{ℕ, ◌+◌, ◌&&◌, ◌||◌, Bool, List, length, nat_le, nat_lt, Option, None, Some, slice_index}
use Rattle.std.specs.Prelude.{if◌then◌else◌}
use Rattle.std.specs.List.{list_any}
use Rattle.pli_meaning.specs.Pictures.{first_bytes}
use Rattle.pli_coding.specs.Assembly.{Code, Datum, DataPlace}
use Rattle.pli_coding.specs.Images.{picture_of_code}
use Rattle.pli_coding.specs.Linking.{links_of, place_of}
use Rattle.pli_coding.specs.StaticData.{datum_bytes, is_constant, is_initial, static_data}

-- where a datum of the code stands, and with which bytes
abbrev pub datum_at : Code → Datum → ℕ
datum_at code d = place_of (links_of code) (DataPlace d)

abbrev pub bytes_for : Code → Datum → List ℕ
bytes_for code d = datum_bytes (links_of code).data' (datum_at code d) d

-- lists of INITIAL values and constants are written by nothing; words for signatures' numbers and STATIC storage are
-- written
abbrev pub is_unwritten : Datum → Bool
is_unwritten d = is_initial d || is_constant d

-- a place is that of a byte of such a datum
abbrev pub is_told_at : Code → (place : ℕ) → Datum → Bool
is_told_at code place d =
    is_unwritten d && (nat_le (datum_at code d) place && nat_lt place (datum_at code d + length (bytes_for code d)))

-- what is told
abbrev pub constants_in : Code → (place : ℕ) → Option ℕ
constants_in code place =
    if list_any (is_told_at code place) (static_data code)
    then Some (slice_index (first_bytes (picture_of_code code)) place) else None
