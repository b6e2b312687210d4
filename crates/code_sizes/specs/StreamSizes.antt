-- How many words the code of GET and PUT has at most, by their typed trees.
use Rattle.std.specs.Prelude.{ℕ, ◌+◌, ◌≤◌, List, [], ◌∷◌, Option}
use Rattle.pli_typing.specs.TypedTree as Y
use Rattle.pli_coding.specs.Assembly.{size_of}
use Rattle.pli_coding.specs.Environments.{Environment, Taken}
use Rattle.pli_coding.specs.Streams.{get_code, put_code}
use Rattle.code_sizes.specs.ExpressionSizes.{number_size, text_size, bit_size, reference_size}
use Rattle.code_sizes.specs.StoringSizes.{record_size}

-- a number, a text or a bit; no code puts another value, nor lets a DO begin with one
abbrev pub value_size : Y.Value → ℕ
value_size (Y.NumberValue precision x) = number_size x
value_size (Y.TextValue x) = text_size x
value_size (Y.BitValue x) = bit_size x
value_size _ = 0

-- ---- PUT

-- an aggregate goes element by element, of three kinds at most
abbrev pub put_item_size : Y.PutItem → ℕ
put_item_size (Y.PutValue v) = value_size v + 32
put_item_size (Y.PutAggregate r) = record_size r + 110

abbrev pub put_items_size : List Y.PutItem → ℕ
put_items_size [] = 0
put_items_size (i ∷ is) = put_item_size i + put_items_size is

abbrev pub put_pairs_size : List Y.PutPair → ℕ
put_pairs_size [] = 0
put_pairs_size (p ∷ ps) = (put_items_size p.items + 7) + put_pairs_size ps

abbrev pub put_size : List Y.PutPair → ℕ
put_size ps = put_pairs_size ps + 5

-- ---- GET

abbrev pub get_item_size : Y.GetItem → ℕ
get_item_size (Y.GetScalar r) = reference_size r + 53
get_item_size (Y.GetAggregate r) = record_size r + 175

abbrev pub get_items_size : List Y.GetItem → ℕ
get_items_size [] = 0
get_items_size (i ∷ is) = get_item_size i + get_items_size is

abbrev pub get_pairs_size : List Y.GetPair → ℕ
get_pairs_size [] = 2
get_pairs_size (p ∷ ps) = (get_items_size p.items + 7) + get_pairs_size ps

abbrev pub get_size : List Y.GetPair → ℕ
get_size ps = get_pairs_size ps + 7

-- ---- the law: neither is longer

abbrev pub PutsSized : Type 0
PutsSized =
    (e : Environment) (t : Taken) (skip : Option ℕ) (pairs : List Y.PutPair)
    → size_of (put_code e t skip pairs) ≤ put_size pairs

abbrev pub GetsSized : Type 0
GetsSized =
    (e : Environment) (t : Taken) (skip : Option ℕ) (pairs : List Y.GetPair)
    → size_of (get_code e t skip pairs) ≤ get_size pairs

abbrev pub StreamsSized : Type 0
StreamsSized = PutsSized × GetsSized
