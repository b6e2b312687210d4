-- What the code names of its static data: texts, INITIAL values, places of extents, format lists and shapes, each as
-- its bytes.
use Rattle.std.specs.Prelude.{ℕ, suc, ◌+◌, ◌-◌, Bool, true, false, ◌&&◌, ◌==◌, List, [], ◌∷◌, ◌++◌, length, replicate}
use Rattle.std.specs.Prelude.{Option, Some, None, if◌then◌else◌}
use Rattle.std.specs.List.{flat_map}
use Rattle.rv_meaning.specs.Words.{word, flag}
use Rattle.rv_meaning.specs.Memory.{bytes_of_words}
use Rattle.pli_language.specs.Tree as T
use Rattle.pli_typing.specs.Signatures.{rounded_up}
use Rattle.pli_typing.specs.TypedTree as Y
use Rattle.pli_meaning.specs.Contents.{same_int}
use Rattle.pli_meaning.specs.StreamOrder.{Nest, NoNest, NestOf, nest_of, leaves_inside}
use Rattle.pli_coding.specs.Assembly.{InitialLeaf, Datum, ConstantBytes, InitialValues}

abbrev pub words_datum : List ℕ → Datum
words_datum words = ConstantBytes (bytes_of_words words)

-- ---- INITIAL values

abbrev pub value_bytes : T.InitialValue → List ℕ
value_bytes (T.InitialNumber z) = bytes_of_words (1 ∷ word z ∷ [])
value_bytes (T.InitialText t) =
    bytes_of_words (2 ∷ length t ∷ []) ++ (t ++ replicate (rounded_up 4 (length t) - length t) 0)
value_bytes (T.InitialBit b) = bytes_of_words (1 ∷ flag b ∷ [])
value_bytes T.InitialSkip = bytes_of_words (0 ∷ 0 ∷ [])
value_bytes T.InitialNull = bytes_of_words (3 ∷ 0 ∷ [])
value_bytes T.InitialEmpty = bytes_of_words (0 ∷ 0 ∷ [])

abbrev pub item_bytes : T.InitialItem → List ℕ
item_bytes i = bytes_of_words (i.repetition ∷ []) ++ value_bytes i.value

abbrev pub items_bytes : List T.InitialItem → List ℕ
items_bytes items = bytes_of_words (length items ∷ []) ++ flat_map item_bytes items

abbrev pub leaf_with_items : (leaf : ℕ) → List T.InitialItem → List InitialLeaf
leaf_with_items leaf [] = []
leaf_with_items leaf (i ∷ is) = record { leaf = leaf; values = items_bytes (i ∷ is) } ∷ []

-- the leaves that have some
abbrev pub initial_leaves : (leaf : ℕ) → List Y.Leaf → List InitialLeaf
initial_leaves leaf [] = []
initial_leaves leaf (l ∷ ls) = leaf_with_items leaf l.initial ++ initial_leaves (suc leaf) ls

abbrev pub if_any : List InitialLeaf → Option Datum
if_any [] = None
if_any (l ∷ ls) = Some (InitialValues (l ∷ ls))

-- what a variable's generations begin with, none where all is left to defaults
abbrev pub initial_datum : Y.DeclaredVariable → Option Datum
initial_datum d = if_any (initial_leaves 0 d.leaves)

-- ---- places of one extent as it is written

abbrev pub same_extent : Y.Extent → Y.Extent → Bool
same_extent (Y.ConstantExtent a) (Y.ConstantExtent b) = same_int a b
same_extent Y.StarExtent Y.StarExtent = true
same_extent Y.ReferExtent Y.ReferExtent = true
same_extent (Y.EvaluatedExtent m) (Y.EvaluatedExtent n) = m == n
same_extent _ _ = false

abbrev pub length_or_size : ℕ
length_or_size = 255

abbrev pub place_if : Bool → (leaf dimension : ℕ) → List ℕ
place_if holds leaf dimension = if holds then leaf ∷ dimension ∷ [] else []

-- where a leaf's length or size is an extent
abbrev pub size_places : (leaf : ℕ) → Y.Extent → Y.LeafType → List ℕ
size_places leaf e (Y.CharacterLeaf f) = place_if (same_extent e f) leaf length_or_size
size_places leaf e (Y.VaryingLeaf f) = place_if (same_extent e f) leaf length_or_size
size_places leaf e (Y.AreaLeaf f) = place_if (same_extent e f) leaf length_or_size
size_places leaf e _ = []

abbrev pub sizes_from : (leaf : ℕ) → Y.Extent → List Y.Leaf → List ℕ
sizes_from leaf e [] = []
sizes_from leaf e (l ∷ ls) = size_places leaf e l.type ++ sizes_from (suc leaf) e ls

-- where a dimension has these bounds
abbrev pub bounds_places : (leaf dimension : ℕ) → Y.Bounds → List Y.Bounds → List ℕ
bounds_places leaf dimension b [] = []
bounds_places leaf dimension b (c ∷ cs) =
    place_if (same_extent b.lower c.lower && same_extent b.upper c.upper) leaf dimension
    ++ bounds_places leaf (suc dimension) b cs

abbrev pub bounds_from : (leaf : ℕ) → Y.Bounds → List Y.Leaf → List ℕ
bounds_from leaf b [] = []
bounds_from leaf b (l ∷ ls) = bounds_places leaf 0 b l.bounds ++ bounds_from (suc leaf) b ls

-- a list of places: their number before them; two words are one place
abbrev pub pairs_in : List ℕ → ℕ
pairs_in (leaf ∷ dimension ∷ more) = suc (pairs_in more)
pairs_in _ = 0

abbrev pub places_datum : List ℕ → Datum
places_datum places = words_datum (pairs_in places ∷ places)

abbrev pub size_datum : Y.Extent → List Y.Leaf → Datum
size_datum e leaves = places_datum (sizes_from 0 e leaves)

abbrev pub bounds_datum : Y.Bounds → List Y.Leaf → Datum
bounds_datum b leaves = places_datum (bounds_from 0 b leaves)

-- ---- format lists

abbrev pub formats_length : T.Formats → ℕ
formats_length T.NoFormat = 0
formats_length (T.FormatThen place repetition first rest) = suc (formats_length rest)

abbrev pub width_or_none : Option ℕ → ℕ
width_or_none None = 0
width_or_none (Some n) = n

-- the kind, the repetition, and the width or number; the items of a list follow
abbrev mutual
  pub formats_words : T.Formats → List ℕ
  formats_words T.NoFormat = []
  formats_words (T.FormatThen place repetition first rest) = format_words repetition first ++ formats_words rest

  pub format_words : ℕ → T.Format → List ℕ
  format_words repetition (T.FixedFormat width) = 1 ∷ repetition ∷ width ∷ []
  format_words repetition (T.TextFormat width) = 2 ∷ repetition ∷ width_or_none width ∷ []
  format_words repetition (T.SpaceFormat n) = 3 ∷ repetition ∷ n ∷ []
  format_words repetition (T.SkipFormat n) = 4 ∷ repetition ∷ n ∷ []
  format_words repetition (T.ColumnFormat n) = 5 ∷ repetition ∷ n ∷ []
  format_words repetition (T.FormatList formats) = 6 ∷ repetition ∷ formats_length formats ∷ formats_words formats

abbrev pub formats_datum : T.Formats → Datum
formats_datum formats = words_datum (formats_length formats ∷ formats_words formats)

-- ---- shapes of aggregates in GET and PUT

abbrev pub nests_beside : Nest → ℕ
nests_beside NoNest = 0
nests_beside (NestOf d dimensions inside behind) = suc (nests_beside behind)

-- each member as its own dimensions, the members in it, and its first leaf, before those in it
abbrev pub nest_words : (leaf : ℕ) → Nest → List ℕ
nest_words leaf NoNest = []
nest_words leaf (NestOf d dimensions NoNest behind) = dimensions ∷ 0 ∷ leaf ∷ nest_words (suc leaf) behind
nest_words leaf (NestOf d dimensions (NestOf e more inside next) behind) =
    dimensions ∷ nests_beside (NestOf e more inside next) ∷ leaf ∷ (nest_words leaf (NestOf e more inside next)
    ++ nest_words (leaves_inside (NestOf e more inside next) + leaf) behind)

-- the part itself: the dimensions that the subscripts given leave, and what stands in it
abbrev pub part_words : (dimensions leaf : ℕ) → (inside : Nest) → List ℕ
part_words dimensions leaf inside = dimensions ∷ nests_beside inside ∷ leaf ∷ nest_words leaf inside

abbrev pub or_else : Option (List ℕ) → Option (List ℕ) → Option (List ℕ)
or_else None other = other
or_else (Some words) other = Some words

abbrev pub is_part : Y.Part → (leaf leaves : ℕ) → Bool
is_part part leaf leaves = (part.first == leaf) && (part.count == leaves)

abbrev pub words_if : Bool → List ℕ → Option (List ℕ)
words_if holds words = if holds then Some words else None

-- the innermost member that is the part, with inherited dimensions less those that have subscripts
abbrev pub part_in : Y.Part → (given inherited leaf : ℕ) → Nest → Option (List ℕ)
part_in part given inherited leaf NoNest = None
part_in part given inherited leaf (NestOf d dimensions NoNest behind) =
    or_else (words_if (is_part part leaf 1) (part_words (inherited + dimensions - given) leaf NoNest))
    (part_in part given inherited (suc leaf) behind)
part_in part given inherited leaf (NestOf d dimensions (NestOf e more inside next) behind) =
    or_else (part_in part given (inherited + dimensions) leaf (NestOf e more inside next))
    (or_else
    (words_if (is_part part leaf (leaves_inside (NestOf e more inside next)))
    (part_words (inherited + dimensions - given) leaf (NestOf e more inside next)))
    (part_in part given inherited (leaves_inside (NestOf e more inside next) + leaf) behind))

abbrev pub words_or_none : Option (List ℕ) → List ℕ
words_or_none None = []
words_or_none (Some words) = words

-- the subscripts given, and the part with its members
abbrev pub shape_datum : List Y.Member → Y.Part → (given : ℕ) → Datum
shape_datum members part given = words_datum (given ∷ words_or_none (part_in part given 0 0 (nest_of members)))
