-- What declarations take beside the tokens that they are spelled with: names in parentheses share their extents, and
-- the code evaluates these for each name.
use Rattle.std.specs.Prelude.{ℕ, ◌+◌, ◌-◌, ◌*◌, ◌||◌, List, [], ◌∷◌, Option, Some, if◌then◌else◌}
use Rattle.pli_language.specs.Tree as T
use Rattle.pli_language.specs.Declaring.{has}
use Rattle.pli_typing.specs.Variables.{is_open}
use Rattle.tree_tokens.specs.TreeTokens.{expr_tokens, row_tokens, dimensions_tokens, attribute_tokens}
use Rattle.source_sizes.specs.Short.{words_for_a_token}
use Rattle.program_lengths.specs.Declares.{declares_sum}

-- ---- the words of open extents: each is evaluated, checked and filled in

abbrev pub extent_words : T.Extent → ℕ
extent_words e = if is_open e.value then words_for_a_token * expr_tokens e.value + 82 else 0

abbrev pub bound_words : T.Bound → ℕ
bound_words (T.StarBound place) = 0
bound_words (T.Upper upper) = extent_words upper
bound_words (T.Both lower upper) = extent_words lower + extent_words upper

abbrev pub bounds_words : List T.Bound → ℕ
bounds_words [] = 0
bounds_words (b ∷ bs) = bound_words b + bounds_words bs

abbrev pub size_words : Option T.Size → ℕ
size_words (Some (T.Given e)) = extent_words e
size_words _ = 0

abbrev pub attribute_words : T.Attribute → ℕ
attribute_words (T.Character size) = size_words size
attribute_words (T.Area size) = size_words size
attribute_words _ = 0

abbrev pub attributes_words : List T.Attribute → ℕ
attributes_words [] = 0
attributes_words (a ∷ as') = attribute_words a + attributes_words as'

-- ---- what the names of an item share

abbrev pub shared_words : T.DeclareItem → ℕ
shared_words d = bounds_words d.dimensions + attributes_words d.attributes

abbrev pub shared_tokens : T.DeclareItem → ℕ
shared_tokens d = dimensions_tokens d.dimensions + row_tokens attribute_tokens d.attributes

abbrev pub for_each : {X : Type 0} → (words : ℕ) → List X → ℕ
for_each words [] = 0
for_each words (x ∷ xs) = words + for_each words xs

-- an AUTOMATIC variable has no routine, so that its name and a comma pay so much of its extents
abbrev pub spare_words : List T.Attribute → ℕ
spare_words attributes = if has 9 attributes || has 10 attributes || has 11 attributes then 0 else 145

-- so much for each name, of which the tokens that they share pay a part
abbrev pub item_beside : T.DeclareItem → ℕ
item_beside d =
    for_each (shared_words d - spare_words d.attributes) d.names - words_for_a_token * shared_tokens d

abbrev pub declare_beside : List T.DeclareItem → ℕ
declare_beside [] = 0
declare_beside (d ∷ ds) = item_beside d + declare_beside ds

abbrev pub declares_beside : T.Items → ℕ
declares_beside is = declares_sum declare_beside is
