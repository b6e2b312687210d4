-- What INITIAL may give to the variables of a block: constants of their types and asterisks, as many as a word counts.
use Rattle.std.specs.Prelude.{◌^◌, ◌&&◌, Bool, false, true, List, [], ◌∷◌, nat_lt}
use Rattle.pli_language.specs.Tree as T
use Rattle.pli_typing.specs.TypedTree as Y
use Rattle.pli_meaning.specs.Numbers.{is_of_precision}

-- a constant of the type, or an asterisk, which leaves the variable as it begins
abbrev pub is_value : Y.LeafType → T.InitialValue → Bool
is_value (Y.FixedLeaf precision) (T.InitialNumber z) = is_of_precision precision z
is_value (Y.CharacterLeaf size) (T.InitialText text) = true
is_value (Y.VaryingLeaf size) (T.InitialText text) = true
is_value Y.BitLeaf (T.InitialBit bit) = true
is_value type T.InitialSkip = true
is_value _ _ = false

abbrev pub are_values : Y.LeafType → List T.InitialItem → Bool
are_values type [] = true
are_values type (i ∷ is) = (nat_lt i.repetition (2 ^ 32) && is_value type i.value) && are_values type is

-- those of a variable that has one leaf
abbrev pub values_in : List Y.Leaf → List T.InitialItem
values_in [] = []
values_in (l ∷ ls) = l.initial

abbrev pub values_of : Y.DeclaredVariable → List T.InitialItem
values_of d = values_in d.leaves
