-- The shape of an item of GET or PUT in static data, and the members that it tells.
use Rattle.std.specs.Prelude.{ℕ, suc, ◌^◌, ◌<◌, List, [], ◌∷◌, ◌++◌, ⊤}
use Rattle.pli_typing.specs.TypedTree as Y
use Rattle.pli_meaning.specs.StreamOrder.{Nest, NoNest, NestOf}
use Rattle.pli_serving.specs.ElementService.{ItemShape}
use Rattle.pli_coding.specs.StaticForms.{part_words}

abbrev pub AreWords : List ℕ → Type 0
AreWords [] = ⊤
AreWords (w ∷ ws) = (w < 2 ^ 32) × AreWords ws

-- what stands in a nest as members, each as deep as it stands
abbrev pub members_of : (depth : ℕ) → Nest → List Y.Member
members_of depth NoNest = []
members_of depth (NestOf d dimensions inside behind) =
    record { depth = depth; dimensions = dimensions } ∷ members_of (suc depth) inside ++ members_of depth behind

-- a part by itself: the dimensions that the subscripts leave, and what stands in it
abbrev pub part_nest : (dimensions : ℕ) → (inside : Nest) → Nest
part_nest dimensions inside = NestOf 0 dimensions inside NoNest

abbrev pub part_shape : (given dimensions leaf : ℕ) → (inside : Nest) → ItemShape
part_shape given dimensions leaf inside =
    record { given = given; first = leaf; members = members_of 0 (part_nest dimensions inside) }

-- the words of such a shape
abbrev pub shape_words : (given dimensions leaf : ℕ) → (inside : Nest) → List ℕ
shape_words given dimensions leaf inside = given ∷ part_words dimensions leaf inside
