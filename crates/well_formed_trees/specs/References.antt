-- What references designate: members of declared variables, all of them or elements, and of which kinds.
use Rattle.std.specs.Prelude.{◌≡◌, ◌≢◌, ℕ, suc, ◌≤◌, List, [], length, map, drop, Option, ⊤, ◌⊎◌}
use Rattle.pli_typing.specs.TypedTree as Y
use Rattle.well_formed_trees.specs.Members.{IsMember, IsOneLeaf, leaves_of_part, whole}
use Rattle.well_formed_trees.specs.Surroundings.{Where, IsDeclared}

abbrev pub given_in : Y.Numbers → ℕ
given_in Y.NoNumber = 0
given_in (Y.NumberThen first rest) = suc (given_in rest)

abbrev pub variable_of : Y.Reference → Y.Variable
variable_of (Y.Referring v locator part subscripts) = v

abbrev pub part_of : Y.Reference → Y.Part
part_of (Y.Referring v locator part subscripts) = part

abbrev pub subscripts_of : Y.Reference → Y.Numbers
subscripts_of (Y.Referring v locator part subscripts) = subscripts

-- a member of a declared variable, with no subscripts, or with as many as the member has dimensions. (So an element of
-- an array of structures has fewer than its leaves have bounds.)
pub record Designates (w : Where) (r : Y.Reference) : Type 0 where
  pub d : Y.DeclaredVariable
  pub declared : IsDeclared w (variable_of r) d
  pub dimensions : ℕ
  pub member : IsMember d (part_of r) dimensions
  pub subscripted : (subscripts_of r ≡ Y.NoNumber) ⊎ (given_in (subscripts_of r) ≡ dimensions)

-- a BASED variable is located, and no other
abbrev pub IsLocated : Y.StorageClass → Y.Locator → Type 0
IsLocated Y.BasedClass Y.NotLocated = ⊥
IsLocated Y.BasedClass (Y.LocatedBy p) = ⊤
IsLocated _ Y.NotLocated = ⊤
IsLocated _ (Y.LocatedBy p) = ⊥

-- ---- scalars

-- one leaf of a type, with a subscript for each of its bounds
pub record IsScalar (w : Where) (type : Y.LeafType) (r : Y.Reference) : Type 0 where
  pub designates : Designates w r
  pub leaf : Y.Leaf
  pub one : IsOneLeaf designates.d (part_of r) leaf
  pub type_is : leaf.type ≡ type
  pub many : given_in (subscripts_of r) ≡ length leaf.bounds

pub record IsNumberScalar (w : Where) (r : Y.Reference) : Type 0 where
  pub precision : ℕ
  pub scalar : IsScalar w (Y.FixedLeaf precision) r

pub record IsTextScalar (w : Where) (r : Y.Reference) : Type 0 where
  pub size : Y.Extent
  pub scalar : IsScalar w (Y.CharacterLeaf size) r ⊎ IsScalar w (Y.VaryingLeaf size) r

pub record IsOffsetScalar (w : Where) (r : Y.Reference) : Type 0 where
  pub area : Option Y.Variable
  pub scalar : IsScalar w (Y.OffsetLeaf area) r

-- ---- aggregates

-- an array of one leaf, all of it
pub record IsArray (w : Where) (type : Y.LeafType) (r : Y.Reference) : Type 0 where
  pub designates : Designates w r
  pub leaf : Y.Leaf
  pub one : IsOneLeaf designates.d (part_of r) leaf
  pub type_is : leaf.type ≡ type
  pub none : subscripts_of r ≡ Y.NoNumber
  pub some : leaf.bounds ≢ []

-- a dimension of what is designated, which has no subscripts
pub record IsDimension (w : Where) (r : Y.Reference) (dimension : ℕ) : Type 0 where
  pub designates : Designates w r
  pub none : subscripts_of r ≡ Y.NoNumber
  pub low : 1 ≤ dimension
  pub high : dimension ≤ designates.dimensions

-- a whole variable
pub record IsWhole (w : Where) (r : Y.Reference) : Type 0 where
  pub designates : Designates w r
  pub all : part_of r ≡ whole designates.d
  pub none : subscripts_of r ≡ Y.NoNumber

-- a leaf of an element, with the bounds that no subscripts stand for
abbrev pub leaf_left : (subscripts : ℕ) → Y.Leaf → Y.Leaf
leaf_left n l = record { type = l.type; bounds = drop n l.bounds; initial = l.initial }

-- all leaves of what is designated
abbrev pub Leaves : {w : Where} {r : Y.Reference} → Designates w r → List Y.Leaf
Leaves {w} {r} d = map (leaf_left (given_in (subscripts_of r))) (leaves_of_part d.d (part_of r))

-- a variable whose generations have names
abbrev pub HasName : Y.StorageClass → Type 0
HasName Y.AutomaticClass = ⊤
HasName Y.StaticClass = ⊤
HasName Y.BasedClass = ⊤
HasName _ = ⊥
