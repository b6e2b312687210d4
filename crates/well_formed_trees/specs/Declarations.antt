-- What is so of the variables that the blocks of a typed tree declare.
use Rattle.std.specs.Prelude.{◌≡◌, ◌≢◌, ℕ, suc, ◌<◌, ◌≤◌, nat_lt, true, pos, negsuc, int_le, List, [], ◌∷◌, length}
use Rattle.std.specs.Prelude.{slice_get, Option, Some, None, ⊤, ◌⊎◌, if◌then◌else◌}
use Rattle.pli_language.specs.Tree as T
use Rattle.pli_language.specs.Declaring.{fits_digits}
use Rattle.pli_typing.specs.TypedTree as Y
use Rattle.well_formed_trees.specs.Ranges.{IsInteger, IsPrecision, IsLength}
use Rattle.well_formed_trees.specs.Members.{leaves_among, all_dimensions}
use Rattle.well_formed_trees.specs.Surroundings.{Where, IsAreaIf}
use Rattle.well_formed_trees.specs.Expressions.{SoundNumber}
use Rattle.well_formed_trees.specs.EarlyNumbers.{IsEarly}
use Rattle.well_formed_trees.specs.Every.{Every}

-- ---- extents (chapter 7)

-- where an extent stands: the class of its variable, and how many evaluations that has
abbrev pub IsExtent : Y.StorageClass → (evaluations : ℕ) → Y.Extent → Type 0
IsExtent class many (Y.ConstantExtent z) = IsInteger z
IsExtent Y.ParameterClass many Y.StarExtent = ⊤
IsExtent Y.BasedClass many Y.ReferExtent = ⊤
IsExtent Y.AutomaticClass many (Y.EvaluatedExtent place) = place < many
IsExtent Y.ControlledClass many (Y.EvaluatedExtent place) = place < many
IsExtent _ many _ = ⊥

-- what an extent comes to where its generation is made: a constant, or what was evaluated
abbrev pub IsAmount : (evaluations : ℕ) → Y.Extent → Type 0
IsAmount many (Y.ConstantExtent z) = IsInteger z
IsAmount many (Y.EvaluatedExtent place) = place < many
IsAmount many _ = ⊥

abbrev pub IsRising : Y.Extent → Y.Extent → Type 0
IsRising (Y.ConstantExtent low) (Y.ConstantExtent high) = int_le low high ≡ true
IsRising _ _ = ⊤

-- `*` stands for both bounds, and REFER for the upper one
abbrev pub IsNotRefer : Y.Extent → Type 0
IsNotRefer Y.ReferExtent = ⊥
IsNotRefer _ = ⊤

abbrev pub AreStars : Y.Extent → Y.Extent → Type 0
AreStars Y.StarExtent Y.StarExtent = ⊤
AreStars Y.StarExtent _ = ⊥
AreStars _ Y.StarExtent = ⊥
AreStars _ _ = ⊤

abbrev pub AreBounds : Y.StorageClass → (evaluations : ℕ) → Y.Bounds → Type 0
AreBounds class many b =
    (IsExtent class many b.lower × IsExtent class many b.upper)
    × ((IsRising b.lower b.upper × IsNotRefer b.lower) × AreStars b.lower b.upper)

-- a length, and a size, which is no longer than what memory holds
abbrev pub IsTextSize : Y.Extent → Type 0
IsTextSize (Y.ConstantExtent (pos n)) = IsLength n
IsTextSize (Y.ConstantExtent (negsuc n)) = ⊥
IsTextSize _ = ⊤

abbrev pub IsAreaSize : Y.Extent → Type 0
IsAreaSize (Y.ConstantExtent (negsuc n)) = ⊥
IsAreaSize _ = ⊤

-- ---- leaves (chapter 4)

-- of VARYING and of an area nothing is kept by REFER
abbrev pub IsLeafType : Where → Y.StorageClass → (evaluations : ℕ) → Y.LeafType → Type 0
IsLeafType w class many (Y.FixedLeaf p) = IsPrecision p
IsLeafType w class many (Y.CharacterLeaf size) = IsExtent class many size × IsTextSize size
IsLeafType w class many (Y.VaryingLeaf size) = IsExtent class many size × (IsTextSize size × IsNotRefer size)
IsLeafType w class many Y.BitLeaf = ⊤
IsLeafType w class many Y.PointerLeaf = ⊤
IsLeafType w class many (Y.OffsetLeaf area) = IsAreaIf w area
IsLeafType w class many (Y.AreaLeaf size) = IsExtent class many size × (IsAreaSize size × IsNotRefer size)

-- a number fits the precision (not below -2^p, and below 2^p)
abbrev pub IsInitial : Y.LeafType → T.InitialValue → Type 0
IsInitial type T.InitialSkip = ⊤
IsInitial (Y.FixedLeaf p) (T.InitialNumber z) = fits_digits p z ≡ true
IsInitial (Y.CharacterLeaf size) (T.InitialText bytes) = IsLength (length bytes)
IsInitial (Y.VaryingLeaf size) (T.InitialText bytes) = IsLength (length bytes)
IsInitial Y.BitLeaf (T.InitialBit b) = ⊤
IsInitial Y.PointerLeaf T.InitialNull = ⊤
IsInitial (Y.OffsetLeaf area) T.InitialNull = ⊤
IsInitial (Y.AreaLeaf size) T.InitialEmpty = ⊤
IsInitial _ _ = ⊥

abbrev pub IsInitialItem : Y.LeafType → T.InitialItem → Type 0
IsInitialItem type i = IsInteger (pos i.repetition) × IsInitial type i.value

pub record IsLeaf (w : Where) (class : Y.StorageClass) (evaluations : ℕ) (l : Y.Leaf) : Type 0 where
  pub type_is : IsLeafType w class evaluations l.type
  pub bounds_are : Every (AreBounds class evaluations) l.bounds
  pub few : length l.bounds ≤ 8
  pub initial_is : Every (IsInitialItem l.type) l.initial

-- ---- areas: a variable by itself, without dimensions, and never BASED or CONTROLLED

abbrev pub IsNoArea : Y.LeafType → Type 0
IsNoArea (Y.AreaLeaf size) = ⊥
IsNoArea _ = ⊤

abbrev pub HoldsArea : Y.StorageClass → Type 0
HoldsArea Y.BasedClass = ⊥
HoldsArea Y.ControlledClass = ⊥
HoldsArea _ = ⊤

pub record IsOnlyArea (class : Y.StorageClass) (leaves : List Y.Leaf) : Type 0 where
  pub leaf : Y.Leaf
  pub only : leaves ≡ leaf ∷ []
  pub size : Y.Extent
  pub is : leaf.type ≡ Y.AreaLeaf size
  pub none : leaf.bounds ≡ []
  pub class_holds : HoldsArea class

abbrev pub AreasAlone : Y.DeclaredVariable → Type 0
AreasAlone d = Every (λ l. IsNoArea l.type) d.leaves ⊎ IsOnlyArea d.class d.leaves

-- ---- members

-- each leaf has as many bounds as its member has dimensions
abbrev pub leaf_dimensions : List Y.Member → List ℕ → List ℕ
leaf_dimensions [] ns = []
leaf_dimensions (a ∷ []) ns = ns
leaf_dimensions (a ∷ b ∷ more) [] = []
leaf_dimensions (a ∷ b ∷ more) (n ∷ ns) =
    if nat_lt a.depth b.depth then leaf_dimensions (b ∷ more) ns else n ∷ leaf_dimensions (b ∷ more) ns

abbrev pub HaveBounds : List Y.Leaf → List ℕ → Type 0
HaveBounds [] [] = ⊤
HaveBounds (l ∷ ls) (n ∷ ns) = (length l.bounds ≡ n) × HaveBounds ls ns
HaveBounds _ _ = ⊥

-- the first is the variable itself, and each other one is at most one structure deeper than the one before it
abbrev pub IsBelow : (depth : ℕ) → List Y.Member → Type 0
IsBelow depth [] = ⊤
IsBelow depth (m ∷ ms) = ((1 ≤ m.depth) × (m.depth ≤ suc depth)) × IsBelow m.depth ms

abbrev pub AreMembers : List Y.Member → Type 0
AreMembers [] = ⊥
AreMembers (m ∷ ms) = (m.depth ≡ 0) × IsBelow 0 ms

-- ---- REFER

-- what keeps an extent by REFER
abbrev pub RefersIn : Y.LeafType → Type 0
RefersIn (Y.CharacterLeaf Y.ReferExtent) = ⊤
RefersIn _ = ⊥

abbrev pub IsReferBound : Y.Bounds → Type 0
IsReferBound b = b.upper ≡ Y.ReferExtent

-- a leaf before the last one, a scalar number; the last leaf is a text whose length it keeps, or has one dimension,
-- whose upper bound it keeps
pub record IsRefer (d : Y.DeclaredVariable) (r : Y.ReferMember) : Type 0 where
  pub based : d.class ≡ Y.BasedClass
  pub before : suc r.member < length d.leaves
  pub member : Y.Leaf
  pub member_is : slice_get d.leaves r.member ≡ Some member
  pub precision : ℕ
  pub number : member.type ≡ Y.FixedLeaf precision
  pub scalar : member.bounds ≡ []
  pub last : Y.Leaf
  pub last_is : (k : ℕ) × ((suc k ≡ length d.leaves) × (slice_get d.leaves k ≡ Some last))
  pub keeps : ((last.bounds ≡ []) × RefersIn last.type) ⊎ ((b : Y.Bounds) × ((last.bounds ≡ b ∷ []) × IsReferBound b))
  pub amount : IsAmount (length d.evaluations) r.amount

abbrev pub IsReferIf : Y.DeclaredVariable → Option Y.ReferMember → Type 0
IsReferIf d None = ⊤
IsReferIf d (Some r) = IsRefer d r

-- without REFER no extent is kept by it
abbrev pub KeepsNone : Y.Leaf → Type 0
KeepsNone l = ¬ RefersIn l.type × Every (λ b. b.upper ≢ Y.ReferExtent) l.bounds

abbrev pub KeepsNoneIf : Y.DeclaredVariable → Option Y.ReferMember → Type 0
KeepsNoneIf d None = Every KeepsNone d.leaves
KeepsNoneIf d (Some r) = ⊤

-- ---- evaluations

-- a BASED variable, too, has an evaluation: of what a member keeps by REFER
abbrev pub IsCheck : (evaluations : ℕ) → Y.Check → Type 0
IsCheck many (Y.BoundsCheck b) = IsAmount many b.lower × IsAmount many b.upper
IsCheck many _ = ⊤

-- a number without a function, and without an AUTOMATIC variable of the block from the variable's place on
pub record IsEvaluation (w : Where) (index many : ℕ) (e : Y.Evaluation) : Type 0 where
  pub value : SoundNumber w e.value
  pub early : IsEarly w index e.value
  pub check : IsCheck many e.check

-- ---- a variable, in its block at a place among the block's variables

pub record SoundVariable (w : Where) (index : ℕ) (d : Y.DeclaredVariable) : Type 0 where
  pub members : AreMembers d.members
  pub many : leaves_among d.members ≡ length d.leaves
  pub dimensions : HaveBounds d.leaves (leaf_dimensions d.members (all_dimensions d.members))
  pub leaves : Every (IsLeaf w d.class (length d.evaluations)) d.leaves
  pub areas : AreasAlone d
  pub refer : IsReferIf d d.refer
  pub kept : KeepsNoneIf d d.refer
  pub evaluations : Every (IsEvaluation w index (length d.evaluations)) d.evaluations

abbrev pub SoundVariables : Where → (index : ℕ) → List Y.DeclaredVariable → Type 0
SoundVariables w index [] = ⊤
SoundVariables w index (d ∷ ds) = SoundVariable w index d × SoundVariables w (suc index) ds
