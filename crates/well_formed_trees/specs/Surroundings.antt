-- What stands around a place of a program: the blocks with their labels, and the variables and procedures that can be
-- named.
use Rattle.std.specs.Prelude.{◌≡◌, ℕ, Bool, true, List, [], ◌∷◌, ◌++◌, slice_get, Option, Some, None, unwrap_or, ◌==◌}
use Rattle.std.specs.Prelude.{if◌then◌else◌, ⊤, ◌⊎◌}
use Rattle.std.specs.List.{list_any}
use Rattle.pli_language.specs.Keywords.{same_bytes}
use Rattle.pli_language.specs.Tree.{InitialItem}
use Rattle.pli_typing.specs.TypedTree as Y

-- the letters of a label
abbrev pub Label : Type 0
Label = List ℕ

abbrev pub is_among : Label → List Label → Bool
is_among label labels = list_any (λ l. same_bytes label l) labels

-- ---- blocks around

-- a block around a place: its number, its level, the labels of its outermost list, and those of the lists of its
-- groups that are around the place
pub record Around : Type 0 where
  pub number : ℕ
  pub level : ℕ
  pub outermost : List Label
  pub inner : List Label

-- for each block's number the blocks around its first statement, itself first
abbrev pub Table : Type 0
Table = List (List Around)

abbrev pub labels_of : Around → List Label
labels_of a = a.inner ++ a.outermost

-- what a RETURN may be at a place: none in an on-unit; else what the procedure around returns
pub data Returning : Type 0 where
  NoReturn : Returning
  Returns : Option Y.LeafType → Returning

-- a place in a program with this table: the blocks around it, innermost first
pub record Where : Type 0 where
  pub program : Y.Program
  pub table : Table
  pub around : List Around
  pub returning : Returning

-- ---- going in

abbrev pub with_inner : List Label → List Around → List Around
with_inner labels [] = []
with_inner labels (a ∷ more) = record a { inner = labels ++ a.inner } ∷ more

-- into a group's list
abbrev pub in_list : Where → List Label → Where
in_list w labels = record w { around = with_inner labels w.around }

abbrev pub without_inner : List Around → List Around
without_inner [] = []
without_inner (a ∷ more) = record a { inner = [] } ∷ more

-- into a block
abbrev pub in_block : Where → (number level : ℕ) → List Label → Where
in_block w number level labels =
    record w { around = record { number = number; level = level; outermost = labels; inner = [] } ∷ w.around }

-- into an on-unit, which can name no label of its block's groups, and has no RETURN
abbrev pub in_unit : Where → Where
in_unit w = record w { around = without_inner w.around; returning = NoReturn }

-- ---- what is around

abbrev pub IsAround : (number level : ℕ) → List Around → Type 0
IsAround number level [] = ⊥
IsAround number level (a ∷ more) = ((a.number ≡ number) × (a.level ≡ level)) ⊎ IsAround number level more

-- a list around has a label, in a block at a level
abbrev pub IsTarget : (level : ℕ) → Label → List Around → Type 0
IsTarget level label [] = ⊥
IsTarget level label (a ∷ more) =
    ((a.level ≡ level) × (is_among label (labels_of a) ≡ true)) ⊎ IsTarget level label more

abbrev pub level_here : List Around → ℕ
level_here [] = 0
level_here (a ∷ more) = a.level

abbrev pub number_here : List Around → ℕ
number_here [] = 0
number_here (a ∷ more) = a.number

-- ---- variables

abbrev pub variables_of_block : Y.Program → ℕ → List Y.DeclaredVariable
variables_of_block program block = unwrap_or (slice_get program.variables block) []

abbrev pub declared_variable : Y.Program → Y.Variable → Option Y.DeclaredVariable
declared_variable program v = slice_get (variables_of_block program v.block) v.index

-- a variable is declared, in a block around
pub record IsDeclared (w : Where) (v : Y.Variable) (d : Y.DeclaredVariable) : Type 0 where
  pub found : declared_variable w.program v ≡ Some d
  pub same_class : d.class ≡ v.class
  pub block_around : IsAround v.block v.level w.around

-- an area, which is no array and no member
pub record IsArea (w : Where) (v : Y.Variable) : Type 0 where
  pub d : Y.DeclaredVariable
  pub declared : IsDeclared w v d
  pub size : Y.Extent
  pub initial : List InitialItem
  pub leaf : d.leaves ≡ record { type = Y.AreaLeaf size; bounds = []; initial = initial } ∷ []

-- an area that an argument's OFFSET is made for: one around, or a STATIC one of the procedure that is called
pub record IsStaticArea (w : Where) (v : Y.Variable) : Type 0 where
  pub class_is : v.class ≡ Y.StaticClass
  pub d : Y.DeclaredVariable
  pub found : declared_variable w.program v ≡ Some d
  pub same_class : d.class ≡ v.class
  pub size : Y.Extent
  pub initial : List InitialItem
  pub leaf : d.leaves ≡ record { type = Y.AreaLeaf size; bounds = []; initial = initial } ∷ []

abbrev pub IsAreaReached : Where → Y.Variable → Type 0
IsAreaReached w v = IsArea w v ⊎ IsStaticArea w v

abbrev pub IsAreaIf : Where → Option Y.Variable → Type 0
IsAreaIf w None = ⊤
IsAreaIf w (Some v) = IsArea w v

-- a variable of a class
pub record IsOfClass (w : Where) (class : Y.StorageClass) (v : Y.Variable) : Type 0 where
  pub class_is : v.class ≡ class
  pub d : Y.DeclaredVariable
  pub declared : IsDeclared w v d

-- ---- procedures

abbrev pub head_of : Y.Block → Y.BlockHead
head_of (Y.BlockOf head body) = head

abbrev pub procedure_numbered : ℕ → List Y.Procedure → Option Y.Procedure
procedure_numbered number [] = None
procedure_numbered number (p ∷ ps) =
    if (head_of p.block).number == number then Some p else procedure_numbered number ps

-- the variables that are its parameters
abbrev pub parameter : Y.Program → Y.Procedure → (index : ℕ) → Option Y.DeclaredVariable
parameter program p index = slice_get (variables_of_block program (head_of p.block).number) index
