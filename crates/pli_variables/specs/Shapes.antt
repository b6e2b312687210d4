-- What a reference to a declared variable needs to know.
use Rattle.std.specs.Prelude.{ℕ, Bool, List, [], ◌∷◌, length, Option, Some, None}
use Rattle.pli_language.specs.declared.scope.DeclarationAt.{DeclarationAt}
use Rattle.pli_language.specs.Declarations.{Held, What, Variable', Label, ProcedureName, Block}
use Rattle.pli_language.specs.Declaring.{stands_alone}
use Rattle.pli_typing.specs.TypedTree as Y
use Rattle.pli_typing.specs.Variables.{variable_meant, part_of, members_of, leaves_of, with_members, from_place, all_dimensions, is_structure, what_at}

-- what a reference to a declared variable needs to know: the variable of level 1 that it is or belongs to, which part of it,
-- and its leaves
pub record Shape : Type 0 where
  pub variable : Y.Variable
  pub part : Y.Part
  pub leaves : List Y.Leaf
  pub dimensions : ℕ
  pub has_members : Bool
  pub is_alone : Bool

abbrev pub shape : List Block → ℕ → Held → Shape
shape blocks b h = record {
  variable = variable_meant blocks b h;
  part = part_of (members_of blocks b h) h;
  leaves = leaves_of blocks b (members_of blocks b h) (with_members (from_place h.variable.declared.name.place (members_of blocks b h)));
  dimensions = length (all_dimensions h);
  has_members = is_structure (members_of blocks b h) h;
  is_alone = stands_alone h;
}

-- none but variables have a shape
abbrev pub shape_of_what : List Block → ℕ → What → Option Shape
shape_of_what blocks b (Variable' h) = Some (shape blocks b h)
shape_of_what blocks b Label = None
shape_of_what blocks b (ProcedureName head) = None

abbrev pub shape_in : List Block → ℕ → Option What → Option Shape
shape_in blocks b None = None
shape_in blocks b (Some w) = shape_of_what blocks b w

abbrev pub shape_at : List Block → DeclarationAt → Option Shape
shape_at blocks at = shape_in blocks at.block (what_at blocks at)

-- the shape of a variable of level 1, which is the first of these
abbrev pub shape_of_first : List Block → ℕ → Option (List Held) → Option Shape
shape_of_first blocks b None = None
shape_of_first blocks b (Some []) = None
shape_of_first blocks b (Some (h ∷ members)) = Some (shape blocks b h)
