-- Shapes that a program holds, and how they are made of what a block declares.
use Rattle.std.specs.Prelude.{ℕ, List, [], ◌∷◌, length, map, slice_get, unwrap_or, Option, Some, None, Vec}
use Rattle.std.specs.declared.alloc.Global.{Global}
use Rattle.pli_language.specs.Declarations.{Held, What, Variable', Label, ProcedureName, Block}
use Rattle.pli_language.specs.Declaring.{stands_alone}
use Rattle.pli_typing.specs.TypedTree as Y
use Rattle.pli_typing.specs.TypedView.{leaf_of as leaf_typed, part_of as part_typed, variable_of as variable_typed}
use Rattle.pli_typing.specs.Variables.{all_dimensions, declarations_at, from_place, is_structure, leaves_of, variables_in}
use Rattle.pli_language.specs.View.{option_of}
use Rattle.pli_variables.specs.declared.shape.Shape.{Shape as ShapeHeld}
use Rattle.pli_declare.specs.ShownBlocks.{block_of}
use Rattle.pli_variables.specs.declared.home.Home.{Home as HomeHeld}
use Rattle.pli_variables.specs.Held.{groups_held}
use Rattle.pli_variables.specs.Counts.{counts_in, leaves_at, part_behind}
use Rattle.pli_variables.specs.declared.leaves.Leaves.{Leaves as LeavesHeld}
use Rattle.pli_variables.specs.Rows.{variable_among}
use Rattle.pli_variables.specs.Shapes.{Shape, shape_of_what, shape_of_first}

abbrev pub shape_of : ShapeHeld → Shape
shape_of s = record {
  variable = variable_typed s.variable;
  part = part_typed s.part;
  leaves = leaves_at (part_typed s.part) (map leaf_typed s.group.value.items);
  dimensions = s.dimensions;
  has_members = s.has_members;
  is_alone = s.is_alone;
}

abbrev pub shapes_shown : List (Option ShapeHeld) → List (Option Shape)
shapes_shown ss = map (option_of shape_of) ss

abbrev pub shape_rows_shown : List (Vec (Option ShapeHeld) Global) → List (List (Option Shape))
shape_rows_shown vs = map (λ v. shapes_shown v.items) vs

-- the shape of a variable that belongs to this one of level 1, which has these members and leaves, so many from each member on
abbrev pub shape_with : Y.Variable → List Held → List ℕ → List Y.Leaf → Held → Shape
shape_with v all counts leaves h = record {
  variable = v;
  part = part_behind counts all (from_place h.variable.declared.name.place all);
  leaves = leaves_at (part_behind counts all (from_place h.variable.declared.name.place all)) leaves;
  dimensions = length (all_dimensions h);
  has_members = is_structure all h;
  is_alone = stands_alone h;
}

-- a block with its number, its variables of level 1 with their members, and of each its leaves and how many stand from each member on
pub record Home : Type 0 where
  pub block : Block
  pub number : ℕ
  pub groups : List (List Held)
  pub counts : List (List ℕ)
  pub leaves : List (List Y.Leaf)

abbrev pub counts_shown : List LeavesHeld → List (List ℕ)
counts_shown ls = map (λ l. l.counts.items) ls

abbrev pub leaves_shown : List LeavesHeld → List (List Y.Leaf)
leaves_shown ls = map (λ l. map leaf_typed l.all.value.items) ls

abbrev pub home_of : HomeHeld → Home
home_of h = record { block = block_of h.block.now; number = h.number; groups = groups_held h.groups.items; counts = counts_shown h.leaves.items; leaves = leaves_shown h.leaves.items }

-- the same, where it is one of these variables of level 1
abbrev pub shape_found : Y.Variable → List (List Held) → List (List ℕ) → List (List Y.Leaf) → Held → Shape
shape_found v groups counts leaves h =
    shape_with v (unwrap_or (slice_get groups v.index) []) (unwrap_or (slice_get counts v.index) []) (unwrap_or (slice_get leaves v.index) []) h

abbrev pub shape_among : Home → Held → Shape
shape_among home h = shape_found (variable_among home.block home.number home.groups h) home.groups home.counts home.leaves h

abbrev pub shape_given : Home → What → Option Shape
shape_given home (Variable' h) = Some (shape_among home h)
shape_given home Label = None
shape_given home (ProcedureName head) = None

abbrev pub whole_given : Home → List Held → Option Shape
whole_given home [] = None
whole_given home (h ∷ members) = Some (shape_among home h)

-- a block's home
abbrev pub home_in : List Block → Block → ℕ → Home
home_in blocks block b = record {
  block = block;
  number = b;
  groups = variables_in block.declarations;
  counts = map counts_in (variables_in block.declarations);
  leaves = map (λ g. leaves_of blocks b g g) (variables_in block.declarations);
}

-- the shapes of a block's declarations, and of its variables of level 1
abbrev pub shape_row : List Block → ℕ → List (Option Shape)
shape_row blocks b = map (λ d. shape_of_what blocks b d.what) (declarations_at blocks b)

abbrev pub whole_row : List Block → ℕ → List (Option Shape)
whole_row blocks b = map (λ g. shape_of_first blocks b (Some g)) (variables_in (declarations_at blocks b))
