-- What is kept of each block.
use Rattle.std.specs.Prelude.{ℕ, List, [], map, slice_get, Option, Some, None}
use Rattle.pli_typing.specs.Calls.{begins_named, parameter_indices}
use Rattle.pli_language.specs.Declarations.{Block}
use Rattle.pli_language.specs.Declaring.{names_of}
use Rattle.pli_typing.specs.Variables.{declarations_at, head_of_block, index_where, variables_in}
use Rattle.pli_variables.specs.declared.block_table.BlockTable.{BlockTable as BlockTableHeld}
use Rattle.pli_variables.specs.Procedures.{procedure_row}
use Rattle.pli_variables.specs.Shapes.{Shape, shape_of_first}
use Rattle.pli_variables.specs.ShownShapes.{Home, shape_given, shape_row, shapes_shown, whole_given, whole_row}

-- the shapes of its declarations and of its variables of level 1, the places of its parameters among these, and the blocks of
-- the procedures that it declares
pub record BlockTable : Type 0 where
  pub declared : List (Option Shape)
  pub variables : List (Option Shape)
  pub parameters : List ℕ
  pub procedures : List (Option ℕ)

abbrev pub table_of : BlockTableHeld → BlockTable
table_of t = record { declared = shapes_shown t.declared.items; variables = shapes_shown t.variables.items; parameters = t.parameters.items; procedures = t.procedures.items }

abbrev pub table_given : List Block → Home → BlockTable
table_given blocks home = record {
  declared = map (λ d. shape_given home d.what) home.block.declarations;
  variables = map (whole_given home) home.groups;
  parameters = map (λ n. index_where (begins_named n) home.groups) (names_of home.block.head);
  procedures = procedure_row blocks home.block.declarations;
}

abbrev pub block_table : List Block → ℕ → BlockTable
block_table blocks b = record {
  declared = shape_row blocks b;
  variables = whole_row blocks b;
  parameters = parameter_indices blocks b (names_of (head_of_block (slice_get blocks b)));
  procedures = procedure_row blocks (declarations_at blocks b);
}

-- nothing is kept of a block that isn't there
abbrev pub table_or : Option BlockTable → BlockTable
table_or None = record { declared = []; variables = []; parameters = []; procedures = [] }
table_or (Some t) = t

-- the shape of the variable of level 1 with this place among those of a block
abbrev pub variable_shape : List Block → ℕ → ℕ → Option Shape
variable_shape blocks b i = shape_of_first blocks b (slice_get (variables_in (declarations_at blocks b)) i)
