-- The tables of a program, a row for each block.
use Rattle.std.specs.Prelude.{ℕ, Bool, false, zero, suc, ◌-◌, List, [], ◌∷◌, ◌++◌, length, map, Option, Some, None, Vec}
use Rattle.std.specs.declared.alloc.Global.{Global}
use Rattle.pli_declare.specs.declared.scopes.Scopes.{Scopes}
use Rattle.pli_declare.specs.ShownBlocks.{block_of}
use Rattle.pli_typing.specs.declared.typed.Variable.{Variable as VariableHeld}
use Rattle.pli_language.specs.declared.scope.DeclarationAt.{DeclarationAt}
use Rattle.pli_language.specs.Declarations.{Held, What, Variable', Label, ProcedureName, Block}
use Rattle.pli_language.specs.Declaring.{has, own_attributes, root_of, names_of}
use Rattle.pli_typing.specs.TypedTree as Y
use Rattle.pli_typing.specs.TypedView.{variable_of}
use Rattle.pli_typing.specs.Variables.{begins_at, class_of, declarations_at, index_where, root_place, variable_meant, variables_in, what_at}
use Rattle.pli_language.specs.View.{option_of}

abbrev pub blocks_shown : Scopes → List Block
blocks_shown s = map block_of s.blocks.items

-- the variable of level 1 that a variable is or belongs to, where its block is this one with this number, which declares these
abbrev pub variable_among : Block → ℕ → List (List Held) → Held → Y.Variable
variable_among block b groups h =
    record {
      class = class_of (names_of block.head) h (root_of h).item.attributes;
      block = b;
      level = length block.around - 2;
      index = index_where (begins_at (root_place h)) groups;
    }

abbrev pub variable_in : Block → ℕ → List (List Held) → What → Option Y.Variable
variable_in block b groups (Variable' h) = Some (variable_among block b groups h)
variable_in block b groups Label = None
variable_in block b groups (ProcedureName head) = None

-- those of this block's declarations
abbrev pub variables_among : Block → ℕ → List (Option Y.Variable)
variables_among block b = map (λ d. variable_in block b (variables_in block.declarations) d.what) block.declarations

-- none but variables are one
abbrev pub variable_of_what : List Block → ℕ → What → Option Y.Variable
variable_of_what blocks b (Variable' h) = Some (variable_meant blocks b h)
variable_of_what blocks b Label = None
variable_of_what blocks b (ProcedureName head) = None

abbrev pub variable_of_option : List Block → ℕ → Option What → Option Y.Variable
variable_of_option blocks b None = None
variable_of_option blocks b (Some w) = variable_of_what blocks b w

abbrev pub variable_at : List Block → DeclarationAt → Option Y.Variable
variable_at blocks at = variable_of_option blocks at.block (what_at blocks at)

-- those of a block's declarations
abbrev pub variable_row : List Block → ℕ → List (Option Y.Variable)
variable_row blocks b = map (λ d. variable_of_what blocks b d.what) (declarations_at blocks b)

-- the rows of the first blocks
abbrev pub rows_before : {X : Type 0} → (ℕ → X) → ℕ → List X
rows_before row zero = []
rows_before row (suc n) = rows_before row n ++ row n ∷ []

abbrev pub row_shown : List (Option VariableHeld) → List (Option Y.Variable)
row_shown vs = map (option_of variable_of) vs

abbrev pub rows_shown : List (Vec (Option VariableHeld) Global) → List (List (Option Y.Variable))
rows_shown vs = map (λ v. row_shown v.items) vs

abbrev pub is_area : Option What → Bool
is_area (Some (Variable' h)) = has 7 (own_attributes h)
is_area (Some Label) = false
is_area (Some (ProcedureName head)) = false
is_area None = false
