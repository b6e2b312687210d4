-- What RETURNS says, option by option.
use Rattle.std.specs.Prelude.{ℕ, List, map, Option, Some, None}
use Rattle.std.specs.Borrow.{Bor}
use Rattle.pli_language.specs.declared.declaration.Attribute.{Attribute as AttributeHeld}
use Rattle.pli_language.specs.declared.scope.DeclarationAt.{DeclarationAt}
use Rattle.pli_typing.specs.Calls.{block_of_procedure}
use Rattle.pli_language.specs.Declarations.{What, Variable', Label, ProcedureName, Declaration, Block}
use Rattle.pli_typing.specs.Variables.{what_at}
use Rattle.pli_language.specs.Tree.{Attribute, ProcedureOption, Main, Recursive, Returns}
use Rattle.pli_language.specs.View.{attribute_of}

abbrev pub attributes_shown : Bor (List AttributeHeld) → List Attribute
attributes_shown b = map attribute_of b.now

-- the attributes of an option that is RETURNS
abbrev pub returns_of : ProcedureOption → Option (List Attribute)
returns_of (Returns attributes) = Some attributes
returns_of Main = None
returns_of Recursive = None

-- the number of the block of a procedure that is declared, if one is
abbrev pub procedure_of_what : List Block → What → Option ℕ
procedure_of_what blocks (ProcedureName head) = Some (block_of_procedure blocks head)
procedure_of_what blocks (Variable' h) = None
procedure_of_what blocks Label = None

abbrev pub procedure_in : List Block → Option What → Option ℕ
procedure_in blocks None = None
procedure_in blocks (Some w) = procedure_of_what blocks w

abbrev pub procedure_at : List Block → DeclarationAt → Option ℕ
procedure_at blocks at = procedure_in blocks (what_at blocks at)

-- those of a block's declarations
abbrev pub procedure_row : List Block → List Declaration → List (Option ℕ)
procedure_row blocks ds = map (λ d. procedure_of_what blocks d.what) ds
