-- Framed: the part of `IsWellFormed` that says nothing of expressions, references, callees, targets of GOTO, and what
-- blocks declare.
use Rattle.std.specs.Prelude.{◌≡◌, ℕ, ◌<◌, ◌≤◌, List, [], length}
use Rattle.pli_language.specs.declared.token.Token.{Token}
use Rattle.pli_language.specs.Tokens.{Tokens}
use Rattle.pli_language.specs.Tree as T
use Rattle.pli_language.specs.Parsing.{Spells}
use Rattle.pli_language.specs.Declaring.{declaring_faults}
use Rattle.pli_typing.specs.TypedTree as Y
use Rattle.pli_typing.specs.Resolving.{typing_faults, typed_tree}
use Rattle.well_formed_trees.specs.Every.{Every}
use Rattle.well_formed_trees.specs.Surroundings.{Table, variables_of_block}
use Rattle.well_formed_trees.specs.Blocks.{BlockLabelsOnce, procedure_numbers}
use Rattle.well_formed_trees.specs.WellFormed.{HasMain, AreNumbered, IsEntry, AreNested, IsParameter, AreApart}
use Rattle.well_formed_trees.specs.WellFormed.{IsResultIf}
use Rattle.well_formed_trees.specs.Held.{HeldProcedure}

pub record FramedProcedure (table : Table) (program : Y.Program) (p : Y.Procedure) : Type 0 where
  pub held : HeldProcedure table p
  pub labels : BlockLabelsOnce p.block
  pub parameters : Every (IsParameter program p) p.parameters
  pub apart : AreApart p.parameters
  pub result : IsResultIf p.result

pub record IsFramed (program : Y.Program) : Type 0 where
  pub table : Table
  pub main : HasMain program.procedures
  pub numbers : AreNumbered (length table) (procedure_numbers program.procedures)
  pub entries : (number : ℕ) → 1 ≤ number → number < length table → IsEntry table number
  pub nested : AreNested table
  pub procedures : Every (FramedProcedure table program) program.procedures
  pub lists : length program.variables ≡ length table
  pub outermost : variables_of_block program 0 ≡ []

-- the law: the typed tree of each accepted source is so
abbrev pub AcceptedFramed : Type 0
AcceptedFramed =
    (s : List ℕ) (tokens : List Token) (tree : T.Tree) → Tokens s tokens → Spells s tokens tree
    → declaring_faults tree ≡ [] → typing_faults tree ≡ [] → IsFramed (typed_tree tree)
