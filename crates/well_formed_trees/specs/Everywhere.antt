-- What is so of every statement of a typed tree, where it stands.
use Rattle.std.specs.Prelude.{◌≡◌, ℕ, List, [], ⊤}
use Rattle.pli_language.specs.declared.token.Token.{Token}
use Rattle.pli_language.specs.Tokens.{Tokens}
use Rattle.pli_language.specs.Tree as T
use Rattle.pli_language.specs.Parsing.{Spells}
use Rattle.pli_language.specs.Declaring.{declaring_faults}
use Rattle.pli_typing.specs.TypedTree as Y
use Rattle.pli_typing.specs.Resolving.{typing_faults, typed_tree}
use Rattle.well_formed_trees.specs.Every.{Every}
use Rattle.well_formed_trees.specs.Surroundings.{Around, Table, Where, Returns, IsTarget, in_list, in_unit}
use Rattle.well_formed_trees.specs.Statements.{labels_in, IsListed, inside}
use Rattle.well_formed_trees.specs.WellFormed.{procedure_around}
use Rattle.well_formed_trees.specs.Held.{table_of}

-- in a statement and in all that it holds, each told what stands around it
abbrev mutual
  pub StmtHolds : (Where → Y.Stmt → Type 0) → Where → Y.Stmt → Type 0
  StmtHolds P w (Y.If condition unit line) = P w (Y.If condition unit line) × StmtHolds P w unit
  StmtHolds P w (Y.IfElse condition unit otherwise line) =
      P w (Y.IfElse condition unit otherwise line) × (StmtHolds P w unit × StmtHolds P w otherwise)
  StmtHolds P w (Y.Do body line) = P w (Y.Do body line) × StmtsHold P (in_list w (labels_in body)) body
  StmtHolds P w (Y.DoWhile condition body line) =
      P w (Y.DoWhile condition body line) × StmtsHold P (in_list w (labels_in body)) body
  StmtHolds P w (Y.DoOnce target start condition body line) =
      P w (Y.DoOnce target start condition body line) × StmtsHold P (in_list w (labels_in body)) body
  StmtHolds P w (Y.DoCount counter start limit step condition body line) =
      P w (Y.DoCount counter start limit step condition body line) × StmtsHold P (in_list w (labels_in body)) body
  StmtHolds P w (Y.Begin (Y.BlockOf head body)) =
      P w (Y.Begin (Y.BlockOf head body)) × StmtsHold P (inside w head body) body
  StmtHolds P w (Y.OnUnit condition (Y.BlockOf head body) line) =
      P w (Y.OnUnit condition (Y.BlockOf head body) line) × StmtsHold P (inside (in_unit w) head body) body
  StmtHolds P w s = P w s

  pub StmtsHold : (Where → Y.Stmt → Type 0) → Where → Y.Stmts → Type 0
  StmtsHold P w (Y.EndOfList labels) = ⊤
  StmtsHold P w (Y.StmtThen labels first rest) = StmtHolds P w first × StmtsHold P w rest

-- in a procedure, around whose block the table has what holds it
pub record ProcedureHolds (P : Where → Y.Stmt → Type 0) (table : Table) (program : Y.Program) (p : Y.Procedure) : Type 0
  where
    pub head : Y.BlockHead
    pub body : Y.Stmts
    pub is : p.block ≡ Y.BlockOf head body
    pub outer : List Around
    pub listed : IsListed table head (procedure_around head body outer)
    pub statements :
        StmtsHold P (record {
          program = program;
          table = table;
          around = procedure_around head body outer;
          returning = Returns p.result;
        }) body

-- in a typed tree
abbrev pub HoldsEverywhere : (Where → Y.Stmt → Type 0) → T.Tree → Type 0
HoldsEverywhere P tree = Every (ProcedureHolds P (table_of tree) (typed_tree tree)) (typed_tree tree).procedures

-- ---- GOTO

-- the label that a GOTO names stands in a list around it
abbrev pub GoesAround : Where → Y.Stmt → Type 0
GoesAround w (Y.Goto level label line) = IsTarget level label w.around
GoesAround w _ = ⊤

-- the law: so does each GOTO of an accepted source
abbrev pub AcceptedTargets : Type 0
AcceptedTargets =
    (s : List ℕ) (tokens : List Token) (tree : T.Tree) → Tokens s tokens → Spells s tokens tree
    → declaring_faults tree ≡ [] → typing_faults tree ≡ [] → HoldsEverywhere GoesAround tree
