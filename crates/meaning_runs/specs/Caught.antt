-- A jump at the end of a function. A function establishes an on-unit that goes to a label of the function's own list,
-- and ends without a value: ERROR is raised at the end of the list, which catches the jump and goes on at the label.
use Rattle.std.specs.Prelude.{◌≡◌, ℕ, [], ◌∷◌, Some, None, true}
use Rattle.pli_language.specs.declared.condition.Condition.TheVariants as C
use Rattle.pli_language.specs.Tree as T
use Rattle.pli_meaning.specs.declared.outcome.End.TheVariants as E
use Rattle.pli_typing.specs.TypedTree as Y
use Rattle.pli_meaning.specs.Executing.{meaning}
use Rattle.well_formed_trees.specs.WellFormed.{IsWellFormed}

abbrev pub head : Y.BlockKind → (number level : ℕ) → Y.BlockHead
head kind number level = record { kind = kind; number = number; level = level; line = 1 }

abbrev pub formats : T.Formats
formats = T.FormatThen (record { line = 1; column = 1 }) 1 (T.TextFormat None) T.NoFormat

-- IF F() THEN PUT EDIT ('A') (A);
abbrev pub main_body : Y.Stmts
main_body =
    Y.StmtThen []
    (Y.If (Y.BitFrom (Y.Calling 2 0 Y.NoArgument))
    (Y.Put None (record { items = Y.PutValue (Y.TextValue (Y.TextConstant (65 ∷ []))) ∷ []; formats = formats } ∷ []) 1)
    1) (Y.EndOfList [])

-- GOTO L;
abbrev pub unit_body : Y.Stmts
unit_body = Y.StmtThen [] (Y.Goto 1 (76 ∷ []) 1) (Y.EndOfList [])

-- F: PROCEDURE RETURNS(BIT(1)); ON ERROR GOTO L; GOTO N; L: RETURN ('1'B); N: END F;
abbrev pub function_body : Y.Stmts
function_body =
    Y.StmtThen [] (Y.OnUnit C.Error (Y.BlockOf (head Y.SimpleUnit 2 2) unit_body) 1)
    (Y.StmtThen [] (Y.Goto 1 (78 ∷ []) 1)
    (Y.StmtThen ((76 ∷ []) ∷ []) (Y.ReturnValue Y.BitLeaf (Y.StoredBit (Y.BitConstant true)) 1)
    (Y.EndOfList ((78 ∷ []) ∷ []))))

abbrev pub main : Y.Procedure
main = record { block = Y.BlockOf (head Y.ProcedureBlock 1 0) main_body; parameters = []; result = None }

abbrev pub function : Y.Procedure
function =
    record {
      block = Y.BlockOf (head Y.ProcedureBlock 2 1) function_body;
      parameters = [];
      result = Some Y.BitLeaf;
    }

abbrev pub function_ends : Y.Program
function_ends = record { variables = [] ∷ [] ∷ [] ∷ []; procedures = main ∷ function ∷ [] }

-- the law: it is well formed; ERROR 112 is raised, and the run goes on behind it, writes and ends
pub record JumpCaught : Type 0 where
  pub well_formed : IsWellFormed function_ends
  pub caught :
      meaning function_ends [] 20
      ≡ Some (record { acts = 12; output = 65 ∷ 10 ∷ []; raised = (C.Error, 112) ∷ []; end = E.Finished })
