-- A worked row: a program of the class whose unit for ERROR is raised while a procedure writes, which it leaves by
-- a jump.
use Rattle.std.specs.Prelude.{ℕ, ◌≡◌, List, [], ◌∷◌, Some, None}
use Rattle.pli_language.specs.declared.condition.Condition.TheVariants as C
use Rattle.pli_language.specs.Tree as T
use Rattle.pli_typing.specs.TypedTree as Y
use Rattle.pli_meaning.specs.declared.outcome.End.TheVariants as E
use Rattle.pli_meaning.specs.Control.{Label}
use Rattle.pli_meaning.specs.Executing.{meaning}
use Rattle.pli_coding.specs.Images.{picture_of}
use Rattle.pli_coding.specs.SignatureTable.{table_of}
use Rattle.expression_runs.specs.Assignments.{assignment}
use Rattle.expression_runs.specs.Variables.{Spot, number_declared, whole}
use Rattle.pli_headline.specs.Headline.{Headline, parts}

-- DECLARE X FIXED BINARY(31); P: PROCEDURE; PUT EDIT (1 / X) (F(4)); END P; X = 0;
-- ON ERROR BEGIN; PUT EDIT (ONCODE()) (F(3)); X = 1; GOTO BACK; END; BACK: CALL P;

abbrev pub plead_spot : Spot
plead_spot = record { block = 1; level = 0; index = 0 }

abbrev pub plead_value : Y.Number
plead_value = Y.NumberIn (whole plead_spot)

abbrev pub plead_label : Label
plead_label = 66 ∷ 65 ∷ 67 ∷ 75 ∷ []

abbrev pub plead_formats : (line width : ℕ) → T.Formats
plead_formats line width =
    T.FormatThen (record { line = line; column = 30 }) 1 (T.FixedFormat width) T.NoFormat

abbrev pub plead_put : Y.Number → (line width : ℕ) → Y.Stmt
plead_put x line width =
    Y.Put None
    (record { items = Y.PutValue (Y.NumberValue 31 x) ∷ []; formats = plead_formats line width } ∷ []) line

abbrev pub head_at : (number level line : ℕ) → Y.BlockHead
head_at number level line = record { kind = Y.ProcedureBlock; number = number; level = level; line = line }

abbrev pub write_body : Y.Stmts
write_body =
    Y.StmtThen [] (plead_put (Y.Calculated Y.Quotient (Y.NumberConstant 1) plead_value) 3 4) (Y.EndOfList [])

abbrev pub write_procedure : Y.Procedure
write_procedure = record { block = Y.BlockOf (head_at 2 1 3) write_body; parameters = []; result = None }

abbrev pub unit_head : Y.BlockHead
unit_head = record { kind = Y.UnitBlock; number = 3; level = 1; line = 5 }

abbrev pub unit_body : Y.Stmts
unit_body =
    Y.StmtThen [] (plead_put Y.OnCode 5 3)
    (Y.StmtThen [] (assignment plead_spot (Y.NumberConstant 1) 5)
    (Y.StmtThen [] (Y.Goto 0 plead_label 5) (Y.EndOfList [])))

abbrev pub plead_body : Y.Stmts
plead_body =
    Y.StmtThen [] (assignment plead_spot (Y.NumberConstant 0) 4)
    (Y.StmtThen [] (Y.OnUnit C.Error (Y.BlockOf unit_head unit_body) 5)
    (Y.StmtThen (plead_label ∷ []) (Y.CallProcedure (Y.Calling 2 0 Y.NoArgument) 6) (Y.EndOfList [])))

abbrev pub plead_main : Y.Procedure
plead_main = record { block = Y.BlockOf (head_at 1 0 1) plead_body; parameters = []; result = None }

abbrev pub plead_program : Y.Program
plead_program =
    record {
      variables = [] ∷ (number_declared [] ∷ []) ∷ [] ∷ [] ∷ [];
      procedures = plead_main ∷ write_procedure ∷ [];
    }

pub record PleadKept : Type 0 where
  pub headline : Headline plead_program (picture_of parts plead_program) (table_of plead_program)
  -- the unit writes while the procedure does, and leaves it; called again, that writes
  pub ends :
      (input : List ℕ) →
      meaning plead_program input 40
      ≡ Some (record {
        acts = 18;
        output = 32 ∷ 51 ∷ 48 ∷ 32 ∷ 32 ∷ 32 ∷ 49 ∷ 10 ∷ [];
        raised = (C.ZeroDivide, 30) ∷ (C.Error, 30) ∷ [];
        end = E.Finished;
      })
