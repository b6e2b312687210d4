-- A worked row with arguments by reference: a procedure that calls itself with a parameter and a variable of its own.
use Rattle.std.specs.Prelude.{ℕ, ◌≡◌, List, [], ◌∷◌, Some, None}
use Rattle.pli_language.specs.Tree as T
use Rattle.pli_typing.specs.TypedTree as Y
use Rattle.pli_meaning.specs.declared.outcome.End.TheVariants as E
use Rattle.pli_meaning.specs.Executing.{meaning}
use Rattle.pli_coding.specs.Images.{picture_of}
use Rattle.pli_coding.specs.SignatureTable.{table_of}
use Rattle.expression_runs.specs.Assignments.{assignment}
use Rattle.expression_runs.specs.Variables.{Spot, number_declared, whole}
use Rattle.argument_runs.specs.Parameters.{parameter, parameter_declared}
use Rattle.reference_runs.specs.ParameterAssignments as P
use Rattle.pli_headline.specs.Headline.{Headline, parts}

-- EUCLID: PROCEDURE (A, B); DECLARE (A, B, R) FIXED BINARY(31); IF B = 0 THEN RETURN; R = MOD(A, B);
-- CALL EUCLID(B, R); A = B; END EUCLID;
-- DECLARE (X, Y) FIXED BINARY(31); X = 12; Y = 18; CALL EUCLID(X, Y); PUT EDIT (X) (F(2));

abbrev pub euclid_spot : (index : ℕ) → Spot
euclid_spot n = record { block = 2; level = 1; index = n }

abbrev pub divided_spot : (index : ℕ) → Spot
divided_spot n = record { block = 1; level = 0; index = n }

abbrev pub euclid_given : (index : ℕ) → Y.Number
euclid_given n = Y.NumberIn (parameter (euclid_spot n))

-- what is passed by reference
abbrev pub called_with : (first second : Y.Reference) → (line : ℕ) → Y.Stmt
called_with first second line =
    Y.CallProcedure
    (Y.Calling 2 0
    (Y.ArgumentThen (Y.ByReference first) (Y.ArgumentThen (Y.ByReference second) Y.NoArgument))) line

abbrev pub euclid_ends : Y.Stmt
euclid_ends = Y.If (Y.NumbersCompared Y.IsEqual (euclid_given 1) (Y.NumberConstant 0)) (Y.Return 4) 4

abbrev pub euclid_body : Y.Stmts
euclid_body =
    Y.StmtThen [] euclid_ends
    (Y.StmtThen [] (assignment (euclid_spot 2) (Y.Modulo (euclid_given 0) (euclid_given 1)) 5)
    (Y.StmtThen [] (called_with (parameter (euclid_spot 1)) (whole (euclid_spot 2)) 6)
    (Y.StmtThen [] (P.assignment (euclid_spot 0) (euclid_given 1) 7) (Y.EndOfList []))))

abbrev pub divided_formats : T.Formats
divided_formats = T.FormatThen (record { line = 13; column = 18 }) 1 (T.FixedFormat 2) T.NoFormat

abbrev pub divided_put : Y.Stmt
divided_put =
    Y.Put None (record {
      items = Y.PutValue (Y.NumberValue 31 (Y.NumberIn (whole (divided_spot 0)))) ∷ [];
      formats = divided_formats;
    } ∷ []) 13

abbrev pub divided_body : Y.Stmts
divided_body =
    Y.StmtThen [] (assignment (divided_spot 0) (Y.NumberConstant 12) 10)
    (Y.StmtThen [] (assignment (divided_spot 1) (Y.NumberConstant 18) 11)
    (Y.StmtThen [] (called_with (whole (divided_spot 0)) (whole (divided_spot 1)) 12)
    (Y.StmtThen [] divided_put (Y.EndOfList []))))

abbrev pub head_at : (number level line : ℕ) → Y.BlockHead
head_at number level line = record { kind = Y.ProcedureBlock; number = number; level = level; line = line }

abbrev pub divided_main : Y.Procedure
divided_main = record { block = Y.BlockOf (head_at 1 0 1) divided_body; parameters = []; result = None }

abbrev pub euclid_procedure : Y.Procedure
euclid_procedure = record { block = Y.BlockOf (head_at 2 1 2) euclid_body; parameters = 0 ∷ 1 ∷ []; result = None }

abbrev pub divided_program : Y.Program
divided_program =
    record {
      variables =
          [] ∷ (number_declared [] ∷ number_declared [] ∷ [])
          ∷ (parameter_declared ∷ parameter_declared ∷ number_declared [] ∷ []) ∷ [];
      procedures = divided_main ∷ euclid_procedure ∷ [];
    }

pub record EuclidKept : Type 0 where
  pub headline : Headline divided_program (picture_of parts divided_program) (table_of divided_program)
  -- 6 is written
  pub ends :
      (input : List ℕ) →
      meaning divided_program input 25
      ≡ Some (record { acts = 25; output = 32 ∷ 54 ∷ 10 ∷ []; raised = []; end = E.Finished })
