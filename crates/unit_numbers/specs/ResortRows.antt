-- A worked row: a program of the class whose function has a unit for ERROR, which goes back to a label of the function
-- from behind its list.
use Rattle.std.specs.Prelude.{ℕ, ◌≡◌, List, [], ◌∷◌, Some, None}
use Rattle.pli_language.specs.declared.condition.Condition.TheVariants as C
use Rattle.pli_typing.specs.TypedTree as Y
use Rattle.pli_meaning.specs.declared.outcome.End.TheVariants as E
use Rattle.pli_meaning.specs.Control.{Label}
use Rattle.pli_meaning.specs.Executing.{meaning}
use Rattle.pli_coding.specs.Images.{picture_of}
use Rattle.pli_coding.specs.SignatureTable.{table_of}
use Rattle.expression_runs.specs.Assignments.{assignment}
use Rattle.expression_runs.specs.Variables.{Spot, number_declared, whole}
use Rattle.function_runs.specs.Returns.{return_of}
use Rattle.pli_headline.specs.Headline.{Headline, parts}

-- DECLARE X FIXED BINARY(31); F: PROCEDURE RETURNS(FIXED BINARY(31)); ON ERROR GOTO BACK; IF X < 5 THEN GOTO OVER;
-- BACK: RETURN (X); OVER: X = 9; END F;
-- X = 0; X = F(); IF X > 8 THEN STOP;

abbrev pub resort_spot : Spot
resort_spot = record { block = 1; level = 0; index = 0 }

abbrev pub resort_value : Y.Number
resort_value = Y.NumberIn (whole resort_spot)

abbrev pub back_label : Label
back_label = 66 ∷ 65 ∷ 67 ∷ 75 ∷ []

abbrev pub over_label : Label
over_label = 79 ∷ 86 ∷ 69 ∷ 82 ∷ []

abbrev pub head_at : (number level line : ℕ) → Y.BlockHead
head_at number level line = record { kind = Y.ProcedureBlock; number = number; level = level; line = line }

abbrev pub gone_head : Y.BlockHead
gone_head = record { kind = Y.SimpleUnit; number = 2; level = 2; line = 4 }

abbrev pub gone_body : Y.Stmts
gone_body = Y.StmtThen [] (Y.Goto 1 back_label 4) (Y.EndOfList [])

abbrev pub low_test : Y.Bit
low_test = Y.NumbersCompared Y.IsLess resort_value (Y.NumberConstant 5)

abbrev pub host_body : Y.Stmts
host_body =
    Y.StmtThen [] (Y.OnUnit C.Error (Y.BlockOf gone_head gone_body) 4)
    (Y.StmtThen [] (Y.If low_test (Y.Goto 1 over_label 5) 5)
    (Y.StmtThen (back_label ∷ []) (return_of resort_value 6)
    (Y.StmtThen (over_label ∷ []) (assignment resort_spot (Y.NumberConstant 9) 7) (Y.EndOfList []))))

abbrev pub host_function : Y.Procedure
host_function =
    record { block = Y.BlockOf (head_at 2 1 3) host_body; parameters = []; result = Some (Y.FixedLeaf 31) }

abbrev pub high_test : Y.Bit
high_test = Y.NumbersCompared Y.IsGreater resort_value (Y.NumberConstant 8)

abbrev pub resort_body : Y.Stmts
resort_body =
    Y.StmtThen [] (assignment resort_spot (Y.NumberConstant 0) 8)
    (Y.StmtThen [] (assignment resort_spot (Y.NumberFrom (Y.Calling 2 0 Y.NoArgument)) 9)
    (Y.StmtThen [] (Y.If high_test (Y.Stop 10) 10) (Y.EndOfList [])))

abbrev pub resort_main : Y.Procedure
resort_main = record { block = Y.BlockOf (head_at 1 0 1) resort_body; parameters = []; result = None }

abbrev pub resort_program : Y.Program
resort_program =
    record {
      variables = [] ∷ (number_declared [] ∷ []) ∷ [] ∷ [];
      procedures = resort_main ∷ host_function ∷ [];
    }

pub record ResortKept : Type 0 where
  pub headline : Headline resort_program (picture_of parts resort_program) (table_of resort_program)
  -- the function ends without a value, and returns one from its label
  pub ends :
      (input : List ℕ) →
      meaning resort_program input 40
      ≡ Some (record { acts = 15; output = []; raised = (C.Error, 112) ∷ []; end = E.Stopped })
