-- A worked row: a program of the class, with DO WHILE, IF and sums, which keeps the headline since it is one.
use Rattle.std.specs.Prelude.{ℕ, ◌≡◌, List, [], ◌∷◌, Some, None}
use Rattle.pli_typing.specs.TypedTree as Y
use Rattle.pli_meaning.specs.declared.outcome.End.TheVariants as E
use Rattle.pli_meaning.specs.Executing.{meaning}
use Rattle.pli_coding.specs.Images.{picture_of}
use Rattle.pli_coding.specs.SignatureTable.{table_of}
use Rattle.expression_runs.specs.Assignments.{assignment}
use Rattle.expression_runs.specs.Variables.{Spot, number_declared, whole}
use Rattle.pli_headline.specs.Headline.{Headline, parts}

-- DECLARE (X, Y) FIXED BINARY(31); X = 1; DO WHILE (X < 1000); IF 400 < X THEN Y = Y + X; X = X + X; END;

abbrev pub one_spot : Spot
one_spot = record { block = 1; level = 0; index = 0 }

abbrev pub total_spot : Spot
total_spot = record { block = 1; level = 0; index = 1 }

abbrev pub one_value : Y.Number
one_value = Y.NumberIn (whole one_spot)

abbrev pub total_sum : Y.Number
total_sum = Y.Calculated Y.Sum (Y.NumberIn (whole total_spot)) one_value

abbrev pub total_choice : Y.Stmt
total_choice =
    Y.If (Y.NumbersCompared Y.IsLess (Y.NumberConstant 400) one_value) (assignment total_spot total_sum 5) 5

abbrev pub total_turns : Y.Stmts
total_turns =
    Y.StmtThen [] total_choice
    (Y.StmtThen [] (assignment one_spot (Y.Calculated Y.Sum one_value one_value) 6) (Y.EndOfList []))

abbrev pub total_loop : Y.Stmt
total_loop = Y.DoWhile (Y.NumbersCompared Y.IsLess one_value (Y.NumberConstant 1000)) total_turns 4

abbrev pub total_body : Y.Stmts
total_body =
    Y.StmtThen [] (assignment one_spot (Y.NumberConstant 1) 3) (Y.StmtThen [] total_loop (Y.EndOfList []))

abbrev pub total_head : Y.BlockHead
total_head = record { kind = Y.ProcedureBlock; number = 1; level = 0; line = 1 }

abbrev pub total_main : Y.Procedure
total_main = record { block = Y.BlockOf total_head total_body; parameters = []; result = None }

abbrev pub total_program : Y.Program
total_program =
    record {
      variables = [] ∷ (number_declared [] ∷ number_declared [] ∷ []) ∷ [];
      procedures = total_main ∷ [];
    }

pub record TotalKept : Type 0 where
  pub headline : Headline total_program (picture_of parts total_program) (table_of total_program)
  -- it ends behind its tenth turn
  pub ends :
      (input : List ℕ) →
      meaning total_program input 36 ≡ Some (record { acts = 36; output = []; raised = []; end = E.Finished })
