-- A worked row: a program of the class with a DO that counts while a test is met, and two that start once.
use Rattle.std.specs.Prelude.{ℕ, ◌≡◌, List, [], ◌∷◌, Some, None}
use Rattle.pli_language.specs.Tree as T
use Rattle.pli_typing.specs.TypedTree as Y
use Rattle.pli_meaning.specs.declared.outcome.End.TheVariants as E
use Rattle.pli_meaning.specs.Executing.{meaning}
use Rattle.pli_coding.specs.Images.{picture_of}
use Rattle.pli_coding.specs.SignatureTable.{table_of}
use Rattle.expression_runs.specs.Assignments.{assignment}
use Rattle.expression_runs.specs.Variables.{Spot, number_declared, whole}
use Rattle.pli_headline.specs.Headline.{Headline, parts}

-- DECLARE (S, I) FIXED BINARY(31); S = 0; DO I = 1 TO 10 WHILE (S < 12); S = S + I; END;
-- DO S = S + S WHILE (S > 20); PUT EDIT (S, I) (F(3)); END; DO I = 0; S = I; END;

abbrev pub total_spot : Spot
total_spot = record { block = 1; level = 0; index = 0 }

abbrev pub added_spot : Spot
added_spot = record { block = 1; level = 0; index = 1 }

abbrev pub total : Y.Number
total = Y.NumberIn (whole total_spot)

abbrev pub added : Y.Number
added = Y.NumberIn (whole added_spot)

abbrev pub sum_loop : Y.Stmt
sum_loop =
    Y.DoCount (Y.NumberCounter 31 (whole added_spot)) (Y.NumberValue 31 (Y.NumberConstant 1))
    (Some (Y.NumberConstant 10)) (Y.NumberConstant 1)
    (Some (Y.NumbersCompared Y.IsLess total (Y.NumberConstant 12)))
    (Y.StmtThen [] (assignment total_spot (Y.Calculated Y.Sum total added) 5) (Y.EndOfList [])) 4

abbrev pub three_wide : T.Formats
three_wide = T.FormatThen (record { line = 8; column = 23 }) 1 (T.FixedFormat 3) T.NoFormat

abbrev pub both_put : Y.Stmt
both_put =
    Y.Put None
    (record {
      items = Y.PutValue (Y.NumberValue 31 total) ∷ Y.PutValue (Y.NumberValue 31 added) ∷ [];
      formats = three_wide;
    }
    ∷ []) 8

abbrev pub doubled_once : Y.Stmt
doubled_once =
    Y.DoOnce (whole total_spot) (Y.StoredNumber 31 (Y.Calculated Y.Sum total total))
    (Some (Y.NumbersCompared Y.IsGreater total (Y.NumberConstant 20)))
    (Y.StmtThen [] both_put (Y.EndOfList [])) 7

abbrev pub cleared_once : Y.Stmt
cleared_once =
    Y.DoOnce (whole added_spot) (Y.StoredNumber 31 (Y.NumberConstant 0)) None
    (Y.StmtThen [] (assignment total_spot added 11) (Y.EndOfList [])) 10

abbrev pub loops_body : Y.Stmts
loops_body =
    Y.StmtThen [] (assignment total_spot (Y.NumberConstant 0) 3)
    (Y.StmtThen [] sum_loop (Y.StmtThen [] doubled_once (Y.StmtThen [] cleared_once (Y.EndOfList []))))

abbrev pub loops_head : Y.BlockHead
loops_head = record { kind = Y.ProcedureBlock; number = 1; level = 0; line = 1 }

abbrev pub loops_main : Y.Procedure
loops_main = record { block = Y.BlockOf loops_head loops_body; parameters = []; result = None }

abbrev pub loops_program : Y.Program
loops_program =
    record {
      variables = [] ∷ (number_declared [] ∷ number_declared [] ∷ []) ∷ [];
      procedures = loops_main ∷ [];
    }

pub record LoopsKept : Type 0 where
  pub headline : Headline loops_program (picture_of parts loops_program) (table_of loops_program)
  -- 15 is reached before 6 is added
  pub ends :
      (input : List ℕ) →
      meaning loops_program input 22
      ≡ Some (record {
        acts = 22;
        output = 32 ∷ 51 ∷ 48 ∷ 32 ∷ 32 ∷ 54 ∷ 10 ∷ [];
        raised = [];
        end = E.Finished;
      })
