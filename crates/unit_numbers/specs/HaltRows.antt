-- A worked row: a program of the class with units for ERROR and for FIXEDOVERFLOW, each a single statement.
use Rattle.std.specs.Prelude.{ℕ, ◌≡◌, List, [], ◌∷◌, Some, None}
use Rattle.pli_language.specs.declared.condition.Condition.TheVariants as C
use Rattle.pli_typing.specs.TypedTree as Y
use Rattle.pli_meaning.specs.declared.outcome.End.TheVariants as E
use Rattle.pli_meaning.specs.Executing.{meaning}
use Rattle.pli_coding.specs.Images.{picture_of}
use Rattle.pli_coding.specs.SignatureTable.{table_of}
use Rattle.expression_runs.specs.Assignments.{assignment}
use Rattle.expression_runs.specs.Variables.{Spot, number_declared, whole}
use Rattle.pli_headline.specs.Headline.{Headline, parts}

-- DECLARE X FIXED BINARY(31); ON ERROR X = 1; ON FIXEDOVERFLOW X = 2; X = 2147483647; X = X + X; X = X / (X - X);
-- SIGNAL FIXEDOVERFLOW;

abbrev pub halt_spot : Spot
halt_spot = record { block = 1; level = 0; index = 0 }

abbrev pub halt_value : Y.Number
halt_value = Y.NumberIn (whole halt_spot)

abbrev pub unit_head : (line : ℕ) → Y.BlockHead
unit_head line = record { kind = Y.SimpleUnit; number = 1; level = 1; line = line }

abbrev pub unit_body : (to line : ℕ) → Y.Stmts
unit_body to line = Y.StmtThen [] (assignment halt_spot (Y.NumberConstant to) line) (Y.EndOfList [])

abbrev pub halt_sum : Y.Number
halt_sum = Y.Calculated Y.Sum halt_value halt_value

abbrev pub halt_over : Y.Number
halt_over = Y.Calculated Y.Quotient halt_value (Y.Calculated Y.Difference halt_value halt_value)

abbrev pub halt_body : Y.Stmts
halt_body =
    Y.StmtThen [] (Y.OnUnit C.Error (Y.BlockOf (unit_head 3) (unit_body 1 3)) 3)
    (Y.StmtThen [] (Y.OnUnit C.FixedOverflow (Y.BlockOf (unit_head 4) (unit_body 2 4)) 4)
    (Y.StmtThen [] (assignment halt_spot (Y.NumberConstant 2147483647) 5)
    (Y.StmtThen [] (assignment halt_spot halt_sum 6)
    (Y.StmtThen [] (assignment halt_spot halt_over 7)
    (Y.StmtThen [] (Y.Signal C.FixedOverflow 8) (Y.EndOfList []))))))

abbrev pub halt_head : Y.BlockHead
halt_head = record { kind = Y.ProcedureBlock; number = 1; level = 0; line = 1 }

abbrev pub halt_main : Y.Procedure
halt_main = record { block = Y.BlockOf halt_head halt_body; parameters = []; result = None }

abbrev pub halt_program : Y.Program
halt_program =
    record { variables = [] ∷ (number_declared [] ∷ []) ∷ []; procedures = halt_main ∷ [] }

pub record HaltKept : Type 0 where
  pub headline : Headline halt_program (picture_of parts halt_program) (table_of halt_program)
  -- FIXEDOVERFLOW has its own unit; ZERODIVIDE has none, so ERROR's runs, behind which the run ends
  pub ends :
      (input : List ℕ) →
      meaning halt_program input 40
      ≡ Some (record {
        acts = 14;
        output = [];
        raised = (C.FixedOverflow, 20) ∷ (C.ZeroDivide, 30) ∷ (C.Error, 30) ∷ [];
        end = E.Error 30 7;
      })
