-- A worked row: a program of the class that writes ONCODE in a unit, in one that is raised in that, and in neither.
use Rattle.std.specs.Prelude.{ℕ, ◌≡◌, List, [], ◌∷◌, Some, None}
use Rattle.pli_language.specs.declared.condition.Condition.TheVariants as C
use Rattle.pli_language.specs.Tree as T
use Rattle.pli_typing.specs.TypedTree as Y
use Rattle.pli_meaning.specs.declared.outcome.End.TheVariants as E
use Rattle.pli_meaning.specs.Executing.{meaning}
use Rattle.pli_coding.specs.Images.{picture_of}
use Rattle.pli_coding.specs.SignatureTable.{table_of}
use Rattle.expression_runs.specs.Assignments.{assignment}
use Rattle.expression_runs.specs.Variables.{Spot, number_declared, whole}
use Rattle.pli_headline.specs.Headline.{Headline, parts}

-- DECLARE X FIXED BINARY(31); ON ZERODIVIDE PUT EDIT (ONCODE()) (F(3));
-- ON FIXEDOVERFLOW BEGIN; SIGNAL ZERODIVIDE; PUT EDIT (ONCODE()) (F(3)); END;
-- X = 2147483647; X = X + X; PUT EDIT (ONCODE()) (F(3));

abbrev pub toll_spot : Spot
toll_spot = record { block = 1; level = 0; index = 0 }

abbrev pub toll_value : Y.Number
toll_value = Y.NumberIn (whole toll_spot)

abbrev pub toll_formats : (line : ℕ) → T.Formats
toll_formats line = T.FormatThen (record { line = line; column = 30 }) 1 (T.FixedFormat 3) T.NoFormat

abbrev pub toll_put : (line : ℕ) → Y.Stmt
toll_put line =
    Y.Put None
    (record { items = Y.PutValue (Y.NumberValue 31 Y.OnCode) ∷ []; formats = toll_formats line } ∷ []) line

abbrev pub inner_head : Y.BlockHead
inner_head = record { kind = Y.SimpleUnit; number = 1; level = 1; line = 3 }

abbrev pub inner_body : Y.Stmts
inner_body = Y.StmtThen [] (toll_put 3) (Y.EndOfList [])

abbrev pub unit_head : Y.BlockHead
unit_head = record { kind = Y.UnitBlock; number = 2; level = 1; line = 4 }

abbrev pub unit_body : Y.Stmts
unit_body = Y.StmtThen [] (Y.Signal C.ZeroDivide 5) (Y.StmtThen [] (toll_put 6) (Y.EndOfList []))

abbrev pub toll_body : Y.Stmts
toll_body =
    Y.StmtThen [] (Y.OnUnit C.ZeroDivide (Y.BlockOf inner_head inner_body) 3)
    (Y.StmtThen [] (Y.OnUnit C.FixedOverflow (Y.BlockOf unit_head unit_body) 4)
    (Y.StmtThen [] (assignment toll_spot (Y.NumberConstant 2147483647) 7)
    (Y.StmtThen [] (assignment toll_spot (Y.Calculated Y.Sum toll_value toll_value) 8)
    (Y.StmtThen [] (toll_put 9) (Y.EndOfList [])))))

abbrev pub toll_head : Y.BlockHead
toll_head = record { kind = Y.ProcedureBlock; number = 1; level = 0; line = 1 }

abbrev pub toll_main : Y.Procedure
toll_main = record { block = Y.BlockOf toll_head toll_body; parameters = []; result = None }

abbrev pub toll_program : Y.Program
toll_program =
    record { variables = [] ∷ (number_declared [] ∷ []) ∷ [] ∷ []; procedures = toll_main ∷ [] }

pub record TollKept : Type 0 where
  pub headline : Headline toll_program (picture_of parts toll_program) (table_of toll_program)
  -- the inner unit runs for ZERODIVIDE, the outer one for FIXEDOVERFLOW, also behind that, and the procedure for none
  pub ends :
      (input : List ℕ) →
      meaning toll_program input 40
      ≡ Some (record {
        acts = 17;
        output = 32 ∷ 51 ∷ 48 ∷ 32 ∷ 50 ∷ 48 ∷ 32 ∷ 32 ∷ 48 ∷ 10 ∷ [];
        raised = (C.FixedOverflow, 20) ∷ (C.ZeroDivide, 30) ∷ [];
        end = E.Finished;
      })
