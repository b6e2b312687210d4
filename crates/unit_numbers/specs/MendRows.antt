-- A worked row: a program of the class that writes a number again and again, as does a unit that sets it.
use Rattle.std.specs.Prelude.{ℕ, ◌≡◌, List, [], ◌∷◌, Option, Some, None}
use Rattle.pli_language.specs.declared.condition.Condition.TheVariants as C
use Rattle.pli_language.specs.Tree as T
use Rattle.pli_typing.specs.TypedTree as Y
use Rattle.pli_meaning.specs.declared.outcome.End.TheVariants as E
use Rattle.pli_meaning.specs.Control.{Label}
use Rattle.pli_meaning.specs.Executing.{meaning}
use Rattle.pli_coding.specs.Images.{picture_of}
use Rattle.pli_coding.specs.SignatureTable.{table_of}
use Rattle.expression_runs.specs.Assignments.{assignment}
use Rattle.expression_runs.specs.Variables.{Spot, number_declared, whole}
use Rattle.pli_headline.specs.Headline.{Headline, parts}

-- DECLARE X FIXED BINARY(31); X = 2147483647; ON FIXEDOVERFLOW BEGIN; PUT EDIT (X) (F(11)); X = 1; END;
-- NEXT: PUT SKIP EDIT (X) (F(10)); X = X + X - X + 2; IF X < 2 THEN GOTO NEXT;

abbrev pub mend_spot : Spot
mend_spot = record { block = 1; level = 0; index = 0 }

abbrev pub mend_value : Y.Number
mend_value = Y.NumberIn (whole mend_spot)

abbrev pub mend_label : Label
mend_label = 78 ∷ 69 ∷ 88 ∷ 84 ∷ []

abbrev pub mend_unit : Y.BlockHead
mend_unit = record { kind = Y.UnitBlock; number = 2; level = 1; line = 4 }

abbrev pub mend_formats : (line width : ℕ) → T.Formats
mend_formats line width =
    T.FormatThen (record { line = line; column = 30 }) 1 (T.FixedFormat width) T.NoFormat

abbrev pub mend_put : (skip : Option ℕ) → (line width : ℕ) → Y.Stmt
mend_put skip line width =
    Y.Put skip
    (record { items = Y.PutValue (Y.NumberValue 31 mend_value) ∷ []; formats = mend_formats line width } ∷ []) line

abbrev pub mend_set : Y.Stmts
mend_set =
    Y.StmtThen [] (mend_put None 4 11)
    (Y.StmtThen [] (assignment mend_spot (Y.NumberConstant 1) 4) (Y.EndOfList []))

abbrev pub mend_sum : Y.Number
mend_sum =
    Y.Calculated Y.Sum
    (Y.Calculated Y.Difference (Y.Calculated Y.Sum mend_value mend_value) mend_value)
    (Y.NumberConstant 2)

abbrev pub mend_body : Y.Stmts
mend_body =
    Y.StmtThen [] (assignment mend_spot (Y.NumberConstant 2147483647) 3)
    (Y.StmtThen [] (Y.OnUnit C.FixedOverflow (Y.BlockOf mend_unit mend_set) 4)
    (Y.StmtThen (mend_label ∷ []) (mend_put (Some 1) 5 10)
    (Y.StmtThen [] (assignment mend_spot mend_sum 6)
    (Y.StmtThen []
    (Y.If (Y.NumbersCompared Y.IsLess mend_value (Y.NumberConstant 2)) (Y.Goto 0 mend_label 7) 7)
    (Y.EndOfList [])))))

abbrev pub mend_head : Y.BlockHead
mend_head = record { kind = Y.ProcedureBlock; number = 1; level = 0; line = 1 }

abbrev pub mend_main : Y.Procedure
mend_main = record { block = Y.BlockOf mend_head mend_body; parameters = []; result = None }

abbrev pub mend_program : Y.Program
mend_program =
    record { variables = [] ∷ (number_declared [] ∷ []) ∷ [] ∷ []; procedures = mend_main ∷ [] }

pub record MendKept : Type 0 where
  pub headline : Headline mend_program (picture_of parts mend_program) (table_of mend_program)
  -- three lines: FIXEDOVERFLOW is raised where the first is written, and its unit goes on with that
  pub ends :
      (input : List ℕ) →
      meaning mend_program input 26
      ≡ Some (record {
        acts = 26;
        output =
            10 ∷ 50 ∷ 49 ∷ 52 ∷ 55 ∷ 52 ∷ 56 ∷ 51 ∷ 54 ∷ 52 ∷ 55
            ∷ 32 ∷ 50 ∷ 49 ∷ 52 ∷ 55 ∷ 52 ∷ 56 ∷ 51 ∷ 54 ∷ 52 ∷ 55
            ∷ 10 ∷ 32 ∷ 32 ∷ 32 ∷ 32 ∷ 32 ∷ 32 ∷ 32 ∷ 32 ∷ 45 ∷ 49
            ∷ 10 ∷ 32 ∷ 32 ∷ 32 ∷ 32 ∷ 32 ∷ 32 ∷ 32 ∷ 32 ∷ 32 ∷ 49 ∷ 10
            ∷ [];
        raised = (C.FixedOverflow, 20) ∷ [];
        end = E.Finished;
      })
