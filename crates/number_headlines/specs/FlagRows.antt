-- A worked row: a program of the class that doubles a FIXED BINARY(15) variable as long as a BIT(1) variable says so, and
-- prints it in each turn.
use Rattle.std.specs.Prelude.{ℕ, ◌≡◌, List, [], ◌∷◌, Some, None, true}
use Rattle.pli_language.specs.Tree as T
use Rattle.pli_typing.specs.TypedTree as Y
use Rattle.pli_meaning.specs.declared.outcome.End.TheVariants as E
use Rattle.pli_meaning.specs.Executing.{meaning}
use Rattle.pli_coding.specs.Images.{picture_of}
use Rattle.pli_coding.specs.SignatureTable.{table_of}
use Rattle.expression_runs.specs.Variables.{Spot, whole}
use Rattle.scalar_runs.specs.Assignments.{bit_assignment, number_assignment}
use Rattle.scalar_runs.specs.Scalars.{scalar_declared}
use Rattle.pli_headline.specs.Headline.{Headline, parts}

-- DECLARE H FIXED BINARY(15), B BIT(1); H = 1; B = '1'B; DO WHILE (B); PUT EDIT (H) (F(3)); H = H + H; B = H < 40; END;

abbrev pub height_spot : Spot
height_spot = record { block = 1; level = 0; index = 0 }

abbrev pub flag_spot : Spot
flag_spot = record { block = 1; level = 0; index = 1 }

abbrev pub height : Y.Number
height = Y.NumberIn (whole height_spot)

abbrev pub flag_value : Y.Bit
flag_value = Y.BitIn (whole flag_spot)

abbrev pub height_formats : T.Formats
height_formats = T.FormatThen (record { line = 6; column = 20 }) 1 (T.FixedFormat 3) T.NoFormat

abbrev pub height_put : Y.Stmt
height_put =
    Y.Put None
    (record { items = Y.PutValue (Y.NumberValue 15 height) ∷ []; formats = height_formats } ∷ []) 6

abbrev pub flag_turns : Y.Stmts
flag_turns =
    Y.StmtThen [] height_put
    (Y.StmtThen [] (number_assignment height_spot 15 (Y.Calculated Y.Sum height height) 7)
    (Y.StmtThen [] (bit_assignment flag_spot (Y.NumbersCompared Y.IsLess height (Y.NumberConstant 40)) 8)
    (Y.EndOfList [])))

abbrev pub flag_body : Y.Stmts
flag_body =
    Y.StmtThen [] (number_assignment height_spot 15 (Y.NumberConstant 1) 3)
    (Y.StmtThen [] (bit_assignment flag_spot (Y.BitConstant true) 4)
    (Y.StmtThen [] (Y.DoWhile flag_value flag_turns 5) (Y.EndOfList [])))

abbrev pub flag_head : Y.BlockHead
flag_head = record { kind = Y.ProcedureBlock; number = 1; level = 0; line = 1 }

abbrev pub flag_main : Y.Procedure
flag_main = record { block = Y.BlockOf flag_head flag_body; parameters = []; result = None }

abbrev pub flag_program : Y.Program
flag_program =
    record {
      variables = [] ∷ (scalar_declared (Y.FixedLeaf 15) [] ∷ scalar_declared Y.BitLeaf [] ∷ []) ∷ [];
      procedures = flag_main ∷ [];
    }

pub record FlagKept : Type 0 where
  pub headline : Headline flag_program (picture_of parts flag_program) (table_of flag_program)
  -- six turns
  pub ends :
      (input : List ℕ) →
      meaning flag_program input 36
      ≡ Some (record {
        acts = 36;
        output =
            32 ∷ 32 ∷ 49 ∷ 32 ∷ 32 ∷ 50 ∷ 32 ∷ 32 ∷ 52 ∷ 32 ∷ 32 ∷ 56 ∷ 32 ∷ 49 ∷ 54 ∷ 32 ∷ 51 ∷ 50 ∷ 10 ∷ [];
        raised = [];
        end = E.Finished;
      })
