-- A worked row: a main procedure whose text grows in a loop until it has four bytes, is compared to a constant, and is
-- written.
use Rattle.std.specs.Prelude.{ℕ, ◌≡◌, ◌+◌, List, [], ◌∷◌, None, Some, true}
use Rattle.pli_language.specs.Tree as T
use Rattle.pli_typing.specs.TypedTree as Y
use Rattle.pli_meaning.specs.declared.outcome.End.TheVariants as E
use Rattle.pli_meaning.specs.Executing.{meaning}
use Rattle.pli_coding.specs.Assembly.{size_of}
use Rattle.pli_coding.specs.Entries.{variables_code}
use Rattle.pli_coding.specs.Environments.{Environment}
use Rattle.pli_coding.specs.Images.{environment_of, picture_of, raise_code}
use Rattle.pli_coding.specs.Procedures.{procedure_environment}
use Rattle.pli_coding.specs.SignatureTable.{table_of}
use Rattle.pli_coding.specs.Statements.{block_held, block_words}
use Rattle.pli_headline.specs.Headline.{Headline, parts}
use Rattle.program_runs.specs.Procedures.{Procedure}
use Rattle.program_runs.specs.Rows.{row_head}
use Rattle.program_runs.specs.Starts.{image_parts, start_of}
use Rattle.program_runs.specs.Variables.{Declared}
use Rattle.expression_runs.specs.Variables.{Spot, whole}
use Rattle.edit_runs.specs.TextEdits.{DataPut, TextList, data_put}
use Rattle.text_values.specs.Assignments.{text_assigned}
use Rattle.text_values.specs.Variables.{text_declared}

-- ---- the program: DECLARE T CHARACTER(8) VARYING; T = 'A'; DO WHILE (LENGTH(T) < 4); T = T || 'B'; END;
-- IF T = 'ABBB' THEN PUT EDIT (T) (A);

abbrev pub grow_spot : Spot
grow_spot = record { block = 0; level = 0; index = 0 }

abbrev pub grow_text : Y.Text
grow_text = Y.TextIn (whole grow_spot)

-- 'A', 'B' and 'ABBB'
abbrev pub first_bytes : List ℕ
first_bytes = 65 ∷ []

abbrev pub more_bytes : List ℕ
more_bytes = 66 ∷ []

abbrev pub last_bytes : List ℕ
last_bytes = 65 ∷ 66 ∷ 66 ∷ 66 ∷ []

abbrev pub grow_first : Y.Stmt
grow_first = text_assigned grow_spot (Y.TextConstant first_bytes) 3

abbrev pub grown : Y.Text
grown = Y.Joined grow_text (Y.TextConstant more_bytes)

abbrev pub grow_turn : Y.Stmt
grow_turn = text_assigned grow_spot grown 5

abbrev pub grow_turns : Y.Stmts
grow_turns = Y.StmtThen [] grow_turn (Y.EndOfList [])

abbrev pub is_short : Y.Bit
is_short = Y.NumbersCompared Y.IsLess (Y.LengthOf grow_text) (Y.NumberConstant 4)

abbrev pub grow_loop : Y.Stmt
grow_loop = Y.DoWhile is_short grow_turns 4

abbrev pub is_grown : Y.Bit
is_grown = Y.TextsCompared Y.IsEqual grow_text (Y.TextConstant last_bytes)

-- (A)
abbrev pub grow_formats : T.Formats
grow_formats = T.FormatThen (record { line = 7; column = 20 }) 1 (T.TextFormat None) T.NoFormat

abbrev pub grow_put : DataPut
grow_put = record { skip = None; first = TextList grow_text [] grow_formats; more = []; line = 7 }

abbrev pub grow_unit : Y.Stmt
grow_unit = data_put grow_put

abbrev pub grow_choice : Y.Stmt
grow_choice = Y.If is_grown grow_unit 7

abbrev pub grow_end : Y.Stmts
grow_end = Y.StmtThen [] grow_choice (Y.EndOfList [])

abbrev pub grow_rest : Y.Stmts
grow_rest = Y.StmtThen [] grow_loop grow_end

abbrev pub grow_body : Y.Stmts
grow_body = Y.StmtThen [] grow_first grow_rest

abbrev pub grow_declared : Y.DeclaredVariable
grow_declared = text_declared true 8 []

abbrev pub grow_program : Y.Program
grow_program =
    record {
      variables = (grow_declared ∷ []) ∷ [];
      procedures =
          record { block = Y.BlockOf (row_head 0 0 1) grow_body; parameters = []; result = None } ∷ [];
    }

-- ---- its image

-- its name stands behind the fixed part of the frame
abbrev pub grow_made : Declared
grow_made = record { index = 0; declared = grow_declared; number = 0; place = 144 }

abbrev pub grow_environment : Environment
grow_environment = procedure_environment (row_head 0 0 1) (environment_of image_parts grow_program)

abbrev pub grow_main : Procedure
grow_main =
    record {
      head = row_head 0 0 1;
      body = grow_body;
      words = block_words grow_environment 0 grow_body;
      saved = block_held grow_environment 0 grow_body;
      variables = variables_code grow_environment 1;
    }

abbrev pub grow_entry : ℕ
grow_entry = size_of (start_of 0) + size_of raise_code

-- ---- the law

pub record GrownKept : Type 0 where
  pub kept : Headline grow_program (picture_of parts grow_program) (table_of grow_program)
  -- three turns make it long enough; an act writes it, and the last one ends the line
  pub ends :
      (input : List ℕ) →
      meaning grow_program input 14
      ≡ Some (record { acts = 14; output = 65 ∷ 66 ∷ 66 ∷ 66 ∷ 10 ∷ []; raised = []; end = E.Finished })
