-- A worked row: a main procedure with two FIXED BINARY(31) variables, one of which begins with a constant and is
-- counted up by way of the other until that overflows.
use Rattle.std.specs.Prelude.{ℕ, ◌+◌, ◌≡◌, List, [], ◌∷◌, None, Some, pos}
use Rattle.pli_language.specs.declared.condition.Condition.TheVariants as C
use Rattle.pli_language.specs.Tree as T
use Rattle.pli_typing.specs.TypedTree as Y
use Rattle.pli_meaning.specs.declared.outcome.End.TheVariants as E
use Rattle.pli_meaning.specs.Control.{Label}
use Rattle.pli_meaning.specs.Executing.{meaning}
use Rattle.pli_coding.specs.Assembly.{Code, Mark, ProcedureEntry, size_of}
use Rattle.pli_coding.specs.Entries.{variables_code}
use Rattle.pli_coding.specs.Environments.{Environment}
use Rattle.pli_coding.specs.Images.{code_of, environment_of, picture_of, raise_code}
use Rattle.pli_coding.specs.Procedures.{procedure_environment}
use Rattle.pli_coding.specs.Statements.{block_held, block_words}
use Rattle.pli_coding.specs.SignatureTable.{table_of}
use Rattle.program_runs.specs.Procedures.{Procedure, procedure_code}
use Rattle.program_runs.specs.Rows.{row_head}
use Rattle.program_runs.specs.Starts.{image_parts, start_of}
use Rattle.program_runs.specs.Variables.{Declared}
use Rattle.expression_runs.specs.Assignments.{assignment}
use Rattle.expression_runs.specs.Variables.{Spot, number_declared, whole}
use Rattle.pli_headline.specs.Headline.{Headline, parts}

-- ---- the program: DECLARE X FIXED BINARY(31) INITIAL(2147483646), Y FIXED BINARY(31);
-- L: Y = X + 1; X = Y; GOTO L;

abbrev pub reach_spot : Spot
reach_spot = record { block = 0; level = 0; index = 0 }

abbrev pub other_spot : Spot
other_spot = record { block = 0; level = 0; index = 1 }

abbrev pub reach_items : List T.InitialItem
reach_items = record { repetition = 1; value = T.InitialNumber (pos 2147483646) } ∷ []

abbrev pub reach_variable : Y.DeclaredVariable
reach_variable = number_declared reach_items

abbrev pub reach_label : Label
reach_label = 76 ∷ []

abbrev pub reach_sum : Y.Number
reach_sum = Y.Calculated Y.Sum (Y.NumberIn (whole reach_spot)) (Y.NumberConstant 1)

abbrev pub reach_other : Y.Stmt
reach_other = assignment other_spot reach_sum 3

abbrev pub reach_again : Y.Stmt
reach_again = assignment reach_spot (Y.NumberIn (whole other_spot)) 4

abbrev pub reach_back : Y.Stmt
reach_back = Y.Goto 0 reach_label 5

abbrev pub reach_end : Y.Stmts
reach_end = Y.StmtThen [] reach_back (Y.EndOfList [])

abbrev pub reach_last : Y.Stmts
reach_last = Y.StmtThen [] reach_again reach_end

abbrev pub reach_body : Y.Stmts
reach_body = Y.StmtThen (reach_label ∷ []) reach_other reach_last

abbrev pub reach_program : Y.Program
reach_program =
    record {
      variables = (reach_variable ∷ number_declared [] ∷ []) ∷ [];
      procedures =
          record { block = Y.BlockOf (row_head 0 0 1) reach_body; parameters = []; result = None } ∷ [];
    }

-- ---- its variables: both names stand behind the fixed part of the frame

abbrev pub reach_declared : Declared
reach_declared = record { index = 0; declared = reach_variable; number = 0; place = 144 }

abbrev pub other_declared : Declared
other_declared = record { index = 1; declared = number_declared []; number = 0; place = 176 }

-- ---- its image

abbrev pub reach_environment : Environment
reach_environment = procedure_environment (row_head 0 0 1) (environment_of image_parts reach_program)

abbrev pub reach_main : Procedure
reach_main =
    record {
      head = row_head 0 0 1;
      body = reach_body;
      words = block_words reach_environment 0 reach_body;
      saved = block_held reach_environment 0 reach_body;
      variables = variables_code reach_environment 1;
    }

abbrev pub reach_code : Code
reach_code = code_of image_parts reach_program

abbrev pub reach_coded : Code
reach_coded = Mark (ProcedureEntry 0) ∷ procedure_code reach_environment reach_main

abbrev pub reach_entry : ℕ
reach_entry = size_of (start_of 0) + size_of raise_code

-- ---- the law

pub record ReachingKept : Type 0 where
  pub kept : Headline reach_program (picture_of parts reach_program) (table_of reach_program)
  -- the second turn passes the greatest number of 31 bits
  pub ends :
      (input : List ℕ) →
      meaning reach_program input 8
      ≡ Some (record {
        acts = 8;
        output = [];
        raised = (C.FixedOverflow, 20) ∷ (C.Error, 20) ∷ [];
        end = E.Error 20 3;
      })
