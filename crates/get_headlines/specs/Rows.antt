-- A worked row: a main procedure that reads numbers, and writes their sum, until it is large enough or the input ends.
use Rattle.std.specs.Prelude.{ℕ, ◌≡◌, ◌+◌, List, [], ◌∷◌, None, Some}
use Rattle.pli_language.specs.declared.condition.Condition.TheVariants as C
use Rattle.pli_language.specs.Tree as T
use Rattle.pli_typing.specs.TypedTree as Y
use Rattle.pli_meaning.specs.declared.outcome.End.TheVariants as E
use Rattle.pli_meaning.specs.Control.{Label}
use Rattle.pli_meaning.specs.Executing.{meaning}
use Rattle.pli_coding.specs.Assembly.{size_of}
use Rattle.pli_coding.specs.Entries.{variables_code}
use Rattle.pli_coding.specs.Environments.{Environment}
use Rattle.pli_coding.specs.Images.{environment_of, picture_of, raise_code}
use Rattle.pli_coding.specs.Procedures.{procedure_environment}
use Rattle.pli_coding.specs.SignatureTable.{table_of}
use Rattle.pli_coding.specs.Statements.{block_held, block_words}
use Rattle.pli_headline.specs.Headline.{Headline, parts}
use Rattle.program_runs.specs.Procedures.{Procedure}
use Rattle.program_runs.specs.Rows.{row_head}
use Rattle.program_runs.specs.Starts.{image_parts, start_of}
use Rattle.program_runs.specs.Variables.{Declared}
use Rattle.expression_runs.specs.Assignments.{assignment}
use Rattle.expression_runs.specs.Variables.{Spot, number_declared, whole}
use Rattle.edit_runs.specs.Edits.{Item, Put, put_of}
use Rattle.get_runs.specs.Gets.{Get, get_of}

-- ---- the program: DECLARE (X, S) FIXED BINARY(31); S = 0; L: GET EDIT (X) (F(3)); S = S + X;
-- PUT EDIT (S) (F(5)); IF S < 100 THEN GOTO L;

abbrev pub read_spot : Spot
read_spot = record { block = 0; level = 0; index = 0 }

abbrev pub sum_spot : Spot
sum_spot = record { block = 0; level = 0; index = 1 }

abbrev pub sum_label : Label
sum_label = 76 ∷ []

abbrev pub read_number : Y.Number
read_number = Y.NumberIn (whole read_spot)

abbrev pub sum_number : Y.Number
sum_number = Y.NumberIn (whole sum_spot)

abbrev pub sum_first : Y.Stmt
sum_first = assignment sum_spot (Y.NumberConstant 0) 3

abbrev pub of_width : (line width : ℕ) → T.Formats
of_width line width = T.FormatThen (record { line = line; column = 20 }) 1 (T.FixedFormat width) T.NoFormat

abbrev pub sum_get : Get
sum_get =
    record {
      skip = None;
      lists = record { targets = whole read_spot ∷ []; formats = of_width 4 3 } ∷ [];
      line = 4;
    }

abbrev pub sum_read : Y.Stmt
sum_read = get_of sum_get

abbrev pub sum_both : Y.Number
sum_both = Y.Calculated Y.Sum sum_number read_number

abbrev pub sum_added : Y.Stmt
sum_added = assignment sum_spot sum_both 5

abbrev pub sum_put : Put
sum_put =
    record {
      skip = None;
      first = record { first = record { precision = 31; source = sum_number }; more = []; formats = of_width 6 5 };
      more = [];
      line = 6;
    }

abbrev pub sum_written : Y.Stmt
sum_written = put_of sum_put

abbrev pub is_small : Y.Bit
is_small = Y.NumbersCompared Y.IsLess sum_number (Y.NumberConstant 100)

abbrev pub sum_back : Y.Stmt
sum_back = Y.Goto 0 sum_label 7

abbrev pub sum_again : Y.Stmt
sum_again = Y.If is_small sum_back 7

abbrev pub sum_end : Y.Stmts
sum_end = Y.StmtThen [] sum_again (Y.EndOfList [])

abbrev pub sum_last : Y.Stmts
sum_last = Y.StmtThen [] sum_written sum_end

abbrev pub sum_next : Y.Stmts
sum_next = Y.StmtThen [] sum_added sum_last

abbrev pub sum_rest : Y.Stmts
sum_rest = Y.StmtThen (sum_label ∷ []) sum_read sum_next

abbrev pub sum_body : Y.Stmts
sum_body = Y.StmtThen [] sum_first sum_rest

abbrev pub sum_program : Y.Program
sum_program =
    record {
      variables = (number_declared [] ∷ number_declared [] ∷ []) ∷ [];
      procedures =
          record { block = Y.BlockOf (row_head 0 0 1) sum_body; parameters = []; result = None } ∷ [];
    }

-- ---- its variables: both names stand behind the fixed part of the frame

abbrev pub read_declared : Declared
read_declared = record { index = 0; declared = number_declared []; number = 0; place = 144 }

abbrev pub sum_declared : Declared
sum_declared = record { index = 1; declared = number_declared []; number = 0; place = 176 }

-- ---- its image

abbrev pub sum_environment : Environment
sum_environment = procedure_environment (row_head 0 0 1) (environment_of image_parts sum_program)

abbrev pub sum_main : Procedure
sum_main =
    record {
      head = row_head 0 0 1;
      body = sum_body;
      words = block_words sum_environment 0 sum_body;
      saved = block_held sum_environment 0 sum_body;
      variables = variables_code sum_environment 1;
    }

abbrev pub sum_entry : ℕ
sum_entry = size_of (start_of 0) + size_of raise_code

-- ---- the law

pub record SummedKept : Type 0 where
  -- whatever is read
  pub kept : Headline sum_program (picture_of parts sum_program) (table_of sum_program)
  -- '  7', ' 88' and ' 12', over the end of a line: 7, 95 and 107 are written
  pub ends :
      meaning sum_program (32 ∷ 32 ∷ 55 ∷ 32 ∷ 56 ∷ 10 ∷ 56 ∷ 32 ∷ 49 ∷ 50 ∷ 57 ∷ 57 ∷ []) 23
      ≡ Some (record {
        acts = 23;
        output =
            32 ∷ 32 ∷ 32 ∷ 32 ∷ 55
            ∷ 32 ∷ 32 ∷ 32 ∷ 57 ∷ 53
            ∷ 32 ∷ 32 ∷ 49 ∷ 48 ∷ 55
            ∷ 10 ∷ [];
        raised = [];
        end = E.Finished;
      })
  -- behind '  7' the input ends
  pub stops :
      meaning sum_program (32 ∷ 32 ∷ 55 ∷ []) 13
      ≡ Some (record {
        acts = 13;
        output = 32 ∷ 32 ∷ 32 ∷ 32 ∷ 55 ∷ 10 ∷ [];
        raised = (C.Endfile, 40) ∷ (C.Error, 40) ∷ [];
        end = E.Error 40 4;
      })
  -- ' 7A' is no number
  pub fails :
      meaning sum_program (32 ∷ 55 ∷ 65 ∷ []) 6
      ≡ Some (record { acts = 6; output = []; raised = (C.Error, 104) ∷ []; end = E.Error 104 4 })
