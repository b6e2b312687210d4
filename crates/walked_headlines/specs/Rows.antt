-- A worked row: a main procedure that links three structures in an area to a list, walks it, writes what each
-- has, and frees it.
use Rattle.std.specs.Prelude.{ℕ, ◌≡◌, ◌+◌, List, [], ◌∷◌, pos, None, Some, false}
use Rattle.pli_language.specs.Tree as T
use Rattle.pli_typing.specs.TypedTree as Y
use Rattle.pli_meaning.specs.declared.outcome.End.TheVariants as E
use Rattle.pli_meaning.specs.Executing.{meaning}
use Rattle.pli_coding.specs.Assembly.{size_of}
use Rattle.pli_coding.specs.Entries.{variables_code}
use Rattle.pli_coding.specs.Environments.{Environment}
use Rattle.pli_coding.specs.Images.{environment_of, picture_of, raise_code}
use Rattle.pli_coding.specs.Procedures.{procedure_environment}
use Rattle.pli_coding.specs.SignatureTable.{table_of}
use Rattle.pli_coding.specs.Statements.{block_held, block_words}
use Rattle.pli_headline.specs.Headline.{Headline, parts}
use Rattle.program_runs.specs.Procedures.{Procedure}
use Rattle.program_runs.specs.Rows.{row_head}
use Rattle.program_runs.specs.Starts.{image_parts, start_of}
use Rattle.program_runs.specs.Variables.{Declared}
use Rattle.expression_runs.specs.Assignments as N
use Rattle.expression_runs.specs.Variables.{Spot, number_declared, number_leaf, whole}
use Rattle.area_runs.specs.Allocations.{allocation}
use Rattle.area_runs.specs.Based.{pointer_declared}
use Rattle.area_freeings.specs.Freeing.{freeing}
use Rattle.edit_runs.specs.Edits.{Put, put_of}
use Rattle.locator_runs.specs.Comparisons.{comparison}
use Rattle.locator_runs.specs.Pointers as A
use Rattle.member_runs.specs.MemberAssignments as B
use Rattle.member_runs.specs.MemberPointers.{following, linking}
use Rattle.member_runs.specs.Members.{member_of, structure_declared}

-- ---- the program, from its first line on

-- DECLARE A AREA(256), P POINTER, 1 N BASED, 2 V FIXED BINARY(31), 2 NX POINTER, H POINTER, X FIXED BINARY(31);
-- H = NULL();
-- X = 0;
-- DO WHILE (X < 3);
--   X = X + 1;
--   ALLOCATE N SET(P) IN(A);
--   P->V = X + X;
--   P->NX = H;
--   H = P;
-- END;
-- P = H;
-- DO WHILE (P ^= NULL());
--   PUT EDIT (P->V) (F(3));
--   H = P->NX;
--   FREE P->N;
--   P = H;
-- END;

abbrev pub area_spot : Spot
area_spot = record { block = 0; level = 0; index = 0 }

abbrev pub pointer_spot : Spot
pointer_spot = record { block = 0; level = 0; index = 1 }

abbrev pub node_spot : Spot
node_spot = record { block = 0; level = 0; index = 2 }

abbrev pub head_spot : Spot
head_spot = record { block = 0; level = 0; index = 3 }

abbrev pub number_spot : Spot
number_spot = record { block = 0; level = 0; index = 4 }

abbrev pub area_declared : Y.DeclaredVariable
area_declared =
    record {
      class = Y.AutomaticClass;
      members = record { depth = 0; dimensions = 0 } ∷ [];
      leaves = record { type = Y.AreaLeaf (Y.ConstantExtent (pos 256)); bounds = []; initial = [] } ∷ [];
      refer = None;
      evaluations = [];
    }

-- N, V and NX
abbrev pub node_members : List Y.Member
node_members =
    record { depth = 0; dimensions = 0 } ∷ record { depth = 1; dimensions = 0 } ∷ record { depth = 1; dimensions = 0 }
    ∷ []

abbrev pub node_leaves : List Y.Leaf
node_leaves = number_leaf [] ∷ record { type = Y.PointerLeaf; bounds = []; initial = [] } ∷ []

abbrev pub value_member : ℕ
value_member = 0

abbrev pub next_member : ℕ
next_member = 1

-- ---- its statements

abbrev pub walk_null : Y.Stmt
walk_null = A.assignment head_spot Y.NullPointer 3

abbrev pub walk_zero : Y.Stmt
walk_zero = N.assignment number_spot (Y.NumberConstant 0) 4

abbrev pub walk_few : Y.Bit
walk_few = Y.NumbersCompared Y.IsLess (Y.NumberIn (whole number_spot)) (Y.NumberConstant 3)

abbrev pub walk_sum : Y.Number
walk_sum = Y.Calculated Y.Sum (Y.NumberIn (whole number_spot)) (Y.NumberConstant 1)

abbrev pub walk_count : Y.Stmt
walk_count = N.assignment number_spot walk_sum 6

abbrev pub walk_allocate : Y.Stmt
walk_allocate = allocation node_spot pointer_spot area_spot 7

abbrev pub walk_twice : Y.Number
walk_twice = Y.Calculated Y.Sum (Y.NumberIn (whole number_spot)) (Y.NumberIn (whole number_spot))

abbrev pub walk_value : Y.Stmt
walk_value = B.assignment pointer_spot node_spot value_member walk_twice 8

abbrev pub walk_link : Y.Stmt
walk_link = linking pointer_spot node_spot next_member head_spot 9

abbrev pub walk_head : Y.Stmt
walk_head = A.assignment head_spot (Y.PointerIn (whole pointer_spot)) 10

abbrev pub made_5 : Y.Stmts
made_5 = Y.StmtThen [] walk_head (Y.EndOfList [])

abbrev pub made_4 : Y.Stmts
made_4 = Y.StmtThen [] walk_link made_5

abbrev pub made_3 : Y.Stmts
made_3 = Y.StmtThen [] walk_value made_4

abbrev pub made_2 : Y.Stmts
made_2 = Y.StmtThen [] walk_allocate made_3

abbrev pub made_turns : Y.Stmts
made_turns = Y.StmtThen [] walk_count made_2

abbrev pub walk_make : Y.Stmt
walk_make = Y.DoWhile walk_few made_turns 5

abbrev pub walk_back : Y.Stmt
walk_back = A.assignment pointer_spot (Y.PointerIn (whole head_spot)) 12

abbrev pub walk_some : Y.Bit
walk_some = comparison false pointer_spot Y.NullPointer

abbrev pub walk_formats : T.Formats
walk_formats = T.FormatThen (record { line = 14; column = 20 }) 1 (T.FixedFormat 3) T.NoFormat

abbrev pub walk_put : Put
walk_put =
    record {
      skip = None;
      first = record {
        first = record { precision = 31; source = Y.NumberIn (member_of pointer_spot node_spot value_member) };
        more = [];
        formats = walk_formats;
      };
      more = [];
      line = 14;
    }

abbrev pub walk_write : Y.Stmt
walk_write = put_of walk_put

abbrev pub walk_next_head : Y.Stmt
walk_next_head = following head_spot pointer_spot node_spot next_member 15

abbrev pub walk_free : Y.Stmt
walk_free = freeing pointer_spot node_spot 16

abbrev pub walk_on : Y.Stmt
walk_on = A.assignment pointer_spot (Y.PointerIn (whole head_spot)) 17

abbrev pub seen_4 : Y.Stmts
seen_4 = Y.StmtThen [] walk_on (Y.EndOfList [])

abbrev pub seen_3 : Y.Stmts
seen_3 = Y.StmtThen [] walk_free seen_4

abbrev pub seen_2 : Y.Stmts
seen_2 = Y.StmtThen [] walk_next_head seen_3

abbrev pub seen_turns : Y.Stmts
seen_turns = Y.StmtThen [] walk_write seen_2

abbrev pub walk_see : Y.Stmt
walk_see = Y.DoWhile walk_some seen_turns 13

abbrev pub walk_5 : Y.Stmts
walk_5 = Y.StmtThen [] walk_see (Y.EndOfList [])

abbrev pub walk_4 : Y.Stmts
walk_4 = Y.StmtThen [] walk_back walk_5

abbrev pub walk_3 : Y.Stmts
walk_3 = Y.StmtThen [] walk_make walk_4

abbrev pub walk_2 : Y.Stmts
walk_2 = Y.StmtThen [] walk_zero walk_3

abbrev pub walk_body : Y.Stmts
walk_body = Y.StmtThen [] walk_null walk_2

abbrev pub walk_program : Y.Program
walk_program =
    record {
      variables =
          (area_declared ∷ pointer_declared ∷ structure_declared node_members node_leaves ∷ pointer_declared
          ∷ number_declared [] ∷ [])
          ∷ [];
      procedures =
          record { block = Y.BlockOf (row_head 0 0 1) walk_body; parameters = []; result = None } ∷ [];
    }

-- ---- its variables: the area's data take 288 bytes behind its name

abbrev pub area_made : Declared
area_made = record { index = 0; declared = area_declared; number = 0; place = 144 }

abbrev pub pointer_made : Declared
pointer_made = record { index = 1; declared = pointer_declared; number = 1; place = 448 }

abbrev pub head_made : Declared
head_made = record { index = 3; declared = pointer_declared; number = 1; place = 480 }

abbrev pub number_made : Declared
number_made = record { index = 4; declared = number_declared []; number = 3; place = 512 }

-- ---- its image

abbrev pub walk_environment : Environment
walk_environment = procedure_environment (row_head 0 0 1) (environment_of image_parts walk_program)

abbrev pub walk_main : Procedure
walk_main =
    record {
      head = row_head 0 0 1;
      body = walk_body;
      words = block_words walk_environment 0 walk_body;
      saved = block_held walk_environment 0 walk_body;
      variables = variables_code walk_environment 1;
    }

abbrev pub walk_entry : ℕ
walk_entry = size_of (start_of 0) + size_of raise_code

-- ---- the law

pub record WalkedKept : Type 0 where
  pub kept : Headline walk_program (picture_of parts walk_program) (table_of walk_program)
  -- the structure that was linked last is met first
  pub ends :
      (input : List ℕ) →
      meaning walk_program input 45
      ≡ Some (record {
        acts = 45;
        output = 32 ∷ 32 ∷ 54 ∷ 32 ∷ 32 ∷ 52 ∷ 32 ∷ 32 ∷ 50 ∷ 10 ∷ [];
        raised = [];
        end = E.Finished;
      })
