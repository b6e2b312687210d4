-- Two worked rows of offsets that name nothing: one in an area in which nothing was allocated, and one of a structure
-- that lives in another area than the one that it is asked for.
use Rattle.std.specs.Prelude.{ℕ, ◌≡◌, ◌+◌, List, [], ◌∷◌, None, Some}
use Rattle.pli_language.specs.declared.condition.Condition.TheVariants as C
use Rattle.pli_typing.specs.TypedTree as Y
use Rattle.pli_meaning.specs.declared.outcome.End.TheVariants as E
use Rattle.pli_meaning.specs.Executing.{meaning}
use Rattle.pli_coding.specs.Assembly.{size_of}
use Rattle.pli_coding.specs.Entries.{variables_code}
use Rattle.pli_coding.specs.Environments.{Environment}
use Rattle.pli_coding.specs.Images.{environment_of, picture_of, raise_code}
use Rattle.pli_coding.specs.Procedures.{procedure_environment}
use Rattle.pli_coding.specs.SignatureTable.{table_of}
use Rattle.pli_coding.specs.Statements.{block_held, block_words}
use Rattle.pli_headline.specs.Headline.{Headline, parts}
use Rattle.program_runs.specs.Procedures.{Procedure}
use Rattle.program_runs.specs.Rows.{row_head}
use Rattle.program_runs.specs.Starts.{image_parts, start_of}
use Rattle.expression_runs.specs.Variables.{whole}
use Rattle.area_runs.specs.Allocations.{allocation}
use Rattle.area_runs.specs.Based.{pointer_declared}
use Rattle.area_assignments.specs.Copying.{copying}
use Rattle.member_runs.specs.MemberAssignments as B
use Rattle.member_runs.specs.Members.{structure_declared}
use Rattle.offset_runs.specs.OffsetAddresses.{offset_of}
use Rattle.offset_runs.specs.OffsetAssignments as O
use Rattle.offset_runs.specs.OffsetPointers.{pointing}
use Rattle.offset_runs.specs.Offsets.{offset_declared}
use Rattle.offset_headlines.specs.Rows.{area_declared, area_spot, node_leaves, node_members, node_spot, of_area}
use Rattle.offset_headlines.specs.Rows.{offset_spot, pointer_spot, twin_spot, value_member}

-- ---- their variables, which stand where those of the first row do

abbrev pub stray_variables : List Y.DeclaredVariable
stray_variables =
    area_declared ∷ pointer_declared ∷ structure_declared node_members node_leaves ∷ area_declared
    ∷ offset_declared of_area ∷ []

-- ---- DECLARE A AREA(256), P POINTER, 1 N BASED, 2 V FIXED BINARY(31), 2 NX OFFSET(A), B AREA(256), O OFFSET(A);
-- ALLOCATE N SET(P) IN(A); O = ADDR(P->N); P = POINTER(O, B); P->V = 7;

abbrev pub miss_allocate : Y.Stmt
miss_allocate = allocation node_spot pointer_spot area_spot 3

abbrev pub miss_name : Y.Stmt
miss_name = O.assignment offset_spot (offset_of pointer_spot node_spot node_leaves area_spot) 4

abbrev pub miss_follow : Y.Stmt
miss_follow = pointing pointer_spot (Y.OffsetIn (whole offset_spot)) twin_spot 5

abbrev pub miss_change : Y.Stmt
miss_change = B.assignment pointer_spot node_spot value_member (Y.NumberConstant 7) 6

abbrev pub miss_4 : Y.Stmts
miss_4 = Y.StmtThen [] miss_change (Y.EndOfList [])

abbrev pub miss_3 : Y.Stmts
miss_3 = Y.StmtThen [] miss_follow miss_4

abbrev pub miss_2 : Y.Stmts
miss_2 = Y.StmtThen [] miss_name miss_3

abbrev pub miss_body : Y.Stmts
miss_body = Y.StmtThen [] miss_allocate miss_2

abbrev pub miss_program : Y.Program
miss_program =
    record {
      variables = stray_variables ∷ [];
      procedures =
          record { block = Y.BlockOf (row_head 0 0 1) miss_body; parameters = []; result = None } ∷ [];
    }

abbrev pub miss_environment : Environment
miss_environment = procedure_environment (row_head 0 0 1) (environment_of image_parts miss_program)

abbrev pub miss_main : Procedure
miss_main =
    record {
      head = row_head 0 0 1;
      body = miss_body;
      words = block_words miss_environment 0 miss_body;
      saved = block_held miss_environment 0 miss_body;
      variables = variables_code miss_environment 1;
    }

abbrev pub miss_entry : ℕ
miss_entry = size_of (start_of 0) + size_of raise_code

-- ---- with these variables: ALLOCATE N SET(P) IN(A); O = ADDR(P->N); B = A; P = POINTER(O, B); P->V = 7;
-- O = ADDR(P->N);

abbrev pub stray_allocate : Y.Stmt
stray_allocate = allocation node_spot pointer_spot area_spot 3

abbrev pub stray_name : Y.Stmt
stray_name = O.assignment offset_spot (offset_of pointer_spot node_spot node_leaves area_spot) 4

abbrev pub stray_copy : Y.Stmt
stray_copy = copying twin_spot area_spot 5

abbrev pub stray_follow : Y.Stmt
stray_follow = pointing pointer_spot (Y.OffsetIn (whole offset_spot)) twin_spot 6

abbrev pub stray_change : Y.Stmt
stray_change = B.assignment pointer_spot node_spot value_member (Y.NumberConstant 7) 7

abbrev pub stray_again : Y.Stmt
stray_again = O.assignment offset_spot (offset_of pointer_spot node_spot node_leaves area_spot) 8

abbrev pub stray_6 : Y.Stmts
stray_6 = Y.StmtThen [] stray_again (Y.EndOfList [])

abbrev pub stray_5 : Y.Stmts
stray_5 = Y.StmtThen [] stray_change stray_6

abbrev pub stray_4 : Y.Stmts
stray_4 = Y.StmtThen [] stray_follow stray_5

abbrev pub stray_3 : Y.Stmts
stray_3 = Y.StmtThen [] stray_copy stray_4

abbrev pub stray_2 : Y.Stmts
stray_2 = Y.StmtThen [] stray_name stray_3

abbrev pub stray_body : Y.Stmts
stray_body = Y.StmtThen [] stray_allocate stray_2

abbrev pub stray_program : Y.Program
stray_program =
    record {
      variables = stray_variables ∷ [];
      procedures =
          record { block = Y.BlockOf (row_head 0 0 1) stray_body; parameters = []; result = None } ∷ [];
    }

abbrev pub stray_environment : Environment
stray_environment = procedure_environment (row_head 0 0 1) (environment_of image_parts stray_program)

abbrev pub stray_main : Procedure
stray_main =
    record {
      head = row_head 0 0 1;
      body = stray_body;
      words = block_words stray_environment 0 stray_body;
      saved = block_held stray_environment 0 stray_body;
      variables = variables_code stray_environment 1;
    }

abbrev pub stray_entry : ℕ
stray_entry = size_of (start_of 0) + size_of raise_code

-- ---- the laws

pub record MissKept : Type 0 where
  pub kept : Headline miss_program (picture_of parts miss_program) (table_of miss_program)
  -- nothing lives in the second area, which is told where the structure is assigned
  pub ends :
      (input : List ℕ) →
      meaning miss_program input 7
      ≡ Some (record { acts = 7; output = []; raised = (C.Error, 101) ∷ []; end = E.Error 101 6 })

pub record StrayKept : Type 0 where
  pub kept : Headline stray_program (picture_of parts stray_program) (table_of stray_program)
  -- the structure lives in the copy, so it has no offset in the first area
  pub ends :
      (input : List ℕ) →
      meaning stray_program input 9
      ≡ Some (record { acts = 9; output = []; raised = (C.Error, 110) ∷ []; end = E.Error 110 8 })
