-- A worked row: a main procedure that links three structures in an area to a list by offsets, frees what stands before
-- them, assigns the area to another, changes one of them, and walks the list in the copy by the same offsets.
use Rattle.std.specs.Prelude.{ℕ, pos, ◌≡◌, ◌+◌, List, [], ◌∷◌, None, Option, Some, false}
use Rattle.pli_language.specs.Tree as T
use Rattle.pli_typing.specs.TypedTree as Y
use Rattle.pli_meaning.specs.declared.outcome.End.TheVariants as E
use Rattle.pli_meaning.specs.Executing.{meaning}
use Rattle.pli_coding.specs.Assembly.{size_of}
use Rattle.pli_coding.specs.Entries.{variables_code}
use Rattle.pli_coding.specs.Environments.{Environment}
use Rattle.pli_coding.specs.Images.{environment_of, picture_of, raise_code}
use Rattle.pli_coding.specs.Procedures.{procedure_environment}
use Rattle.pli_coding.specs.SignatureTable.{table_of}
use Rattle.pli_coding.specs.Statements.{block_held, block_words}
use Rattle.pli_headline.specs.Headline.{Headline, parts}
use Rattle.program_runs.specs.Procedures.{Procedure}
use Rattle.program_runs.specs.Rows.{row_head}
use Rattle.program_runs.specs.Starts.{image_parts, start_of}
use Rattle.program_runs.specs.Variables.{Declared}
use Rattle.expression_runs.specs.Assignments as N
use Rattle.expression_runs.specs.Variables.{Spot, number_declared, number_leaf, variable_of, whole}
use Rattle.area_runs.specs.Allocations.{allocation}
use Rattle.area_runs.specs.Based.{pointer_declared}
use Rattle.area_assignments.specs.Copying.{copying}
use Rattle.area_freeings.specs.Freeing.{freeing}
use Rattle.edit_runs.specs.Edits.{Put, put_of}
use Rattle.member_runs.specs.MemberAssignments as B
use Rattle.member_runs.specs.Members.{member_of, structure_declared}
use Rattle.offset_runs.specs.OffsetAddresses.{offset_of}
use Rattle.offset_runs.specs.OffsetAssignments as O
use Rattle.offset_runs.specs.OffsetPointers.{pointing}
use Rattle.offset_runs.specs.OffsetReferences.{member_by}
use Rattle.offset_runs.specs.Offsets.{offset_declared}

-- ---- the program, from its first line on

-- DECLARE A AREA(256), P POINTER, 1 N BASED, 2 V FIXED BINARY(31), 2 NX OFFSET(A), B AREA(256), (O, F) OFFSET(A),
--   X FIXED BINARY(31), Q POINTER;
-- O = NULL();
-- X = 0;
-- ALLOCATE N SET(Q) IN(A);
-- DO WHILE (X < 3);
--   X = X + 1;
--   ALLOCATE N SET(P) IN(A);
--   P->V = X + X;
--   P->NX = O;
--   O = ADDR(P->N);
-- END;
-- F = O;
-- FREE Q->N;
-- B = A;
-- P->V = 0;
-- DO WHILE (O ^= NULL());
--   P = POINTER(O, B);
--   PUT EDIT (P->V) (F(3));
--   O = P->NX;
-- END;
-- X = F->V;
-- PUT EDIT (X) (F(3));

abbrev pub area_spot : Spot
area_spot = record { block = 0; level = 0; index = 0 }

abbrev pub pointer_spot : Spot
pointer_spot = record { block = 0; level = 0; index = 1 }

abbrev pub node_spot : Spot
node_spot = record { block = 0; level = 0; index = 2 }

abbrev pub twin_spot : Spot
twin_spot = record { block = 0; level = 0; index = 3 }

abbrev pub offset_spot : Spot
offset_spot = record { block = 0; level = 0; index = 4 }

abbrev pub first_spot : Spot
first_spot = record { block = 0; level = 0; index = 5 }

abbrev pub number_spot : Spot
number_spot = record { block = 0; level = 0; index = 6 }

abbrev pub area_declared : Y.DeclaredVariable
area_declared =
    record {
      class = Y.AutomaticClass;
      members = record { depth = 0; dimensions = 0 } ∷ [];
      leaves = record { type = Y.AreaLeaf (Y.ConstantExtent (pos 256)); bounds = []; initial = [] } ∷ [];
      refer = None;
      evaluations = [];
    }

abbrev pub spare_spot : Spot
spare_spot = record { block = 0; level = 0; index = 7 }

-- the area that the offsets are declared with
abbrev pub of_area : Option Y.Variable
of_area = Some (variable_of area_spot)

-- N, V and NX
abbrev pub node_members : List Y.Member
node_members =
    record { depth = 0; dimensions = 0 } ∷ record { depth = 1; dimensions = 0 } ∷ record { depth = 1; dimensions = 0 }
    ∷ []

abbrev pub node_leaves : List Y.Leaf
node_leaves = number_leaf [] ∷ record { type = Y.OffsetLeaf of_area; bounds = []; initial = [] } ∷ []

abbrev pub value_member : ℕ
value_member = 0

abbrev pub next_member : ℕ
next_member = 1

-- ---- its statements

abbrev pub twin_null : Y.Stmt
twin_null = O.assignment offset_spot Y.NullOffset 3

abbrev pub twin_zero : Y.Stmt
twin_zero = N.assignment number_spot (Y.NumberConstant 0) 4

abbrev pub twin_before : Y.Stmt
twin_before = allocation node_spot spare_spot area_spot 5

abbrev pub twin_few : Y.Bit
twin_few = Y.NumbersCompared Y.IsLess (Y.NumberIn (whole number_spot)) (Y.NumberConstant 3)

abbrev pub twin_sum : Y.Number
twin_sum = Y.Calculated Y.Sum (Y.NumberIn (whole number_spot)) (Y.NumberConstant 1)

abbrev pub twin_count : Y.Stmt
twin_count = N.assignment number_spot twin_sum 7

abbrev pub twin_allocate : Y.Stmt
twin_allocate = allocation node_spot pointer_spot area_spot 8

abbrev pub twin_twice : Y.Number
twin_twice = Y.Calculated Y.Sum (Y.NumberIn (whole number_spot)) (Y.NumberIn (whole number_spot))

abbrev pub twin_value : Y.Stmt
twin_value = B.assignment pointer_spot node_spot value_member twin_twice 9

abbrev pub twin_link : Y.Stmt
twin_link = O.keeping pointer_spot node_spot next_member (Y.OffsetIn (whole offset_spot)) 10

abbrev pub twin_head : Y.Stmt
twin_head = O.assignment offset_spot (offset_of pointer_spot node_spot node_leaves area_spot) 11

abbrev pub made_5 : Y.Stmts
made_5 = Y.StmtThen [] twin_head (Y.EndOfList [])

abbrev pub made_4 : Y.Stmts
made_4 = Y.StmtThen [] twin_link made_5

abbrev pub made_3 : Y.Stmts
made_3 = Y.StmtThen [] twin_value made_4

abbrev pub made_2 : Y.Stmts
made_2 = Y.StmtThen [] twin_allocate made_3

abbrev pub made_turns : Y.Stmts
made_turns = Y.StmtThen [] twin_count made_2

abbrev pub twin_make : Y.Stmt
twin_make = Y.DoWhile twin_few made_turns 6

abbrev pub twin_first : Y.Stmt
twin_first = O.assignment first_spot (Y.OffsetIn (whole offset_spot)) 13

abbrev pub twin_free : Y.Stmt
twin_free = freeing spare_spot node_spot 14

abbrev pub twin_copy : Y.Stmt
twin_copy = copying twin_spot area_spot 15

abbrev pub twin_change : Y.Stmt
twin_change = B.assignment pointer_spot node_spot value_member (Y.NumberConstant 0) 16

abbrev pub twin_some : Y.Bit
twin_some = Y.OffsetsCompared false (Y.OffsetIn (whole offset_spot)) Y.NullOffset

abbrev pub twin_follow : Y.Stmt
twin_follow = pointing pointer_spot (Y.OffsetIn (whole offset_spot)) twin_spot 18

-- what the pointer points to
abbrev pub twin_seen : Y.Number
twin_seen = Y.NumberIn (member_of pointer_spot node_spot value_member)

abbrev pub twin_formats : (line : ℕ) → T.Formats
twin_formats line = T.FormatThen (record { line = line; column = 20 }) 1 (T.FixedFormat 3) T.NoFormat

abbrev pub twin_put : Y.Number → (line : ℕ) → Put
twin_put source line =
    record {
      skip = None;
      first = record {
        first = record { precision = 31; source = source };
        more = [];
        formats = twin_formats line;
      };
      more = [];
      line = line;
    }

abbrev pub twin_write : Y.Stmt
twin_write = put_of (twin_put twin_seen 19)

abbrev pub twin_next : Y.Stmt
twin_next = O.assignment offset_spot (Y.OffsetIn (member_of pointer_spot node_spot next_member)) 20

abbrev pub seen_3 : Y.Stmts
seen_3 = Y.StmtThen [] twin_next (Y.EndOfList [])

abbrev pub seen_2 : Y.Stmts
seen_2 = Y.StmtThen [] twin_write seen_3

abbrev pub seen_turns : Y.Stmts
seen_turns = Y.StmtThen [] twin_follow seen_2

abbrev pub twin_see : Y.Stmt
twin_see = Y.DoWhile twin_some seen_turns 17

-- what the first offset names in the first area
abbrev pub twin_new : Y.Number
twin_new = Y.NumberIn (member_by (Y.OffsetIn (whole first_spot)) area_spot node_spot value_member)

abbrev pub twin_back : Y.Stmt
twin_back = N.assignment number_spot twin_new 22

abbrev pub twin_last : Y.Stmt
twin_last = put_of (twin_put (Y.NumberIn (whole number_spot)) 23)

abbrev pub twin_11 : Y.Stmts
twin_11 = Y.StmtThen [] twin_last (Y.EndOfList [])

abbrev pub twin_10 : Y.Stmts
twin_10 = Y.StmtThen [] twin_back twin_11

abbrev pub twin_9 : Y.Stmts
twin_9 = Y.StmtThen [] twin_see twin_10

abbrev pub twin_8 : Y.Stmts
twin_8 = Y.StmtThen [] twin_change twin_9

abbrev pub twin_7 : Y.Stmts
twin_7 = Y.StmtThen [] twin_copy twin_8

abbrev pub twin_6 : Y.Stmts
twin_6 = Y.StmtThen [] twin_free twin_7

abbrev pub twin_5 : Y.Stmts
twin_5 = Y.StmtThen [] twin_first twin_6

abbrev pub twin_4 : Y.Stmts
twin_4 = Y.StmtThen [] twin_make twin_5

abbrev pub twin_3 : Y.Stmts
twin_3 = Y.StmtThen [] twin_before twin_4

abbrev pub twin_2 : Y.Stmts
twin_2 = Y.StmtThen [] twin_zero twin_3

abbrev pub twin_body : Y.Stmts
twin_body = Y.StmtThen [] twin_null twin_2

abbrev pub twin_program : Y.Program
twin_program =
    record {
      variables =
          (area_declared ∷ pointer_declared ∷ structure_declared node_members node_leaves ∷ area_declared
          ∷ offset_declared of_area ∷ offset_declared of_area ∷ number_declared [] ∷ pointer_declared ∷ [])
          ∷ [];
      procedures =
          record { block = Y.BlockOf (row_head 0 0 1) twin_body; parameters = []; result = None } ∷ [];
    }

-- ---- its variables: an area's data take 288 bytes behind its name

abbrev pub area_made : Declared
area_made = record { index = 0; declared = area_declared; number = 0; place = 144 }

abbrev pub pointer_made : Declared
pointer_made = record { index = 1; declared = pointer_declared; number = 1; place = 448 }

abbrev pub twin_made : Declared
twin_made = record { index = 3; declared = area_declared; number = 0; place = 480 }

abbrev pub offset_made : Declared
offset_made = record { index = 4; declared = offset_declared of_area; number = 3; place = 784 }

abbrev pub first_made : Declared
first_made = record { index = 5; declared = offset_declared of_area; number = 3; place = 816 }

abbrev pub number_made : Declared
number_made = record { index = 6; declared = number_declared []; number = 4; place = 848 }

abbrev pub spare_made : Declared
spare_made = record { index = 7; declared = pointer_declared; number = 1; place = 880 }

-- ---- its image

abbrev pub twin_environment : Environment
twin_environment = procedure_environment (row_head 0 0 1) (environment_of image_parts twin_program)

abbrev pub twin_main : Procedure
twin_main =
    record {
      head = row_head 0 0 1;
      body = twin_body;
      words = block_words twin_environment 0 twin_body;
      saved = block_held twin_environment 0 twin_body;
      variables = variables_code twin_environment 1;
    }

abbrev pub twin_entry : ℕ
twin_entry = size_of (start_of 0) + size_of raise_code

-- ---- the law

pub record TwinKept : Type 0 where
  pub kept : Headline twin_program (picture_of parts twin_program) (table_of twin_program)
  -- the structure that was changed has its old value in the copy, and the new one in the first area
  pub ends :
      (input : List ℕ) →
      meaning twin_program input 49
      ≡ Some (record {
        acts = 49;
        output = 32 ∷ 32 ∷ 54 ∷ 32 ∷ 32 ∷ 52 ∷ 32 ∷ 32 ∷ 50 ∷ 32 ∷ 32 ∷ 48 ∷ 10 ∷ [];
        raised = [];
        end = E.Finished;
      })
