-- A worked row: a program of the class that links three structures in an area to a list, walks it, writes what each
-- has, and frees it.
use Rattle.std.specs.Prelude.{ℕ, ◌≡◌, List, [], ◌∷◌, pos, None, Some, false}
use Rattle.pli_language.specs.Tree as T
use Rattle.pli_typing.specs.TypedTree as Y
use Rattle.pli_meaning.specs.declared.outcome.End.TheVariants as E
use Rattle.pli_meaning.specs.Executing.{meaning}
use Rattle.pli_coding.specs.Images.{picture_of}
use Rattle.pli_coding.specs.SignatureTable.{table_of}
use Rattle.pli_headline.specs.Headline.{Headline, parts}
use Rattle.expression_runs.specs.Assignments as N
use Rattle.expression_runs.specs.Variables.{Spot, number_declared, number_leaf, whole}
use Rattle.area_runs.specs.Allocations.{allocation}
use Rattle.area_runs.specs.Based.{pointer_declared}
use Rattle.area_freeings.specs.Freeing.{freeing}
use Rattle.edit_runs.specs.Edits.{Put, put_of}
use Rattle.locator_runs.specs.Comparisons.{comparison}
use Rattle.locator_runs.specs.Pointers as A
use Rattle.member_runs.specs.MemberAssignments as B
use Rattle.member_runs.specs.MemberPointers.{following, linking}
use Rattle.member_runs.specs.Members.{member_of, structure_declared}

-- ---- the program, from its first line on

-- DECLARE A AREA(256), P POINTER, 1 N BASED, 2 V FIXED BINARY(31), 2 NX POINTER, H POINTER, X FIXED BINARY(31);
-- H = NULL();
-- X = 0;
-- DO WHILE (X < 3);
--   X = X + 1;
--   ALLOCATE N SET(P) IN(A);
--   P->V = X + X;
--   P->NX = H;
--   H = P;
-- END;
-- P = H;
-- DO WHILE (P ^= NULL());
--   PUT EDIT (P->V) (F(3));
--   H = P->NX;
--   FREE P->N;
--   P = H;
-- END;

abbrev pub area_spot : Spot
area_spot = record { block = 1; level = 0; index = 0 }

abbrev pub pointer_spot : Spot
pointer_spot = record { block = 1; level = 0; index = 1 }

abbrev pub node_spot : Spot
node_spot = record { block = 1; level = 0; index = 2 }

abbrev pub head_spot : Spot
head_spot = record { block = 1; level = 0; index = 3 }

abbrev pub number_spot : Spot
number_spot = record { block = 1; level = 0; index = 4 }

abbrev pub area_declared : Y.DeclaredVariable
area_declared =
    record {
      class = Y.AutomaticClass;
      members = record { depth = 0; dimensions = 0 } ∷ [];
      leaves = record { type = Y.AreaLeaf (Y.ConstantExtent (pos 256)); bounds = []; initial = [] } ∷ [];
      refer = None;
      evaluations = [];
    }

-- N, V and NX
abbrev pub node_members : List Y.Member
node_members =
    record { depth = 0; dimensions = 0 } ∷ record { depth = 1; dimensions = 0 } ∷ record { depth = 1; dimensions = 0 }
    ∷ []

abbrev pub node_leaves : List Y.Leaf
node_leaves = number_leaf [] ∷ record { type = Y.PointerLeaf; bounds = []; initial = [] } ∷ []

abbrev pub value_member : ℕ
value_member = 0

abbrev pub next_member : ℕ
next_member = 1

-- ---- its statements

abbrev pub chain_null : Y.Stmt
chain_null = A.assignment head_spot Y.NullPointer 3

abbrev pub chain_zero : Y.Stmt
chain_zero = N.assignment number_spot (Y.NumberConstant 0) 4

abbrev pub chain_few : Y.Bit
chain_few = Y.NumbersCompared Y.IsLess (Y.NumberIn (whole number_spot)) (Y.NumberConstant 3)

abbrev pub chain_sum : Y.Number
chain_sum = Y.Calculated Y.Sum (Y.NumberIn (whole number_spot)) (Y.NumberConstant 1)

abbrev pub chain_count : Y.Stmt
chain_count = N.assignment number_spot chain_sum 6

abbrev pub chain_allocate : Y.Stmt
chain_allocate = allocation node_spot pointer_spot area_spot 7

abbrev pub chain_twice : Y.Number
chain_twice = Y.Calculated Y.Sum (Y.NumberIn (whole number_spot)) (Y.NumberIn (whole number_spot))

abbrev pub chain_value : Y.Stmt
chain_value = B.assignment pointer_spot node_spot value_member chain_twice 8

abbrev pub chain_link : Y.Stmt
chain_link = linking pointer_spot node_spot next_member head_spot 9

abbrev pub chain_head : Y.Stmt
chain_head = A.assignment head_spot (Y.PointerIn (whole pointer_spot)) 10

abbrev pub link_5 : Y.Stmts
link_5 = Y.StmtThen [] chain_head (Y.EndOfList [])

abbrev pub link_4 : Y.Stmts
link_4 = Y.StmtThen [] chain_link link_5

abbrev pub link_3 : Y.Stmts
link_3 = Y.StmtThen [] chain_value link_4

abbrev pub link_2 : Y.Stmts
link_2 = Y.StmtThen [] chain_allocate link_3

abbrev pub link_turns : Y.Stmts
link_turns = Y.StmtThen [] chain_count link_2

abbrev pub chain_links : Y.Stmt
chain_links = Y.DoWhile chain_few link_turns 5

abbrev pub chain_back : Y.Stmt
chain_back = A.assignment pointer_spot (Y.PointerIn (whole head_spot)) 12

abbrev pub chain_some : Y.Bit
chain_some = comparison false pointer_spot Y.NullPointer

abbrev pub chain_formats : T.Formats
chain_formats = T.FormatThen (record { line = 14; column = 20 }) 1 (T.FixedFormat 3) T.NoFormat

abbrev pub chain_put : Put
chain_put =
    record {
      skip = None;
      first = record {
        first = record { precision = 31; source = Y.NumberIn (member_of pointer_spot node_spot value_member) };
        more = [];
        formats = chain_formats;
      };
      more = [];
      line = 14;
    }

abbrev pub chain_write : Y.Stmt
chain_write = put_of chain_put

abbrev pub chain_next_head : Y.Stmt
chain_next_head = following head_spot pointer_spot node_spot next_member 15

abbrev pub chain_free : Y.Stmt
chain_free = freeing pointer_spot node_spot 16

abbrev pub chain_on : Y.Stmt
chain_on = A.assignment pointer_spot (Y.PointerIn (whole head_spot)) 17

abbrev pub walk_4 : Y.Stmts
walk_4 = Y.StmtThen [] chain_on (Y.EndOfList [])

abbrev pub walk_3 : Y.Stmts
walk_3 = Y.StmtThen [] chain_free walk_4

abbrev pub walk_2 : Y.Stmts
walk_2 = Y.StmtThen [] chain_next_head walk_3

abbrev pub walk_turns : Y.Stmts
walk_turns = Y.StmtThen [] chain_write walk_2

abbrev pub chain_walk : Y.Stmt
chain_walk = Y.DoWhile chain_some walk_turns 13

abbrev pub chain_5 : Y.Stmts
chain_5 = Y.StmtThen [] chain_walk (Y.EndOfList [])

abbrev pub chain_4 : Y.Stmts
chain_4 = Y.StmtThen [] chain_back chain_5

abbrev pub chain_3 : Y.Stmts
chain_3 = Y.StmtThen [] chain_links chain_4

abbrev pub chain_2 : Y.Stmts
chain_2 = Y.StmtThen [] chain_zero chain_3

abbrev pub chain_body : Y.Stmts
chain_body = Y.StmtThen [] chain_null chain_2

abbrev pub chain_block : Y.BlockHead
chain_block = record { kind = Y.ProcedureBlock; number = 1; level = 0; line = 1 }

abbrev pub chain_main : Y.Procedure
chain_main = record { block = Y.BlockOf chain_block chain_body; parameters = []; result = None }

abbrev pub chain_program : Y.Program
chain_program =
    record {
      variables =
          []
          ∷ (area_declared ∷ pointer_declared ∷ structure_declared node_members node_leaves ∷ pointer_declared
          ∷ number_declared [] ∷ [])
          ∷ [];
      procedures = chain_main ∷ [];
    }

-- ---- the law

pub record ChainKept : Type 0 where
  pub headline : Headline chain_program (picture_of parts chain_program) (table_of chain_program)
  -- the structure that was linked last is met first
  pub ends :
      (input : List ℕ) →
      meaning chain_program input 45
      ≡ Some (record {
        acts = 45;
        output = 32 ∷ 32 ∷ 54 ∷ 32 ∷ 32 ∷ 52 ∷ 32 ∷ 32 ∷ 50 ∷ 10 ∷ [];
        raised = [];
        end = E.Finished;
      })
