-- A worked row: a main procedure that keeps in another pointer where a number was allocated, sets the first one to
-- NULL, and goes by what comparisons of the two tell.
use Rattle.std.specs.Prelude.{ℕ, suc, ◌+◌, ◌^◌, ◌<◌, ◌≡◌, List, [], ◌∷◌, length, map, None, Some, true, false}
use Rattle.rv_meaning.specs.Machine.{memory_size}
use Rattle.pli_language.specs.declared.condition.Condition.TheVariants as C
use Rattle.pli_typing.specs.TypedTree as Y
use Rattle.pli_meaning.specs.declared.outcome.End.TheVariants as E
use Rattle.pli_meaning.specs.Executing.{meaning, run}
use Rattle.pli_meaning.specs.StorageState.{first_state}
use Rattle.pli_serving.specs.Templates.{template_of}
use Rattle.pli_coding.specs.Assembly.{Code, Mark, ProcedureEntry, size_of}
use Rattle.pli_coding.specs.Entries.{variables_code}
use Rattle.pli_coding.specs.Environments.{Environment}
use Rattle.pli_coding.specs.Images.{code_of, environment_of, linked_code, raise_code}
use Rattle.pli_coding.specs.Linking.{links_of}
use Rattle.pli_coding.specs.Procedures.{procedure_environment}
use Rattle.pli_coding.specs.SignatureTable.{table_of}
use Rattle.pli_coding.specs.Statements.{block_held, block_words}
use Rattle.storage_relation.specs.Versions.{no_constants}
use Rattle.activation_relation.specs.Layers.{services_of}
use Rattle.run_steps.specs.Reach.{Comes}
use Rattle.program_runs.specs.Procedures.{Procedure, procedure_code}
use Rattle.program_runs.specs.Rows.{row_head}
use Rattle.program_runs.specs.Starts.{Image, first_family, image_parts, start_of, start_point, never_in}
use Rattle.program_runs.specs.Variables.{Declared}
use Rattle.expression_runs.specs.Assignments as N
use Rattle.expression_runs.specs.Variables.{Spot, number_declared, whole}
use Rattle.area_runs.specs.Based.{based_declared, pointer_declared, through}
use Rattle.area_runs.specs.BasedAssignments as B
use Rattle.area_runs.specs.Rows.{area_declared, based_spot, locate_allocation, pointer_spot}
use Rattle.locator_runs.specs.Comparisons.{comparison}
use Rattle.locator_runs.specs.Pointers as A

-- ---- the program: DECLARE A AREA(64), P POINTER, N FIXED BINARY(31) BASED, Q POINTER, X FIXED BINARY(31);
-- ALLOCATE N SET(P) IN(A); Q = P; Q->N = 1073741824; P = NULL(); IF P = NULL() THEN X = Q->N; IF P ^= Q THEN X = X + X;

abbrev pub other_spot : Spot
other_spot = record { block = 0; level = 0; index = 3 }

abbrev pub number_spot : Spot
number_spot = record { block = 0; level = 0; index = 4 }

abbrev pub follow_copy : Y.Stmt
follow_copy = A.assignment other_spot (Y.PointerIn (whole pointer_spot)) 4

abbrev pub follow_put : Y.Stmt
follow_put = B.assignment other_spot based_spot (Y.NumberConstant 1073741824) 5

abbrev pub follow_null : Y.Stmt
follow_null = A.assignment pointer_spot Y.NullPointer 6

abbrev pub follow_none : Y.Bit
follow_none = comparison true pointer_spot Y.NullPointer

abbrev pub follow_read : Y.Stmt
follow_read = N.assignment number_spot (Y.NumberIn (through other_spot based_spot)) 7

abbrev pub follow_if : Y.Stmt
follow_if = Y.If follow_none follow_read 7

abbrev pub follow_differ : Y.Bit
follow_differ = comparison false pointer_spot (Y.PointerIn (whole other_spot))

abbrev pub follow_sum : Y.Number
follow_sum = Y.Calculated Y.Sum (Y.NumberIn (whole number_spot)) (Y.NumberIn (whole number_spot))

abbrev pub follow_twice : Y.Stmt
follow_twice = N.assignment number_spot follow_sum 8

abbrev pub follow_last : Y.Stmt
follow_last = Y.If follow_differ follow_twice 8

abbrev pub follow_end : Y.Stmts
follow_end = Y.StmtThen [] follow_last (Y.EndOfList [])

abbrev pub follow_chosen : Y.Stmts
follow_chosen = Y.StmtThen [] follow_if follow_end

abbrev pub follow_nulled : Y.Stmts
follow_nulled = Y.StmtThen [] follow_null follow_chosen

abbrev pub follow_held : Y.Stmts
follow_held = Y.StmtThen [] follow_put follow_nulled

abbrev pub follow_rest : Y.Stmts
follow_rest = Y.StmtThen [] follow_copy follow_held

abbrev pub follow_body : Y.Stmts
follow_body = Y.StmtThen [] locate_allocation follow_rest

abbrev pub follow_program : Y.Program
follow_program =
    record {
      variables = (area_declared ∷ pointer_declared ∷ based_declared ∷ pointer_declared ∷ number_declared [] ∷ []) ∷ [];
      procedures =
          record { block = Y.BlockOf (row_head 0 0 1) follow_body; parameters = []; result = None } ∷ [];
    }

-- ---- its variables behind the first pointer

abbrev pub other_made : Declared
other_made = record { index = 3; declared = pointer_declared; number = 1; place = 272 }

abbrev pub number_made : Declared
number_made = record { index = 4; declared = number_declared []; number = 2; place = 304 }

-- ---- its image

abbrev pub follow_environment : Environment
follow_environment = procedure_environment (row_head 0 0 1) (environment_of image_parts follow_program)

abbrev pub follow_main : Procedure
follow_main =
    record {
      head = row_head 0 0 1;
      body = follow_body;
      words = block_words follow_environment 0 follow_body;
      saved = block_held follow_environment 0 follow_body;
      variables = variables_code follow_environment 1;
    }

abbrev pub follow_code : Code
follow_code = code_of image_parts follow_program

abbrev pub follow_coded : Code
follow_coded = Mark (ProcedureEntry 0) ∷ procedure_code follow_environment follow_main

abbrev pub follow_entry : ℕ
follow_entry = size_of (start_of 0) + size_of raise_code

abbrev pub follow_image : (input : List ℕ) → (acts : ℕ) → Image
follow_image input acts =
    record {
      code = linked_code follow_code;
      links = links_of follow_code;
      units = [];
      signatures = map template_of (table_of follow_program);
      constants = no_constants;
      fills = [];
      input = input;
      acts = acts;
      serials = 4;
    }

pub record FollowRan : Type 0 where
  -- whatever memory, input and number of acts that are allowed, the run does what the program does
  pub runs :
      (input first : List ℕ) (acts : ℕ) → acts + 1 < 2 ^ 64 → length first ≡ memory_size →
      Comes (linked_code follow_code) 0 (first_family first (services_of (start_point (follow_image input acts))))
      (services_of (start_point (follow_image input acts))) (never_in (follow_image input acts))
      (run follow_program (suc acts) acts (first_state input))
  -- that ends where the number overflows that the other pointer found
  pub ends :
      (input : List ℕ) →
      meaning follow_program input 12
      ≡ Some (record {
        acts = 12;
        output = [];
        raised = (C.FixedOverflow, 20) ∷ (C.Error, 20) ∷ [];
        end = E.Error 20 8;
      })
