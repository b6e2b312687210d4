-- A worked row: a main procedure that allocates a number in an area, and doubles it by way of a pointer until it
-- overflows.
use Rattle.std.specs.Prelude.{ℕ, suc, pos, ◌+◌, ◌^◌, ◌<◌, ◌≡◌, List, [], ◌∷◌, length, map, None, Some}
use Rattle.rv_meaning.specs.Machine.{memory_size}
use Rattle.pli_language.specs.declared.condition.Condition.TheVariants as C
use Rattle.pli_typing.specs.TypedTree as Y
use Rattle.pli_meaning.specs.declared.outcome.End.TheVariants as E
use Rattle.pli_meaning.specs.Control.{Label}
use Rattle.pli_meaning.specs.Executing.{meaning, run}
use Rattle.pli_meaning.specs.StorageState.{first_state}
use Rattle.pli_serving.specs.Templates.{template_of}
use Rattle.pli_coding.specs.Assembly.{Code, Mark, ProcedureEntry, size_of}
use Rattle.pli_coding.specs.Entries.{variables_code}
use Rattle.pli_coding.specs.Environments.{Environment}
use Rattle.pli_coding.specs.Images.{code_of, environment_of, linked_code, raise_code}
use Rattle.pli_coding.specs.Linking.{links_of}
use Rattle.pli_coding.specs.Procedures.{procedure_environment}
use Rattle.pli_coding.specs.SignatureTable.{table_of}
use Rattle.pli_coding.specs.Statements.{block_held, block_words}
use Rattle.storage_relation.specs.Versions.{no_constants}
use Rattle.activation_relation.specs.Layers.{services_of}
use Rattle.run_steps.specs.Reach.{Comes}
use Rattle.program_runs.specs.Procedures.{Procedure, procedure_code}
use Rattle.program_runs.specs.Rows.{row_head}
use Rattle.program_runs.specs.Starts.{Image, first_family, image_parts, start_of, start_point, never_in}
use Rattle.program_runs.specs.Variables.{Declared}
use Rattle.expression_runs.specs.Variables.{Spot}
use Rattle.area_runs.specs.Allocations.{allocation}
use Rattle.area_runs.specs.Based.{based_declared, pointer_declared, through}
use Rattle.area_runs.specs.BasedAssignments.{assignment}

-- ---- the program: DECLARE A AREA(64), P POINTER, N FIXED BINARY(31) BASED; ALLOCATE N SET(P) IN(A);
-- P->N = 536870912; L: P->N = P->N + P->N; GOTO L;

abbrev pub area_spot : Spot
area_spot = record { block = 0; level = 0; index = 0 }

abbrev pub pointer_spot : Spot
pointer_spot = record { block = 0; level = 0; index = 1 }

abbrev pub based_spot : Spot
based_spot = record { block = 0; level = 0; index = 2 }

abbrev pub locate_label : Label
locate_label = 76 ∷ []

abbrev pub locate_allocation : Y.Stmt
locate_allocation = allocation based_spot pointer_spot area_spot 3

abbrev pub locate_first : Y.Stmt
locate_first = assignment pointer_spot based_spot (Y.NumberConstant 536870912) 4

abbrev pub locate_sum : Y.Number
locate_sum =
    Y.Calculated Y.Sum (Y.NumberIn (through pointer_spot based_spot)) (Y.NumberIn (through pointer_spot based_spot))

abbrev pub locate_again : Y.Stmt
locate_again = assignment pointer_spot based_spot locate_sum 5

abbrev pub locate_back : Y.Stmt
locate_back = Y.Goto 0 locate_label 6

abbrev pub locate_end : Y.Stmts
locate_end = Y.StmtThen [] locate_back (Y.EndOfList [])

abbrev pub locate_last : Y.Stmts
locate_last = Y.StmtThen (locate_label ∷ []) locate_again locate_end

abbrev pub locate_rest : Y.Stmts
locate_rest = Y.StmtThen [] locate_first locate_last

abbrev pub locate_body : Y.Stmts
locate_body = Y.StmtThen [] locate_allocation locate_rest

abbrev pub area_declared : Y.DeclaredVariable
area_declared =
    record {
      class = Y.AutomaticClass;
      members = record { depth = 0; dimensions = 0 } ∷ [];
      leaves = record { type = Y.AreaLeaf (Y.ConstantExtent (pos 64)); bounds = []; initial = [] } ∷ [];
      refer = None;
      evaluations = [];
    }

abbrev pub locate_program : Y.Program
locate_program =
    record {
      variables = (area_declared ∷ pointer_declared ∷ based_declared ∷ []) ∷ [];
      procedures =
          record { block = Y.BlockOf (row_head 0 0 1) locate_body; parameters = []; result = None } ∷ [];
    }

-- ---- its variables: the area's data take 80 bytes behind its name

abbrev pub area_made : Declared
area_made = record { index = 0; declared = area_declared; number = 0; place = 144 }

abbrev pub pointer_made : Declared
pointer_made = record { index = 1; declared = pointer_declared; number = 1; place = 240 }

-- ---- its image

abbrev pub locate_environment : Environment
locate_environment = procedure_environment (row_head 0 0 1) (environment_of image_parts locate_program)

abbrev pub locate_main : Procedure
locate_main =
    record {
      head = row_head 0 0 1;
      body = locate_body;
      words = block_words locate_environment 0 locate_body;
      saved = block_held locate_environment 0 locate_body;
      variables = variables_code locate_environment 1;
    }

abbrev pub locate_code : Code
locate_code = code_of image_parts locate_program

abbrev pub locate_coded : Code
locate_coded = Mark (ProcedureEntry 0) ∷ procedure_code locate_environment locate_main

abbrev pub locate_entry : ℕ
locate_entry = size_of (start_of 0) + size_of raise_code

abbrev pub locate_image : (input : List ℕ) → (acts : ℕ) → Image
locate_image input acts =
    record {
      code = linked_code locate_code;
      links = links_of locate_code;
      units = [];
      signatures = map template_of (table_of locate_program);
      constants = no_constants;
      fills = [];
      input = input;
      acts = acts;
      serials = 2;
    }

pub record LocateRan : Type 0 where
  -- whatever memory, input and number of acts that are allowed, the run does what the program does
  pub runs :
      (input first : List ℕ) (acts : ℕ) → acts + 1 < 2 ^ 64 → length first ≡ memory_size →
      Comes (linked_code locate_code) 0 (first_family first (services_of (start_point (locate_image input acts))))
      (services_of (start_point (locate_image input acts))) (never_in (locate_image input acts))
      (run locate_program (suc acts) acts (first_state input))
  -- that ends in the second turn, since 2 ^ 31 has more than 31 bits
  pub ends :
      (input : List ℕ) →
      meaning locate_program input 9
      ≡ Some (record {
        acts = 9;
        output = [];
        raised = (C.FixedOverflow, 20) ∷ (C.Error, 20) ∷ [];
        end = E.Error 20 5;
      })
