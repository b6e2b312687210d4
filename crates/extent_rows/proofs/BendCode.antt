-- The worked row of a bending array: where its code stands, and the main procedure's variable.
use Rattle.std.proofs.Common.{ℕ, suc, ◌+◌, ◌-◌, ◌^◌, ◌<◌, List, [], ◌∷◌, ◌++◌, inl, map, Option}
use Rattle.std.proofs.Common.{refl, arith}
use Rattle.rv_meaning.specs.declared.instr.Instr.TheVariants as I
use Rattle.pli_language.specs.declared.condition.Condition.TheVariants as C
use Rattle.pli_typing.specs.TypedTree as Y
use Rattle.pli_meaning.specs.Executing.{entered}
use Rattle.pli_meaning.specs.Making as K
use Rattle.pli_serving.specs.Templates.{template_of}
use Rattle.pli_coding.specs.Allocating.{act_code}
use Rattle.pli_coding.specs.Assembly.{JumpAhead, Mark, OffsetAhead, Plain, ProcedureEntry, ReturnPlace, size_of}
use Rattle.pli_coding.specs.Environments.{none_taken}
use Rattle.pli_coding.specs.Instructions.{small}
use Rattle.pli_coding.specs.Images.{linked_code, raise_code}
use Rattle.pli_coding.specs.Linking.{links_of}
use Rattle.pli_coding.specs.Registers.{a1, a7}
use Rattle.pli_coding.specs.SignatureTable.{table_of}
use Rattle.pli_coding.specs.Statements.{condition_given, stmt_code, stmts_code, unit_environment, unit_held}
use Rattle.pli_coding.specs.Statements.{unit_variables, unit_words}
use Rattle.storage_relation.specs.Served.{AllDiffer}
use Rattle.run_steps.specs.Items.{Linked}
use Rattle.run_steps.proofs.Jumps.{back_of, front_of, rest_of}
use Rattle.run_steps.proofs.Linking.{linked_length}
use Rattle.program_runs.specs.Calls.{Callee, block_at}
use Rattle.program_runs.specs.Procedures.{begin_of, end_of, procedure_code}
use Rattle.program_runs.specs.Programs.{Whole, main_of}
use Rattle.program_runs.specs.Starts.{image_parts, no_numbers, start_of, start_point, surroundings_of}
use Rattle.program_runs.specs.Statements.{Block, IsBegun}
use Rattle.program_runs.specs.Variables as D
use Rattle.program_runs.specs.Variables.{IsOnly, newest_made}
use Rattle.program_runs.specs.VariableRows as W
use Rattle.program_runs.proofs.VariableRows.{number_valued}
use Rattle.expression_runs.specs.Raises.{Routines}
use Rattle.expression_runs.specs.Variables.{IsNumber}
use Rattle.unit_runs.specs.Establishing.{IsOn, behind_on, on_of, unit_index}
use Rattle.unit_runs.specs.Raised.{Standing, standing_code}
use Rattle.unit_runs.proofs.Establishing.{unit_numbers}
use Rattle.program_places.proofs.Marks.{whole_linked}
use Rattle.extent_rows.specs.BendRows.{bend_body, bend_call, bend_code, bend_end, bend_entry, bend_environment}
use Rattle.extent_rows.specs.BendRows.{bend_first, bend_image, bend_inner, bend_main, bend_on, bend_procedure}
use Rattle.extent_rows.specs.BendRows.{bend_program, bend_rest, bend_spot, bend_start, bend_unit, inner_body}
use Rattle.extent_rows.specs.BendRows.{inner_coded, inner_entry, inner_environment, main_coded}
use Rattle.extent_rows.proofs.GrowCode.{two_differ}

-- ---- its code

pub bend_linked : Linked (links_of bend_code) (linked_code bend_code) 0 bend_code
bend_linked =
    let n = linked_length (links_of bend_code) 0 bend_code in
    whole_linked bend_code (omega (arith, n))

pub start_linked : Linked (links_of bend_code) (linked_code bend_code) 0 (start_of 0)
start_linked = front_of (start_of 0) (raise_code ++ (main_coded ++ inner_coded)) bend_linked

pub raise_linked : Linked (links_of bend_code) (linked_code bend_code) (size_of (start_of 0)) raise_code
raise_linked =
    front_of raise_code (main_coded ++ inner_coded)
    (back_of (start_of 0) (raise_code ++ (main_coded ++ inner_coded)) bend_linked)

both_linked : Linked (links_of bend_code) (linked_code bend_code) bend_entry (main_coded ++ inner_coded)
both_linked =
    back_of raise_code (main_coded ++ inner_coded)
    (back_of (start_of 0) (raise_code ++ (main_coded ++ inner_coded)) bend_linked)

pub main_linked :
    Linked (links_of bend_code) (linked_code bend_code) bend_entry (procedure_code bend_environment bend_main)
main_linked =
    rest_of (Mark (ProcedureEntry 0)) (procedure_code bend_environment bend_main)
    (front_of main_coded inner_coded both_linked)

pub inner_linked :
    Linked (links_of bend_code) (linked_code bend_code) inner_entry (procedure_code inner_environment bend_inner)
inner_linked =
    rest_of (Mark (ProcedureEntry 1)) (procedure_code inner_environment bend_inner)
    (back_of main_coded inner_coded both_linked)

abbrev pub routines : Routines (links_of bend_code) (linked_code bend_code)
routines = record { at = size_of (start_of 0); linked = raise_linked; condition = refl; end = omega arith }

-- ---- indices

abbrev pub bend_finish : ℕ
bend_finish = bend_start + size_of (stmts_code bend_environment none_taken bend_body)

abbrev pub inner_start : ℕ
inner_start = inner_entry + size_of (begin_of bend_inner) + size_of bend_inner.variables + size_of (act_code 2)

pub body_linked :
    Linked (links_of bend_code) (linked_code bend_code) bend_start
    (stmts_code bend_environment none_taken bend_body)
body_linked =
    let one = act_code 1 in
    let body = stmts_code bend_environment none_taken bend_body in
    let tail = Mark (ReturnPlace 0) ∷ end_of bend_main in
    let rest = one ++ (body ++ tail) in
    front_of body tail
    (back_of one (body ++ tail)
    (back_of bend_main.variables rest (back_of (begin_of bend_main) (bend_main.variables ++ rest) main_linked)))

pub inner_body_linked :
    Linked (links_of bend_code) (linked_code bend_code) inner_start
    (stmts_code inner_environment none_taken inner_body)
inner_body_linked =
    let one = act_code 2 in
    let body = stmts_code inner_environment none_taken inner_body in
    let tail = Mark (ReturnPlace 1) ∷ end_of bend_inner in
    let rest = one ++ (body ++ tail) in
    front_of body tail
    (back_of one (body ++ tail)
    (back_of bend_inner.variables rest (back_of (begin_of bend_inner) (bend_inner.variables ++ rest) inner_linked)))

-- ---- the main procedure's variable

pub both_differ : AllDiffer (map template_of (table_of bend_program))
both_differ = two_differ _ _ refl refl refl refl

abbrev pub bend_whole : (constants : ℕ → Option ℕ) → (input : List ℕ) → (acts : ℕ) → Whole
bend_whole constants input acts =
    record {
      image = bend_image constants input acts;
      program = bend_program;
      main = bend_main;
      others = bend_procedure ∷ [];
      environment = bend_environment;
      entry = bend_entry;
      end = bend_finish;
      made = newest_made image_parts W.number_declared;
    }

pub outer_only :
    (constants : ℕ → Option ℕ) (input : List ℕ) (acts : ℕ) →
    IsOnly (surroundings_of (bend_image constants input acts)) (main_of (bend_whole constants input acts))
    (start_point (bend_image constants input acts)) no_numbers W.number_declared
outer_only constants input acts =
    let n = linked_length (links_of bend_code) 0 bend_code in
    record {
      kind = refl;
      variables = refl;
      class = refl;
      evaluations = refl;
      first = refl;
      code = refl;
      made = refl;
      table = refl;
      parts = refl;
      few = omega arith;
      declared = record {
        newest = refl;
        here = refl;
        holds = omega arith;
        size = omega arith;
        fits = omega arith;
        even = refl;
        low = omega (arith, n);
        shape = refl;
        number = omega arith;
        initial = refl;
        none = refl;
        plain = refl;
        fixed = refl;
        values = (tt, tt);
        valued = number_valued;
        limit = refl;
      };
    }

abbrev pub bend_block : (constants : ℕ → Option ℕ) → (input : List ℕ) → (acts : ℕ) → Block
bend_block constants input acts =
    block_at (surroundings_of (bend_image constants input acts)) (linked_code bend_code)
    (main_of (bend_whole constants input acts)) (start_point (bend_image constants input acts)) no_numbers

pub outer_number :
    (constants : ℕ → Option ℕ) (input : List ℕ) (acts : ℕ) → IsNumber (bend_block constants input acts) bend_spot
outer_number constants input acts =
    record {
      initial = [];
      declared = refl;
      serial = 1;
      binding = refl;
      living = K.living_at 1 1 (D.generation_for W.number_declared);
      lives = refl;
      shape = refl;
      base = _;
      frame = inl (refl, refl);
      at = refl;
      low = omega arith;
      inside = omega arith;
    }

-- ---- the statements

pub rest_linked :
    Linked (links_of bend_code) (linked_code bend_code) bend_on (stmts_code bend_environment none_taken bend_rest)
rest_linked =
    back_of (stmt_code bend_environment none_taken bend_first) (stmts_code bend_environment none_taken bend_rest)
    body_linked

pub on_linked :
    Linked (links_of bend_code) (linked_code bend_code) bend_on
    (stmt_code bend_environment none_taken (on_of bend_unit))
on_linked =
    front_of (stmt_code bend_environment none_taken (on_of bend_unit))
    (stmts_code bend_environment none_taken bend_end) rest_linked

abbrev pub last_index : ℕ
last_index = bend_on + size_of (stmt_code bend_environment none_taken (on_of bend_unit))

pub last_linked :
    Linked (links_of bend_code) (linked_code bend_code) last_index (stmts_code bend_environment none_taken bend_end)
last_linked =
    back_of (stmt_code bend_environment none_taken (on_of bend_unit)) (stmts_code bend_environment none_taken bend_end)
    rest_linked

pub call_linked :
    Linked (links_of bend_code) (linked_code bend_code) last_index (stmt_code bend_environment none_taken bend_call)
call_linked = front_of (stmt_code bend_environment none_taken bend_call) [] last_linked

-- ---- the block behind the ON

abbrev pub behind_block : (constants : ℕ → Option ℕ) → (input : List ℕ) → (acts : ℕ) → Block
behind_block constants input acts = behind_on (bend_block constants input acts) bend_unit bend_on

pub on_is :
    (constants : ℕ → Option ℕ) (input : List ℕ) (acts : ℕ) → acts + 1 < 2 ^ 64 →
    IsBegun (bend_block constants input acts) → IsOn (bend_block constants input acts) bend_unit bend_on
on_is constants input acts few b =
    record {
      act = record { line_fits = omega arith; acts = few };
      begun = b;
      statement = on_linked;
      place = (0, refl);
    }

pub behind_number :
    (constants : ℕ → Option ℕ) (input : List ℕ) (acts : ℕ) → IsNumber (behind_block constants input acts) bend_spot
behind_number constants input acts =
    unit_numbers (bend_block constants input acts) bend_unit bend_on bend_spot (outer_number constants input acts)

-- ---- its unit

abbrev pub bend_standing : (more : ℕ) → Standing
bend_standing more =
    record {
      unit = bend_unit;
      words = unit_words bend_environment bend_unit.head Y.UnitBlock bend_unit.body;
      saved = unit_held bend_environment bend_unit.head Y.UnitBlock bend_unit.body;
      variables = unit_variables (unit_environment bend_unit.head bend_environment) bend_unit.head Y.UnitBlock;
      entry = unit_index bend_unit bend_on;
      environment = unit_environment bend_unit.head bend_environment;
      around = record { program = bend_program; enter = entered bend_program more; turns = suc more; line = 0 };
      made = λ q. q;
    }

pub unit_linked :
    (more : ℕ) →
    Linked (links_of bend_code) (linked_code bend_code) (unit_index bend_unit bend_on)
    (standing_code (bend_standing more))
unit_linked more =
    let over = OffsetAhead a1 5 ∷ condition_given C.FixedOverflow
    ∷ small a7 28 ∷ Plain I.Ecall ∷ JumpAhead (size_of (standing_code (bend_standing more))) ∷ [] in
    back_of over (standing_code (bend_standing more))
    (back_of (act_code 5) (over ++ standing_code (bend_standing more)) on_linked)

-- ---- the procedure inside

abbrev pub bend_callee : (more : ℕ) → Callee
bend_callee more =
    record {
      procedure = bend_inner;
      calling = record {
        parent = 1;
        call = last_index + size_of (stmt_code bend_environment none_taken bend_call) - 2;
        entry = inner_entry;
        end = inner_start + size_of (stmts_code inner_environment none_taken inner_body);
      };
      environment = inner_environment;
      made = λ q. q;
      around = record { program = bend_program; enter = entered bend_program more; turns = suc more; line = 0 };
    }
