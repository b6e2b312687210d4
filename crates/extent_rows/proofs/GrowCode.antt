-- The worked row of a growing array: where its code stands, and the main procedure's variable.
use Rattle.std.proofs.Common.{◌≡◌, ℕ, zero, suc, ◌+◌, ◌-◌, List, [], ◌∷◌, ◌++◌, inl, map, Option, true, false}
use Rattle.std.proofs.Common.{refl, sym, ap, ◌∙◌, arith}
use Rattle.pli_meaning.specs.Executing.{entered}
use Rattle.pli_meaning.specs.Making as K
use Rattle.pli_types.specs.Templates.{Template}
use Rattle.pli_serving.specs.SignatureService.{same_template}
use Rattle.pli_serving.specs.Templates.{template_of}
use Rattle.pli_coding.specs.Allocating.{act_code}
use Rattle.pli_coding.specs.Assembly.{Mark, ProcedureEntry, ReturnPlace, size_of}
use Rattle.pli_coding.specs.Environments.{none_taken}
use Rattle.pli_coding.specs.Images.{linked_code, raise_code}
use Rattle.pli_coding.specs.Linking.{links_of}
use Rattle.pli_coding.specs.SignatureTable.{table_of}
use Rattle.pli_coding.specs.Statements.{stmt_code, stmts_code}
use Rattle.storage_relation.specs.Served.{AllDiffer}
use Rattle.run_steps.specs.Items.{Linked}
use Rattle.run_steps.proofs.Jumps.{back_of, front_of, rest_of}
use Rattle.run_steps.proofs.Linking.{linked_length}
use Rattle.program_runs.specs.Calls.{Callee, block_at}
use Rattle.program_runs.specs.Procedures.{begin_of, end_of, procedure_code}
use Rattle.program_runs.specs.Programs.{Whole, main_of}
use Rattle.program_runs.specs.Starts.{image_parts, no_numbers, start_of, start_point, surroundings_of}
use Rattle.program_runs.specs.Statements.{Block}
use Rattle.program_runs.specs.Variables as D
use Rattle.program_runs.specs.Variables.{IsOnly, newest_made}
use Rattle.program_runs.specs.VariableRows as W
use Rattle.program_runs.proofs.VariableRows.{number_valued}
use Rattle.expression_runs.specs.Raises.{Routines}
use Rattle.expression_runs.specs.Variables.{IsNumber}
use Rattle.program_places.proofs.Marks.{whole_linked}
use Rattle.extent_rows.specs.GrowRows.{grow_body, grow_call, grow_code, grow_entry, grow_environment, grow_first}
use Rattle.extent_rows.specs.GrowRows.{grow_image, grow_inner, grow_main, grow_procedure, grow_program, grow_rest}
use Rattle.extent_rows.specs.GrowRows.{grow_spot, inner_body, inner_coded, inner_entry, inner_environment, main_coded}

-- ---- its code

pub grow_linked : Linked (links_of grow_code) (linked_code grow_code) 0 grow_code
grow_linked =
    let n = linked_length (links_of grow_code) 0 grow_code in
    whole_linked grow_code (omega (arith, n))

pub start_linked : Linked (links_of grow_code) (linked_code grow_code) 0 (start_of 0)
start_linked = front_of (start_of 0) (raise_code ++ (main_coded ++ inner_coded)) grow_linked

pub raise_linked : Linked (links_of grow_code) (linked_code grow_code) (size_of (start_of 0)) raise_code
raise_linked =
    front_of raise_code (main_coded ++ inner_coded)
    (back_of (start_of 0) (raise_code ++ (main_coded ++ inner_coded)) grow_linked)

both_linked : Linked (links_of grow_code) (linked_code grow_code) grow_entry (main_coded ++ inner_coded)
both_linked =
    back_of raise_code (main_coded ++ inner_coded)
    (back_of (start_of 0) (raise_code ++ (main_coded ++ inner_coded)) grow_linked)

pub main_linked :
    Linked (links_of grow_code) (linked_code grow_code) grow_entry (procedure_code grow_environment grow_main)
main_linked =
    rest_of (Mark (ProcedureEntry 0)) (procedure_code grow_environment grow_main)
    (front_of main_coded inner_coded both_linked)

pub inner_linked :
    Linked (links_of grow_code) (linked_code grow_code) inner_entry (procedure_code inner_environment grow_inner)
inner_linked =
    rest_of (Mark (ProcedureEntry 1)) (procedure_code inner_environment grow_inner)
    (back_of main_coded inner_coded both_linked)

abbrev pub routines : Routines (links_of grow_code) (linked_code grow_code)
routines = record { at = size_of (start_of 0); linked = raise_linked; condition = refl; end = omega arith }

-- ---- indices

abbrev pub grow_start : ℕ
grow_start = grow_entry + size_of (begin_of grow_main) + size_of grow_main.variables + size_of (act_code 1)

abbrev pub grow_finish : ℕ
grow_finish = grow_start + size_of (stmts_code grow_environment none_taken grow_body)

abbrev pub inner_start : ℕ
inner_start = inner_entry + size_of (begin_of grow_inner) + size_of grow_inner.variables + size_of (act_code 2)

abbrev pub call_index : ℕ
call_index = grow_start + size_of (stmt_code grow_environment none_taken grow_first)

pub body_linked :
    Linked (links_of grow_code) (linked_code grow_code) grow_start
    (stmts_code grow_environment none_taken grow_body)
body_linked =
    let one = act_code 1 in
    let body = stmts_code grow_environment none_taken grow_body in
    let tail = Mark (ReturnPlace 0) ∷ end_of grow_main in
    let rest = one ++ (body ++ tail) in
    front_of body tail
    (back_of one (body ++ tail)
    (back_of grow_main.variables rest (back_of (begin_of grow_main) (grow_main.variables ++ rest) main_linked)))

pub inner_body_linked :
    Linked (links_of grow_code) (linked_code grow_code) inner_start
    (stmts_code inner_environment none_taken inner_body)
inner_body_linked =
    let one = act_code 2 in
    let body = stmts_code inner_environment none_taken inner_body in
    let tail = Mark (ReturnPlace 1) ∷ end_of grow_inner in
    let rest = one ++ (body ++ tail) in
    front_of body tail
    (back_of one (body ++ tail)
    (back_of grow_inner.variables rest (back_of (begin_of grow_inner) (grow_inner.variables ++ rest) inner_linked)))

-- ---- the main procedure's variable

-- of two signatures that differ
pub two_differ :
    (t u : Template) → same_template t t ≡ true → same_template u u ≡ true → same_template t u ≡ false →
    same_template u t ≡ false → AllDiffer (t ∷ u ∷ [])
two_differ t u tt' uu tu ut zero zero a b e f =
    let ea : t ≡ a = cc e in
    let eb : t ≡ b = cc f in
    ap (λ x. same_template x b) (sym ea) ∙ ap (λ x. same_template t x) (sym eb) ∙ tt'
two_differ t u tt' uu tu ut zero (suc zero) a b e f =
    let ea : t ≡ a = cc e in
    let eb : u ≡ b = cc f in
    ap (λ x. same_template x b) (sym ea) ∙ ap (λ x. same_template t x) (sym eb) ∙ tu
two_differ t u tt' uu tu ut (suc zero) zero a b e f =
    let ea : u ≡ a = cc e in
    let eb : t ≡ b = cc f in
    ap (λ x. same_template x b) (sym ea) ∙ ap (λ x. same_template u x) (sym eb) ∙ ut
two_differ t u tt' uu tu ut (suc zero) (suc zero) a b e f =
    let ea : u ≡ a = cc e in
    let eb : u ≡ b = cc f in
    ap (λ x. same_template x b) (sym ea) ∙ ap (λ x. same_template u x) (sym eb) ∙ uu
two_differ t u tt' uu tu ut zero (suc (suc j)) a b e f = absurd (cc f)
two_differ t u tt' uu tu ut (suc zero) (suc (suc j)) a b e f = absurd (cc f)
two_differ t u tt' uu tu ut (suc (suc i)) j a b e f = absurd (cc e)

pub both_differ : AllDiffer (map template_of (table_of grow_program))
both_differ = two_differ _ _ refl refl refl refl

abbrev pub grow_whole : (constants : ℕ → Option ℕ) → (input : List ℕ) → (acts : ℕ) → Whole
grow_whole constants input acts =
    record {
      image = grow_image constants input acts;
      program = grow_program;
      main = grow_main;
      others = grow_procedure ∷ [];
      environment = grow_environment;
      entry = grow_entry;
      end = grow_finish;
      made = newest_made image_parts W.number_declared;
    }

pub outer_only :
    (constants : ℕ → Option ℕ) (input : List ℕ) (acts : ℕ) →
    IsOnly (surroundings_of (grow_image constants input acts)) (main_of (grow_whole constants input acts))
    (start_point (grow_image constants input acts)) no_numbers W.number_declared
outer_only constants input acts =
    let n = linked_length (links_of grow_code) 0 grow_code in
    record {
      kind = refl;
      variables = refl;
      class = refl;
      evaluations = refl;
      first = refl;
      code = refl;
      made = refl;
      table = refl;
      parts = refl;
      few = omega arith;
      declared = record {
        newest = refl;
        here = refl;
        holds = omega arith;
        size = omega arith;
        fits = omega arith;
        even = refl;
        low = omega (arith, n);
        shape = refl;
        number = omega arith;
        initial = refl;
        none = refl;
        plain = refl;
        fixed = refl;
        values = (tt, tt);
        valued = number_valued;
        limit = refl;
      };
    }

abbrev pub grow_block : (constants : ℕ → Option ℕ) → (input : List ℕ) → (acts : ℕ) → Block
grow_block constants input acts =
    block_at (surroundings_of (grow_image constants input acts)) (linked_code grow_code)
    (main_of (grow_whole constants input acts)) (start_point (grow_image constants input acts)) no_numbers

pub outer_number :
    (constants : ℕ → Option ℕ) (input : List ℕ) (acts : ℕ) → IsNumber (grow_block constants input acts) grow_spot
outer_number constants input acts =
    record {
      initial = [];
      declared = refl;
      serial = 1;
      binding = refl;
      living = K.living_at 1 1 (D.generation_for W.number_declared);
      lives = refl;
      shape = refl;
      base = _;
      frame = inl (refl, refl);
      at = refl;
      low = omega arith;
      inside = omega arith;
    }

-- ---- the procedure inside

abbrev pub grow_callee : (more : ℕ) → Callee
grow_callee more =
    record {
      procedure = grow_inner;
      calling = record {
        parent = 1;
        call = call_index + size_of (stmt_code grow_environment none_taken grow_call) - 2;
        entry = inner_entry;
        end = inner_start + size_of (stmts_code inner_environment none_taken inner_body);
      };
      environment = inner_environment;
      made = λ q. q;
      around = record { program = grow_program; enter = entered grow_program more; turns = suc more; line = 0 };
    }

pub rest_linked :
    Linked (links_of grow_code) (linked_code grow_code) call_index
    (stmts_code grow_environment none_taken grow_rest)
rest_linked =
    back_of (stmt_code grow_environment none_taken grow_first)
    (stmts_code grow_environment none_taken grow_rest) body_linked
