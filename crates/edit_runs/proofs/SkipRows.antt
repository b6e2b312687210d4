-- The worked row: all that is premised of the program is computed.
use Rattle.std.proofs.Common.{◌≡◌, ℕ, suc, ◌+◌, ◌^◌, ◌<◌, List, [], ◌∷◌, ◌++◌, inl, length, map, Some}
use Rattle.std.proofs.Common.{refl, arith}
use Rattle.rv_meaning.specs.Machine.{memory_size}
use Rattle.pli_language.specs.declared.condition.Condition.TheVariants as C
use Rattle.pli_typing.specs.TypedTree as Y
use Rattle.pli_meaning.specs.declared.outcome.End.TheVariants as E
use Rattle.pli_meaning.specs.Control as F
use Rattle.pli_meaning.specs.Control.{Label, is_among}
use Rattle.pli_meaning.specs.Evaluating as V
use Rattle.pli_meaning.specs.Executing as M
use Rattle.pli_meaning.specs.Executing.{run}
use Rattle.pli_meaning.specs.Making as K
use Rattle.pli_meaning.specs.Placing as P
use Rattle.pli_meaning.specs.Raising as R
use Rattle.pli_meaning.specs.Streaming as T
use Rattle.pli_meaning.specs.StorageState.{first_state}
use Rattle.area_keeper.specs.KeeperLaws.{Keeps}
use Rattle.run_keeper.specs.RunKeeper.{run_keeper}
use Rattle.pli_serving.specs.Templates.{template_of}
use Rattle.pli_coding.specs.Allocating.{act_code}
use Rattle.pli_coding.specs.Assembly.{CallTo, Mark, ProcedureEntry, ReturnPlace, size_of}
use Rattle.pli_coding.specs.Environments.{none_taken}
use Rattle.pli_coding.specs.Images.{first_frame, linked_code, raise_code}
use Rattle.pli_coding.specs.Linking.{links_of}
use Rattle.pli_coding.specs.SignatureTable.{table_of}
use Rattle.pli_coding.specs.Statements.{stmt_code, stmts_code}
use Rattle.storage_relation.specs.Served.{AllDiffer}
use Rattle.activation_relation.specs.Layers.{services_of}
use Rattle.run_steps.specs.Items.{Linked}
use Rattle.run_steps.proofs.Jumps.{back_of, first_of, front_of, rest_of}
use Rattle.run_steps.proofs.Linking.{has_items, linked_length}
use Rattle.run_steps.specs.Reach.{Comes}
use Rattle.program_runs.specs.Calls.{block_at, body_index, left_over}
use Rattle.program_runs.specs.Procedures.{begin_of, end_of, procedure_code}
use Rattle.program_runs.specs.Programs.{IsWhole, Whole, main_of}
use Rattle.program_runs.specs.Starts.{first_family, image_parts, main_called, no_numbers, start_of, never_in}
use Rattle.program_runs.specs.Starts.{start_point, surroundings_of}
use Rattle.program_runs.specs.Statements.{Block, EachDoes, IsBegun, StandAt}
use Rattle.program_runs.specs.Variables as D
use Rattle.program_runs.specs.Variables.{IsOnly, newest_made}
use Rattle.program_runs.specs.VariableRows as W
use Rattle.program_runs.proofs.Gotos.{goto_does}
use Rattle.program_runs.proofs.Programs.{program_runs}
use Rattle.program_runs.proofs.Rows.{is_datum, names_none, none_named}
use Rattle.program_runs.proofs.VariableProcedures.{one_made}
use Rattle.program_runs.proofs.VariableRows.{differs_alone, number_valued}
use Rattle.expression_runs.specs.Assignments.{IsAssignment, setting_of}
use Rattle.expression_runs.specs.Raises.{IsUnraised}
use Rattle.edit_runs.specs.SkipRows.{ruled_again, ruled_back, ruled_body, ruled_code, ruled_coded}
use Rattle.edit_runs.specs.SkipRows.{ruled_end, ruled_entry, ruled_environment, ruled_first, ruled_image}
use Rattle.edit_runs.specs.SkipRows.{ruled_label, ruled_main, ruled_program, ruled_rest, ruled_spot, ruled_twice}
use Rattle.expression_runs.specs.Values.{OverflowComes}
use Rattle.expression_runs.specs.Variables.{IsNumber, whole}
use Rattle.expression_runs.proofs.Assignments.{assign_does}
use Rattle.expression_runs.proofs.Operands.{constant_does}
use Rattle.expression_runs.proofs.Raises.{overflow_ends}
use Rattle.expression_runs.proofs.Rows.{one_label_stands}
use Rattle.expression_runs.proofs.Sums.{sum_does}
use Rattle.expression_runs.proofs.VariablePoints.{variable_does}
use Rattle.edit_runs.specs.Skips.{IsSkip}
use Rattle.edit_runs.specs.SkipRows.{ruled_next, ruled_put}
use Rattle.edit_runs.proofs.Skips.{skip_does}

-- ---- its code

ruled_linked : Linked (links_of ruled_code) (linked_code ruled_code) 0 ruled_code
unfolding names_none is_datum
ruled_linked =
    let n = linked_length (links_of ruled_code) 0 ruled_code in
    record {
      small' = omega (arith, n);
      inside = omega (arith, n);
      has = has_items (links_of ruled_code) ruled_code refl;
      named = λ d h. absurd (none_named d ruled_code refl h);
    }

start_linked : Linked (links_of ruled_code) (linked_code ruled_code) 0 (start_of 0)
start_linked = front_of (start_of 0) (raise_code ++ ruled_coded) ruled_linked

raise_linked : Linked (links_of ruled_code) (linked_code ruled_code) (size_of (start_of 0)) raise_code
raise_linked = front_of raise_code ruled_coded (back_of (start_of 0) (raise_code ++ ruled_coded) ruled_linked)

main_linked :
    Linked (links_of ruled_code) (linked_code ruled_code) ruled_entry
    (procedure_code ruled_environment ruled_main)
main_linked =
    rest_of (Mark (ProcedureEntry 0)) (procedure_code ruled_environment ruled_main)
    (back_of raise_code ruled_coded (back_of (start_of 0) (raise_code ++ ruled_coded) ruled_linked))

abbrev pub ruled_start : ℕ
ruled_start =
    ruled_entry + size_of (begin_of ruled_main) + size_of ruled_main.variables + size_of (act_code 1)

abbrev pub ruled_finish : ℕ
ruled_finish = ruled_start + size_of (stmts_code ruled_environment none_taken ruled_main.body)

body_linked :
    Linked (links_of ruled_code) (linked_code ruled_code) ruled_start
    (stmts_code ruled_environment none_taken ruled_main.body)
body_linked =
    let one = act_code 1 in
    let body = stmts_code ruled_environment none_taken ruled_main.body in
    let tail = Mark (ReturnPlace 0) ∷ end_of ruled_main in
    let rest = one ++ (body ++ tail) in
    front_of body tail
    (back_of one (body ++ tail)
    (back_of ruled_main.variables rest (back_of (begin_of ruled_main) (ruled_main.variables ++ rest) main_linked)))

-- ---- its variable

one_differs : AllDiffer (map template_of (table_of ruled_program))
one_differs = differs_alone (map template_of (table_of ruled_program)) _ refl refl

abbrev pub ruled_whole : (input : List ℕ) → (acts : ℕ) → Whole
ruled_whole input acts =
    record {
      image = ruled_image input acts;
      program = ruled_program;
      main = ruled_main;
      others = [];
      environment = ruled_environment;
      entry = ruled_entry;
      end = ruled_finish;
      made = newest_made image_parts W.number_declared;
    }

ruled_only :
    (input : List ℕ) (acts : ℕ) →
    IsOnly (surroundings_of (ruled_image input acts)) (main_of (ruled_whole input acts))
    (start_point (ruled_image input acts)) no_numbers W.number_declared
ruled_only input acts =
    let n = linked_length (links_of ruled_code) 0 ruled_code in
    record {
      kind = refl;
      variables = refl;
      class = refl;
      evaluations = refl;
      first = refl;
      code = refl;
      made = refl;
      table = refl;
      parts = refl;
      few = omega arith;
      declared = record {
        newest = refl;
        here = refl;
        holds = omega arith;
        size = omega arith;
        fits = omega arith;
        even = refl;
        low = omega (arith, n);
        shape = refl;
        number = omega arith;
        initial = refl;
        none = refl;
        plain = refl;
        fixed = refl;
        values = (tt, tt);
        valued = number_valued;
        limit = refl;
      };
    }

abbrev pub ruled_block : (input : List ℕ) → (acts : ℕ) → Block
ruled_block input acts =
    block_at (surroundings_of (ruled_image input acts)) (linked_code ruled_code) (main_of (ruled_whole input acts))
    (start_point (ruled_image input acts)) no_numbers

ruled_number : (input : List ℕ) (acts : ℕ) → IsNumber (ruled_block input acts) ruled_spot
ruled_number input acts =
    record {
      initial = [];
      declared = refl;
      serial = 1;
      binding = refl;
      living = K.living_at 1 1 (D.generation_for W.number_declared);
      lives = refl;
      shape = refl;
      base = _;
      frame = inl (refl, refl);
      at = refl;
      low = omega arith;
      inside = omega arith;
    }

-- ---- its statements

unraised :
    (input : List ℕ) (acts line : ℕ) → acts + 1 < 2 ^ 64 →
    IsUnraised (setting_of (ruled_block input acts) (ruled_label ∷ []) line 100)
unraised input acts line few =
    record {
      routines = record {
        at = size_of (start_of 0);
        linked = raise_linked;
        condition = refl;
        end = omega arith;
      };
      overflow = tt;
      error = tt;
      acts = few;
      most = omega arith;
    }

first_is :
    (input : List ℕ) (acts : ℕ) → acts + 1 < 2 ^ 64 → IsBegun (ruled_block input acts) →
    IsAssignment (ruled_block input acts) ruled_spot (Y.NumberConstant 536870912) 3 ruled_start 0 100
first_is input acts few b =
    let n = linked_length (links_of ruled_code) 0 ruled_code in
    record {
      act = record { line_fits = omega arith; acts = few };
      begun = b;
      number = ruled_number input acts;
      registers = omega arith;
      held = omega arith;
      statement = front_of (stmt_code ruled_environment none_taken ruled_first)
          (stmts_code ruled_environment none_taken ruled_rest) body_linked;
      paid = omega (arith, n);
    }

abbrev put_index : ℕ
put_index = ruled_start + size_of (stmt_code ruled_environment none_taken ruled_first)

abbrev again_index : ℕ
again_index = put_index + size_of (stmt_code ruled_environment none_taken ruled_put)

abbrev back_index : ℕ
back_index = again_index + size_of (stmt_code ruled_environment none_taken ruled_again)

rest_linked :
    Linked (links_of ruled_code) (linked_code ruled_code) put_index
    (stmts_code ruled_environment none_taken ruled_rest)
rest_linked =
    back_of (stmt_code ruled_environment none_taken ruled_first)
    (stmts_code ruled_environment none_taken ruled_rest) body_linked

put_linked :
    Linked (links_of ruled_code) (linked_code ruled_code) put_index
    (stmt_code ruled_environment none_taken ruled_put ++ stmts_code ruled_environment none_taken ruled_next)
put_linked = rest_of _ _ rest_linked

again_linked :
    Linked (links_of ruled_code) (linked_code ruled_code) again_index
    (stmt_code ruled_environment none_taken ruled_again ++ stmts_code ruled_environment none_taken ruled_end)
again_linked =
    back_of (stmt_code ruled_environment none_taken ruled_put) (stmts_code ruled_environment none_taken ruled_next)
    put_linked

put_is : (input : List ℕ) (acts : ℕ) → acts + 1 < 2 ^ 64 → IsSkip (ruled_block input acts) 2 4 put_index
put_is input acts few =
    record {
      act = record { line_fits = omega arith; acts = few };
      some = omega arith;
      most = omega arith;
      statement = front_of (stmt_code ruled_environment none_taken ruled_put)
          (stmts_code ruled_environment none_taken ruled_next) put_linked;
    }

again_is :
    (input : List ℕ) (acts : ℕ) → acts + 1 < 2 ^ 64 → IsBegun (ruled_block input acts) →
    IsAssignment (ruled_block input acts) ruled_spot ruled_twice 5 again_index 1 100
again_is input acts few b =
    let n = linked_length (links_of ruled_code) 0 ruled_code in
    record {
      act = record { line_fits = omega arith; acts = few };
      begun = b;
      number = ruled_number input acts;
      registers = omega arith;
      held = omega arith;
      statement = front_of (stmt_code ruled_environment none_taken ruled_again)
          (stmts_code ruled_environment none_taken ruled_end) again_linked;
      paid = omega (arith, n);
    }

pub ruled_each :
    (input : List ℕ) (acts : ℕ) → acts + 1 < 2 ^ 64 → IsBegun (ruled_block input acts) →
    EachDoes (ruled_block input acts) (ruled_label ∷ []) ruled_body
    (body_index (main_of (ruled_whole input acts))) left_over
ruled_each input acts few b =
    let k = ruled_block input acts in
    let labels = ruled_label ∷ [] in
    let x = ruled_number input acts in
    let five = setting_of k labels 5 100 in
    let over : OverflowComes five = overflow_ends five (unraised input acts 5 few) in
    let operand = variable_does five ruled_spot b x in (
      assign_does k labels ruled_spot (Y.NumberConstant 536870912) 3 ruled_start left_over 0 100
          (first_is input acts few b) (constant_does (setting_of k labels 3 100) 536870912 (omega arith)),
      (
        skip_does k labels 2 4 put_index left_over (put_is input acts few),
        (
          assign_does k labels ruled_spot ruled_twice 5 again_index left_over 1 100 (again_is input acts few b)
              (sum_does five (Y.NumberIn (whole ruled_spot)) (Y.NumberIn (whole ruled_spot)) 0 0 over operand operand),
          (
            goto_does k labels ruled_label 6 back_index left_over (record { line_fits = omega arith; acts = few })
                (record {
                  begun = b;
                  carried = refl;
                  level = refl;
                  block = refl;
                  at = put_index;
                  place = refl;
                  near = omega arith;
                })
                (front_of (stmt_code ruled_environment none_taken ruled_back) []
                (back_of (stmt_code ruled_environment none_taken ruled_again)
                (stmts_code ruled_environment none_taken ruled_end) again_linked)),
            tt,
          ),
        ),
      ),
    )

-- ---- its label

labels_stand : StandAt (links_of ruled_code) 0 (ruled_label ∷ []) put_index
labels_stand = one_label_stands (links_of ruled_code) put_index refl

-- ---- the whole

pub ruled_is : (input first : List ℕ) (acts : ℕ) → acts + 1 < 2 ^ 64 → length first ≡ memory_size →
    IsWhole (ruled_whole input acts) first
ruled_is input first acts few bytes =
    let l = back_of (first_frame image_parts) (main_called 0) start_linked in
    record {
      start = record { linked = start_linked; differ = one_differs; bytes = bytes; told = λ n v e. absurd (cc e) };
      made = one_made (surroundings_of (ruled_image input acts)) (linked_code ruled_code)
          (main_of (ruled_whole input acts)) (start_point (ruled_image input acts)) no_numbers W.number_declared
          (ruled_only input acts);
      callee = record {
        coded = record { level = omega arith; line = omega arith; saved = omega arith; back = omega arith };
        calls = first_of (CallTo (ProcedureEntry 0)) _ (rest_of _ _ (rest_of _ _ (rest_of _ _ l)));
        place = refl;
        stands = main_linked;
        end = refl;
        kind = refl;
        labels = (
          λ label e. absurd (cc e),
          (labels_stand, (λ label e. absurd (cc e), (λ label e. absurd (cc e), λ label e. absurd (cc e)))),
        );
        acts = few;
      };
      room = record { room = omega arith; shallow = refl; parent = tt; idle = refl };
      level = refl;
      procedures = refl;
      statics = refl;
    }

pub ruled_runs :
    Keeps run_keeper → (input first : List ℕ) (acts : ℕ) → acts + 1 < 2 ^ 64 → length first ≡ memory_size →
    Comes (linked_code ruled_code) 0 (first_family first (services_of (start_point (ruled_image input acts))))
    (services_of (start_point (ruled_image input acts))) (never_in (ruled_image input acts))
    (run ruled_program (suc acts) acts (first_state input))
ruled_runs keeps input first acts few bytes =
    program_runs keeps (ruled_whole input acts) first (ruled_is input first acts few bytes)
    (λ b. ruled_each input acts few b)

-- ---- what the program comes to

unfoldable flows : Unit {0}
unfolding F.give F.◌>>=◌ F.◌>>◌ F.looked F.stored F.act F.finish F.returns F.jumps F.choose F.given F.list_from
    F.leaving
flows = tt

unfoldable values : Unit {0}
unfolding V.number V.designated V.located V.numbers V.variable_designated V.part_designated V.stored_value R.or_error
    R.demanded R.value_of R.raised R.unit_run R.error R.error_unit_run P.element_stored M.assigned
values = tt

unfoldable makings : Unit {0}
unfolding K.variables_made K.automatic_made K.extents K.variable_made K.parameters_bound
makings = tt

unfoldable writings : Unit {0}
unfolding T.put T.control_put T.pairs_put
writings = tt

unfoldable statements : Unit {0}
unfolding M.statement M.statements M.list M.list_with M.block_variables_made M.entry_act M.block_list M.block_body
statements = tt

pub ruled_ends :
    (input : List ℕ) →
    M.meaning ruled_program input 12
    ≡ Some (record {
      acts = 12;
      output = 10 ∷ 10 ∷ 10 ∷ 10 ∷ [];
      raised = (C.FixedOverflow, 20) ∷ (C.Error, 20) ∷ [];
      end = E.Error 20 5;
    })
unfolding M.meaning M.run M.entered M.block_run flows values makings writings statements
ruled_ends input = refl
