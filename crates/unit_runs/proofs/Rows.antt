-- The worked row: all that is premised of the program is computed.
use Rattle.std.proofs.Common.{◌≡◌, ℕ, zero, suc, ◌+◌, ◌*◌, ◌^◌, ◌<◌, List, [], ◌∷◌, ◌++◌, inl, inr, length, map, Some}
use Rattle.std.proofs.Common.{None, Option, refl, sym, ap, arith}
use Rattle.rv_meaning.specs.declared.instr.Instr.TheVariants as I
use Rattle.rv_meaning.specs.Machine.{memory_size}
use Rattle.pli_language.specs.declared.condition.Condition.TheVariants as C
use Rattle.pli_typing.specs.TypedTree as Y
use Rattle.pli_meaning.specs.declared.outcome.End.TheVariants as E
use Rattle.pli_meaning.specs.Control as F
use Rattle.pli_meaning.specs.Evaluating as V
use Rattle.pli_meaning.specs.Executing as M
use Rattle.pli_meaning.specs.Executing.{entered, run}
use Rattle.pli_meaning.specs.Making as K
use Rattle.pli_meaning.specs.Placing as P
use Rattle.pli_meaning.specs.Raising as R
use Rattle.pli_meaning.specs.StorageState.{first_state}
use Rattle.area_keeper.specs.KeeperLaws.{Keeps}
use Rattle.run_keeper.specs.RunKeeper.{run_keeper}
use Rattle.pli_serving.specs.Templates.{template_of}
use Rattle.pli_coding.specs.Allocating.{act_code}
use Rattle.pli_coding.specs.Assembly.{CallTo, JumpAhead, Mark, OffsetAhead, Plain, ProcedureEntry, ReturnPlace, size_of}
use Rattle.pli_coding.specs.Environments.{none_taken}
use Rattle.pli_coding.specs.Images.{first_frame, linked_code, raise_code}
use Rattle.pli_coding.specs.Instructions.{small}
use Rattle.pli_coding.specs.Linking.{links_of}
use Rattle.pli_coding.specs.Registers.{a1, a7}
use Rattle.pli_coding.specs.SignatureTable.{table_of}
use Rattle.pli_coding.specs.Statements.{stmt_code, stmts_code, unit_environment, unit_held, unit_variables}
use Rattle.pli_coding.specs.Statements.{condition_given, unit_left, unit_mark, unit_words}
use Rattle.storage_relation.specs.Served.{AllDiffer}
use Rattle.activation_relation.specs.Chains.{StandsAt, UnitPlace}
use Rattle.activation_relation.specs.Layers.{services_of}
use Rattle.run_steps.specs.Items.{Linked}
use Rattle.run_steps.proofs.Jumps.{back_of, first_of, front_of, rest_of}
use Rattle.run_steps.proofs.Linking.{has_items, linked_length}
use Rattle.run_steps.specs.Reach.{Comes}
use Rattle.program_runs.specs.Calls.{block_at, left_over}
use Rattle.program_runs.specs.Procedures.{begin_of, end_of, procedure_code}
use Rattle.program_runs.specs.Programs.{IsWhole, Whole, main_of}
use Rattle.program_runs.specs.Starts.{first_family, image_parts, main_called, no_numbers, start_of, start_point}
use Rattle.program_runs.specs.Starts.{never_in}
use Rattle.program_runs.specs.Starts.{surroundings_of}
use Rattle.program_runs.specs.Statements.{Block, Does, IsBegun}
use Rattle.program_runs.specs.Variables as D
use Rattle.program_runs.specs.Variables.{IsOnly, newest_made}
use Rattle.program_runs.specs.VariableRows as W
use Rattle.program_runs.proofs.Rows.{is_datum, names_none, none_named}
use Rattle.program_runs.proofs.Statements.{none_does}
use Rattle.program_runs.proofs.VariableProcedures.{one_made}
use Rattle.program_runs.proofs.VariableRows.{differs_alone, number_valued}
use Rattle.expression_runs.specs.Assignments.{setting_of}
use Rattle.expression_runs.specs.Raises.{Routines}
use Rattle.expression_runs.specs.Values.{OverflowComes, Setting}
use Rattle.expression_runs.specs.Variables.{IsNumber, whole}
use Rattle.expression_runs.proofs.Assignments.{assign_does}
use Rattle.expression_runs.proofs.Operands.{constant_does}
use Rattle.expression_runs.proofs.Sums.{difference_does, sum_does}
use Rattle.expression_runs.proofs.VariablePoints.{variable_does}
use Rattle.unit_runs.specs.Bodies.{BodyDoes}
use Rattle.unit_runs.specs.Establishing.{IsOn, behind_on, on_of, unit_index, unit_of}
use Rattle.unit_runs.specs.Raised as S
use Rattle.unit_runs.specs.Raised.{IsRaised, Standing, UnitDoes, list_index, standing_code, unit_block}
use Rattle.unit_runs.specs.Rows.{mend_again, mend_body, mend_code, mend_coded, mend_end, mend_entry, mend_environment}
use Rattle.unit_runs.specs.Rows.{mend_first, mend_image, mend_main, mend_on, mend_one, mend_program, mend_rest}
use Rattle.unit_runs.specs.Rows.{mend_spot, mend_less, mend_start, mend_twice, mend_unit}
use Rattle.unit_runs.proofs.Bodies.{first_ends, list_ends, on_ends, unit_program_runs}
use Rattle.unit_runs.proofs.Establishing.{unit_begun, unit_numbers}
use Rattle.unit_runs.proofs.UnitRuns.{overflow_returns}
use Rattle.unit_runs.proofs.UnitVariables.{none_made, outer_number}

-- ---- a program with one unit has it at no other place

abbrev place_of : Option UnitPlace → ℕ
place_of None = 0
place_of (Some x) = x.at

pub only_place :
    (unit : Y.Block) (there at : ℕ) → StandsAt (record { unit = unit; at = there } ∷ []) unit at → at ≡ there
only_place unit there at (zero, e) = sym (ap place_of e)
only_place unit there at (suc n, e) = absurd (cc e)

-- ---- its code

mend_linked : Linked (links_of mend_code) (linked_code mend_code) 0 mend_code
unfolding names_none is_datum
mend_linked =
    let n = linked_length (links_of mend_code) 0 mend_code in
    record {
      small' = omega (arith, n);
      inside = omega (arith, n);
      has = has_items (links_of mend_code) mend_code refl;
      named = λ d h. absurd (none_named d mend_code refl h);
    }

start_linked : Linked (links_of mend_code) (linked_code mend_code) 0 (start_of 0)
start_linked = front_of (start_of 0) (raise_code ++ mend_coded) mend_linked

raise_linked : Linked (links_of mend_code) (linked_code mend_code) (size_of (start_of 0)) raise_code
raise_linked = front_of raise_code mend_coded (back_of (start_of 0) (raise_code ++ mend_coded) mend_linked)

main_linked :
    Linked (links_of mend_code) (linked_code mend_code) mend_entry (procedure_code mend_environment mend_main)
main_linked =
    rest_of (Mark (ProcedureEntry 0)) (procedure_code mend_environment mend_main)
    (back_of raise_code mend_coded (back_of (start_of 0) (raise_code ++ mend_coded) mend_linked))

abbrev pub mend_finish : ℕ
mend_finish = mend_start + size_of (stmts_code mend_environment none_taken mend_body)

body_linked :
    Linked (links_of mend_code) (linked_code mend_code) mend_start
    (stmts_code mend_environment none_taken mend_body)
body_linked =
    let one = act_code 1 in
    let body = stmts_code mend_environment none_taken mend_body in
    let tail = Mark (ReturnPlace 0) ∷ end_of mend_main in
    let rest = one ++ (body ++ tail) in
    front_of body tail
    (back_of one (body ++ tail)
    (back_of mend_main.variables rest (back_of (begin_of mend_main) (mend_main.variables ++ rest) main_linked)))

rest_linked :
    Linked (links_of mend_code) (linked_code mend_code) mend_on (stmts_code mend_environment none_taken mend_rest)
rest_linked =
    back_of (stmt_code mend_environment none_taken mend_first) (stmts_code mend_environment none_taken mend_rest)
    body_linked

on_linked :
    Linked (links_of mend_code) (linked_code mend_code) mend_on
    (stmt_code mend_environment none_taken (on_of mend_unit))
on_linked =
    front_of (stmt_code mend_environment none_taken (on_of mend_unit))
    (stmts_code mend_environment none_taken mend_end) rest_linked

abbrev last_index : ℕ
last_index = mend_on + size_of (stmt_code mend_environment none_taken (on_of mend_unit))

last_linked :
    Linked (links_of mend_code) (linked_code mend_code) last_index (stmts_code mend_environment none_taken mend_end)
last_linked =
    back_of (stmt_code mend_environment none_taken (on_of mend_unit)) (stmts_code mend_environment none_taken mend_end)
    rest_linked

-- ---- its variable

one_differs : AllDiffer (map template_of (table_of mend_program))
one_differs = differs_alone (map template_of (table_of mend_program)) _ refl refl

abbrev pub mend_whole : (input : List ℕ) → (acts : ℕ) → Whole
mend_whole input acts =
    record {
      image = mend_image input acts;
      program = mend_program;
      main = mend_main;
      others = [];
      environment = mend_environment;
      entry = mend_entry;
      end = mend_finish;
      made = newest_made image_parts W.number_declared;
    }

mend_only :
    (input : List ℕ) (acts : ℕ) →
    IsOnly (surroundings_of (mend_image input acts)) (main_of (mend_whole input acts))
    (start_point (mend_image input acts)) no_numbers W.number_declared
mend_only input acts =
    let n = linked_length (links_of mend_code) 0 mend_code in
    record {
      kind = refl;
      variables = refl;
      class = refl;
      evaluations = refl;
      first = refl;
      code = refl;
      made = refl;
      table = refl;
      parts = refl;
      few = omega arith;
      declared = record {
        newest = refl;
        here = refl;
        holds = omega arith;
        size = omega arith;
        fits = omega arith;
        even = refl;
        low = omega (arith, n);
        shape = refl;
        number = omega arith;
        initial = refl;
        none = refl;
        plain = refl;
        fixed = refl;
        values = (tt, tt);
        valued = number_valued;
        limit = refl;
      };
    }

abbrev pub mend_block : (input : List ℕ) → (acts : ℕ) → Block
mend_block input acts =
    block_at (surroundings_of (mend_image input acts)) (linked_code mend_code) (main_of (mend_whole input acts))
    (start_point (mend_image input acts)) no_numbers

mend_number : (input : List ℕ) (acts : ℕ) → IsNumber (mend_block input acts) mend_spot
mend_number input acts =
    record {
      initial = [];
      declared = refl;
      serial = 1;
      binding = refl;
      living = K.living_at 1 1 (D.generation_for W.number_declared);
      lives = refl;
      shape = refl;
      base = _;
      frame = inl (refl, refl);
      at = refl;
      low = omega arith;
      inside = omega arith;
    }

-- ---- the block behind the ON

abbrev pub behind_block : (input : List ℕ) → (acts : ℕ) → Block
behind_block input acts = behind_on (mend_block input acts) mend_unit mend_on

on_is :
    (input : List ℕ) (acts : ℕ) → acts + 1 < 2 ^ 64 → IsBegun (mend_block input acts) →
    IsOn (mend_block input acts) mend_unit mend_on
on_is input acts few b =
    record {
      act = record { line_fits = omega arith; acts = few };
      begun = b;
      statement = on_linked;
      place = (0, refl);
    }

behind_number : (input : List ℕ) (acts : ℕ) → IsNumber (behind_block input acts) mend_spot
behind_number input acts = unit_numbers (mend_block input acts) mend_unit mend_on mend_spot (mend_number input acts)

-- ---- its unit

abbrev pub mend_standing : (more : ℕ) → Standing
mend_standing more =
    record {
      unit = mend_unit;
      words = unit_words mend_environment mend_unit.head Y.UnitBlock mend_unit.body;
      saved = unit_held mend_environment mend_unit.head Y.UnitBlock mend_unit.body;
      variables = unit_variables (unit_environment mend_unit.head mend_environment) mend_unit.head Y.UnitBlock;
      entry = unit_index mend_unit mend_on;
      environment = unit_environment mend_unit.head mend_environment;
      around = record { program = mend_program; enter = entered mend_program more; turns = suc more; line = 0 };
      made = λ q. q;
    }

abbrev routines : Routines (links_of mend_code) (linked_code mend_code)
routines = record { at = size_of (start_of 0); linked = raise_linked; condition = refl; end = omega arith }

unit_linked :
    (more : ℕ) →
    Linked (links_of mend_code) (linked_code mend_code) (unit_index mend_unit mend_on)
    (standing_code (mend_standing more))
unit_linked more =
    let over = OffsetAhead a1 5 ∷ condition_given C.FixedOverflow
    ∷ small a7 28 ∷ Plain I.Ecall ∷ JumpAhead (size_of (standing_code (mend_standing more))) ∷ [] in
    back_of over (standing_code (mend_standing more))
    (back_of (act_code 4) (over ++ standing_code (mend_standing more)) on_linked)

abbrev again_setting : (input : List ℕ) → (more : ℕ) → Setting
again_setting input more = setting_of (behind_block input (suc more)) [] 6 200

raised_is :
    (input : List ℕ) (more : ℕ) → suc more + 1 < 2 ^ 64 → IsBegun (mend_block input (suc more)) →
    IsRaised (again_setting input more) (mend_standing more) more
raised_is input more few b =
    let k = mend_block input (suc more) in
    let h = on_is input (suc more) few b in
    record {
      begun = unit_begun k mend_unit mend_on h;
      routines = routines;
      by = _;
      force = refl;
      parent = (omega arith, refl);
      room = omega arith;
      shallow = refl;
      only = λ at stands. only_place (unit_of mend_unit) (4 * unit_index mend_unit mend_on) at stands;
      some = omega arith;
      stands = unit_linked more;
      labels = (λ label e. absurd (cc e), λ label e. absurd (cc e));
      kind = inr refl;
      level = omega arith;
      line = omega arith;
      saved = omega arith;
      acts = few;
      enter = refl;
      around = refl;
      enough = omega arith;
      most = omega arith;
    }

-- its statement, wherever it is raised
unit_each :
    (input : List ℕ) (more : ℕ) (few : suc more + 1 < 2 ^ 64) (b : IsBegun (mend_block input (suc more))) →
    UnitDoes (again_setting input more) (mend_standing more) more (raised_is input more few b)
unfolding raised_is
unit_each input more few b r is =
    let k = again_setting input more in
    let x = mend_standing more in
    let h = raised_is input more few b in
    let u = unit_block k x r in
    let n = linked_length (links_of mend_code) 0 mend_code in
    let made = none_made k x r (record { kind = inr (refl, refl); code = refl; made = refl }) in (
      made,
      λ b'. (
        assign_does u [] mend_spot (Y.NumberConstant 1) 5 (list_index x) left_over 0 100
            (record {
              act = record { line_fits = omega arith; acts = few };
              begun = b';
              number = outer_number k x more h r mend_spot
                  (record { own = refl; level = refl; inner = refl; program = refl; parts = refl }) is made b'
                  (omega arith) (behind_number input (suc more));
              registers = omega arith;
              held = omega arith;
              statement = front_of (stmt_code x.environment none_taken mend_one) []
                  (front_of (S.list_code x) (unit_mark mend_unit.head Y.UnitBlock ++ unit_left x.words x.saved)
                  (back_of (act_code 4) _ (back_of x.variables _ (back_of (S.begin_of x) _ (unit_linked more)))));
              paid = omega (arith, n);
            })
            (constant_does (setting_of u [] 5 100) 1 (omega arith)),
        tt,
      ),
    )

-- ---- its statements

first_does :
    (input : List ℕ) (acts : ℕ) → acts + 1 < 2 ^ 64 → IsBegun (mend_block input acts) →
    Does (mend_block input acts) [] mend_first mend_start left_over
first_does input acts few b =
    let k = mend_block input acts in
    let n = linked_length (links_of mend_code) 0 mend_code in
    assign_does k [] mend_spot (Y.NumberConstant 2147483647) 3 mend_start left_over 0 100
    (record {
      act = record { line_fits = omega arith; acts = few };
      begun = b;
      number = mend_number input acts;
      registers = omega arith;
      held = omega arith;
      statement = front_of (stmt_code mend_environment none_taken mend_first)
          (stmts_code mend_environment none_taken mend_rest) body_linked;
      paid = omega (arith, n);
    })
    (constant_does (setting_of k [] 3 100) 2147483647 (omega arith))

-- the sum overflows, and what is subtracted is read behind the unit
again_does :
    (input : List ℕ) (acts : ℕ) → acts + 1 < 2 ^ 64 → IsBegun (mend_block input acts) →
    Does (behind_block input acts) [] mend_again last_index left_over
again_does input zero few b =
    none_does (behind_block input zero) [] mend_again last_index left_over
    (unit_begun (mend_block input zero) mend_unit mend_on (on_is input zero few b)) refl
again_does input (suc more) few b =
    let k = behind_block input (suc more) in
    let six = again_setting input more in
    let n = linked_length (links_of mend_code) 0 mend_code in
    let b' = unit_begun (mend_block input (suc more)) mend_unit mend_on (on_is input (suc more) few b) in
    let over : OverflowComes six = overflow_returns six (mend_standing more) more (raised_is input more few b)
    (unit_each input more few b) refl in
    let operand = variable_does six mend_spot b' (behind_number input (suc more)) in
    assign_does k [] mend_spot mend_less 6 last_index left_over 1 200
    (record {
      act = record { line_fits = omega arith; acts = few };
      begun = b';
      number = behind_number input (suc more);
      registers = omega arith;
      held = omega arith;
      statement = front_of (stmt_code mend_environment none_taken mend_again) [] last_linked;
      paid = omega (arith, n);
    })
    (difference_does six mend_twice (Y.NumberIn (whole mend_spot)) 1 0 over
    (sum_does six (Y.NumberIn (whole mend_spot)) (Y.NumberIn (whole mend_spot)) 0 0 over operand operand) operand)

pub mend_does :
    (input : List ℕ) (acts : ℕ) → acts + 1 < 2 ^ 64 → IsBegun (mend_block input acts) →
    BodyDoes (mend_block input acts) mend_body mend_start left_over
mend_does input acts few b =
    let k = mend_block input acts in
    let h = on_is input acts few b in
    first_ends k mend_first mend_rest mend_start left_over
    (record {
      body = record {
        begun = b;
        linked = body_linked;
        end = refl;
        function = refl;
        kind = refl;
        registers = omega arith;
        outers = refl;
        enough = omega arith;
      };
      does = first_does input acts few b;
      goes = on_ends k mend_unit mend_end mend_on left_over
          (record {
            body = record {
              begun = b;
              linked = rest_linked;
              end = refl;
              function = refl;
              kind = refl;
              registers = omega arith;
              outers = refl;
              enough = omega arith;
            };
            on = h;
            goes = list_ends (behind_block input acts) mend_end last_index left_over
                (record {
                  begun = unit_begun k mend_unit mend_on h;
                  linked = last_linked;
                  end = refl;
                  function = refl;
                  kind = refl;
                  registers = omega arith;
                  outers = refl;
                  enough = omega arith;
                })
                (λ label e. absurd (cc e), λ label e. absurd (cc e)) (again_does input acts few b, tt);
          });
    })

-- ---- the whole

pub mend_is : (input first : List ℕ) (acts : ℕ) → acts + 1 < 2 ^ 64 → length first ≡ memory_size →
    IsWhole (mend_whole input acts) first
mend_is input first acts few bytes =
    let l = back_of (first_frame image_parts) (main_called 0) start_linked in
    record {
      start = record { linked = start_linked; differ = one_differs; bytes = bytes; told = λ n v e. absurd (cc e) };
      made = one_made (surroundings_of (mend_image input acts)) (linked_code mend_code)
          (main_of (mend_whole input acts)) (start_point (mend_image input acts)) no_numbers W.number_declared
          (mend_only input acts);
      callee = record {
        coded = record { level = omega arith; line = omega arith; saved = omega arith; back = omega arith };
        calls = first_of (CallTo (ProcedureEntry 0)) _ (rest_of _ _ (rest_of _ _ (rest_of _ _ l)));
        place = refl;
        stands = main_linked;
        end = refl;
        kind = refl;
        labels = (
          λ label e. absurd (cc e),
          (λ label e. absurd (cc e), (λ label e. absurd (cc e), λ label e. absurd (cc e))),
        );
        acts = few;
      };
      room = record { room = omega arith; shallow = refl; parent = tt; idle = refl };
      level = refl;
      procedures = refl;
      statics = refl;
    }

pub mend_runs :
    Keeps run_keeper → (input first : List ℕ) (acts : ℕ) → acts + 1 < 2 ^ 64 → length first ≡ memory_size →
    Comes (linked_code mend_code) 0 (first_family first (services_of (start_point (mend_image input acts))))
    (services_of (start_point (mend_image input acts))) (never_in (mend_image input acts))
    (run mend_program (suc acts) acts (first_state input))
mend_runs keeps input first acts few bytes =
    unit_program_runs keeps (mend_whole input acts) first (mend_is input first acts few bytes)
    (λ b. mend_does input acts few b)

-- ---- what the program comes to

unfoldable flows : Unit {0}
unfolding F.give F.◌>>=◌ F.◌>>◌ F.looked F.stored F.act F.finish F.returns F.jumps F.choose F.given F.list_from
    F.leaving
flows = tt

unfoldable values : Unit {0}
unfolding V.number V.designated V.located V.numbers V.variable_designated V.part_designated V.stored_value R.or_error
    R.demanded R.value_of R.raised R.unit_run R.error R.error_unit_run P.element_stored M.assigned
values = tt

unfoldable makings : Unit {0}
unfolding K.variables_made K.automatic_made K.extents K.variable_made K.parameters_bound
makings = tt

unfoldable statements : Unit {0}
unfolding M.statement M.statements M.list M.list_with M.block_variables_made M.entry_act M.block_list M.block_body
    M.established_by
statements = tt

pub mend_ends :
    (input : List ℕ) →
    M.meaning mend_program input 8
    ≡ Some (record { acts = 8; output = []; raised = (C.FixedOverflow, 20) ∷ []; end = E.Finished })
unfolding M.meaning M.run M.entered M.block_run flows values makings statements
mend_ends input = refl
