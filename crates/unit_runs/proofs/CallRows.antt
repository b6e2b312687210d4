-- The worked row: all that is premised of the program is computed.
use Rattle.std.proofs.Common.{◌≡◌, ℕ, zero, suc, ◌+◌, ◌-◌, ◌*◌, ◌^◌, ◌<◌, ◌≤◌, List, [], ◌∷◌, ◌++◌, length, map}
use Rattle.std.proofs.Common.{Some, inl, inr, true, refl, sym, ap, subst, arith}
use Rattle.std.specs.Prelude.{nat_lt}
use Rattle.rv_meaning.specs.declared.instr.Instr.TheVariants as I
use Rattle.rv_meaning.specs.Machine.{memory_size}
use Rattle.pli_language.specs.declared.condition.Condition.TheVariants as C
use Rattle.pli_typing.specs.TypedTree as Y
use Rattle.pli_meaning.specs.declared.outcome.End.TheVariants as E
use Rattle.pli_meaning.specs.Control as F
use Rattle.pli_meaning.specs.Evaluating as V
use Rattle.pli_meaning.specs.Executing as M
use Rattle.pli_meaning.specs.Executing.{begun, entered, run}
use Rattle.pli_meaning.specs.Making as K
use Rattle.pli_meaning.specs.Placing as Pl
use Rattle.pli_meaning.specs.Raising as R
use Rattle.pli_meaning.specs.StorageState.{first_state, force, most_activations}
use Rattle.area_keeper.specs.KeeperLaws.{Keeps}
use Rattle.run_keeper.specs.RunKeeper.{run_keeper}
use Rattle.pli_serving.specs.Templates.{template_of}
use Rattle.pli_coding.specs.Allocating.{act_code}
use Rattle.pli_coding.specs.Assembly.{CallTo, JumpAhead, Mark, OffsetAhead, Plain, ProcedureEntry, ReturnPlace, size_of}
use Rattle.pli_coding.specs.Environments.{none_taken}
use Rattle.pli_coding.specs.Images.{first_frame, linked_code, raise_code}
use Rattle.pli_coding.specs.Frames.{fixed_size, temporary_bytes}
use Rattle.pli_coding.specs.Instructions.{small}
use Rattle.pli_coding.specs.Linking.{links_of}
use Rattle.pli_coding.specs.Registers.{a1, a7}
use Rattle.pli_coding.specs.SignatureTable.{table_of}
use Rattle.pli_coding.specs.Statements.{stmt_code, stmts_code, unit_environment, unit_held, unit_variables}
use Rattle.pli_coding.specs.Statements.{condition_given, unit_left, unit_mark, unit_words}
use Rattle.storage_relation.specs.Served.{AllDiffer}
use Rattle.activation_relation.specs.Chains.{HasParent}
use Rattle.activation_relation.specs.Frames.{lower_end}
use Rattle.activation_relation.specs.Layers.{Point, services_of}
use Rattle.run_steps.specs.Items.{Linked}
use Rattle.run_steps.proofs.Jumps.{back_of, first_of, front_of, rest_of}
use Rattle.run_steps.proofs.Linking.{has_items, linked_length}
use Rattle.run_steps.specs.Reach.{Comes}
use Rattle.block_runs.proofs.CallStatements.{given_code}
use Rattle.program_runs.specs.Calls.{AreMade, Callee, IsCallee, block_at, body_index, left_over}
use Rattle.program_runs.specs.Procedures.{begin_of, block_of, end_of, frame_for, procedure_code}
use Rattle.program_runs.specs.Programs.{IsWhole, Whole, main_of}
use Rattle.program_runs.specs.Starts.{first_family, image_parts, main_called, no_numbers, start_of, start_point}
use Rattle.program_runs.specs.Starts.{never_in}
use Rattle.program_runs.specs.Starts.{surroundings_of}
use Rattle.program_runs.specs.Rows.{row_head}
use Rattle.program_runs.specs.Statements.{Block, Does, EachDoes, IsAmong, IsBegun}
use Rattle.program_runs.specs.Variables as D
use Rattle.program_runs.specs.Variables.{IsOnly, newest_made}
use Rattle.program_runs.specs.VariableRows as W
use Rattle.program_runs.proofs.Calls as P
use Rattle.program_runs.proofs.CallStatements.{call_does, statement_at}
use Rattle.program_runs.proofs.Rows.{is_datum, names_none, none_named}
use Rattle.program_runs.proofs.Statements.{none_does}
use Rattle.program_runs.proofs.VariableProcedures.{one_made}
use Rattle.program_runs.proofs.VariableRows.{differs_alone, number_valued}
use Rattle.expression_runs.specs.Assignments.{setting_of}
use Rattle.expression_runs.specs.Raises.{Routines}
use Rattle.expression_runs.specs.Values.{OverflowComes, Setting}
use Rattle.expression_runs.specs.Variables.{IsNumber, whole}
use Rattle.expression_runs.proofs.Assignments.{assign_does}
use Rattle.expression_runs.proofs.Operands.{constant_does}
use Rattle.expression_runs.proofs.Sums.{difference_does, sum_does}
use Rattle.expression_runs.proofs.VariablePoints.{variable_does}
use Rattle.function_runs.proofs.OuterVariables.{procedure_number}
use Rattle.unit_runs.specs.Bodies.{BodyDoes}
use Rattle.unit_runs.specs.CallRows.{inner_body, inner_coded, inner_entry, inner_environment, inner_stmt, lend_body}
use Rattle.unit_runs.specs.CallRows.{lend_call, lend_code, lend_end, lend_entry, lend_environment, lend_first}
use Rattle.unit_runs.specs.CallRows.{lend_image, lend_inner, lend_less, lend_main, lend_on, lend_one, lend_procedure}
use Rattle.unit_runs.specs.CallRows.{lend_program, lend_rest, lend_spot, lend_start, lend_twice, lend_unit, main_coded}
use Rattle.unit_runs.specs.Establishing.{IsOn, behind_on, on_of, unit_index, unit_of}
use Rattle.unit_runs.specs.Raised as S
use Rattle.unit_runs.specs.Raised.{IsRaised, Standing, UnitDoes, list_index, standing_code, unit_block}
use Rattle.unit_runs.proofs.Bodies.{first_ends, list_ends, on_ends, unit_program_runs}
use Rattle.unit_runs.proofs.Establishing.{unit_begun, unit_numbers}
use Rattle.unit_runs.proofs.FurtherVariables.{further_number}
use Rattle.unit_runs.proofs.Rows.{only_place}
use Rattle.unit_runs.proofs.UnitRuns.{overflow_returns}
use Rattle.unit_runs.proofs.UnitVariables.{none_made}

-- ---- its code

lend_linked : Linked (links_of lend_code) (linked_code lend_code) 0 lend_code
unfolding names_none is_datum
lend_linked =
    let n = linked_length (links_of lend_code) 0 lend_code in
    record {
      small' = omega (arith, n);
      inside = omega (arith, n);
      has = has_items (links_of lend_code) lend_code refl;
      named = λ d h. absurd (none_named d lend_code refl h);
    }

start_linked : Linked (links_of lend_code) (linked_code lend_code) 0 (start_of 0)
start_linked = front_of (start_of 0) (raise_code ++ (main_coded ++ inner_coded)) lend_linked

raise_linked : Linked (links_of lend_code) (linked_code lend_code) (size_of (start_of 0)) raise_code
raise_linked =
    front_of raise_code (main_coded ++ inner_coded)
    (back_of (start_of 0) (raise_code ++ (main_coded ++ inner_coded)) lend_linked)

both_linked : Linked (links_of lend_code) (linked_code lend_code) lend_entry (main_coded ++ inner_coded)
both_linked =
    back_of raise_code (main_coded ++ inner_coded)
    (back_of (start_of 0) (raise_code ++ (main_coded ++ inner_coded)) lend_linked)

main_linked :
    Linked (links_of lend_code) (linked_code lend_code) lend_entry (procedure_code lend_environment lend_main)
main_linked =
    rest_of (Mark (ProcedureEntry 0)) (procedure_code lend_environment lend_main)
    (front_of main_coded inner_coded both_linked)

inner_linked :
    Linked (links_of lend_code) (linked_code lend_code) inner_entry (procedure_code inner_environment lend_inner)
inner_linked =
    rest_of (Mark (ProcedureEntry 1)) (procedure_code inner_environment lend_inner)
    (back_of main_coded inner_coded both_linked)

abbrev inner_start : ℕ
inner_start = inner_entry + size_of (begin_of lend_inner) + 0 + size_of (act_code 2)

inner_body_linked :
    Linked (links_of lend_code) (linked_code lend_code) inner_start
    (stmts_code inner_environment none_taken inner_body)
inner_body_linked =
    let one = act_code 2 in
    let body = stmts_code inner_environment none_taken inner_body in
    let tail = Mark (ReturnPlace 1) ∷ end_of lend_inner in
    let rest = one ++ (body ++ tail) in
    front_of body tail (back_of one (body ++ tail) (back_of [] rest (back_of (begin_of lend_inner) rest inner_linked)))

abbrev pub lend_finish : ℕ
lend_finish = lend_start + size_of (stmts_code lend_environment none_taken lend_body)

body_linked :
    Linked (links_of lend_code) (linked_code lend_code) lend_start
    (stmts_code lend_environment none_taken lend_body)
body_linked =
    let one = act_code 1 in
    let body = stmts_code lend_environment none_taken lend_body in
    let tail = Mark (ReturnPlace 0) ∷ end_of lend_main in
    let rest = one ++ (body ++ tail) in
    front_of body tail
    (back_of one (body ++ tail)
    (back_of lend_main.variables rest (back_of (begin_of lend_main) (lend_main.variables ++ rest) main_linked)))

rest_linked :
    Linked (links_of lend_code) (linked_code lend_code) lend_on (stmts_code lend_environment none_taken lend_rest)
rest_linked =
    back_of (stmt_code lend_environment none_taken lend_first) (stmts_code lend_environment none_taken lend_rest)
    body_linked

on_linked :
    Linked (links_of lend_code) (linked_code lend_code) lend_on
    (stmt_code lend_environment none_taken (on_of lend_unit))
on_linked =
    front_of (stmt_code lend_environment none_taken (on_of lend_unit))
    (stmts_code lend_environment none_taken lend_end) rest_linked

abbrev last_index : ℕ
last_index = lend_on + size_of (stmt_code lend_environment none_taken (on_of lend_unit))

last_linked :
    Linked (links_of lend_code) (linked_code lend_code) last_index (stmts_code lend_environment none_taken lend_end)
last_linked =
    back_of (stmt_code lend_environment none_taken (on_of lend_unit)) (stmts_code lend_environment none_taken lend_end)
    rest_linked

-- ---- its variable

one_differs : AllDiffer (map template_of (table_of lend_program))
one_differs = differs_alone (map template_of (table_of lend_program)) _ refl refl

abbrev pub lend_whole : (input : List ℕ) → (acts : ℕ) → Whole
lend_whole input acts =
    record {
      image = lend_image input acts;
      program = lend_program;
      main = lend_main;
      others = lend_procedure ∷ [];
      environment = lend_environment;
      entry = lend_entry;
      end = lend_finish;
      made = newest_made image_parts W.number_declared;
    }

lend_only :
    (input : List ℕ) (acts : ℕ) →
    IsOnly (surroundings_of (lend_image input acts)) (main_of (lend_whole input acts))
    (start_point (lend_image input acts)) no_numbers W.number_declared
lend_only input acts =
    let n = linked_length (links_of lend_code) 0 lend_code in
    record {
      kind = refl;
      variables = refl;
      class = refl;
      evaluations = refl;
      first = refl;
      code = refl;
      made = refl;
      table = refl;
      parts = refl;
      few = omega arith;
      declared = record {
        newest = refl;
        here = refl;
        holds = omega arith;
        size = omega arith;
        fits = omega arith;
        even = refl;
        low = omega (arith, n);
        shape = refl;
        number = omega arith;
        initial = refl;
        none = refl;
        plain = refl;
        fixed = refl;
        values = (tt, tt);
        valued = number_valued;
        limit = refl;
      };
    }

abbrev pub lend_block : (input : List ℕ) → (acts : ℕ) → Block
lend_block input acts =
    block_at (surroundings_of (lend_image input acts)) (linked_code lend_code) (main_of (lend_whole input acts))
    (start_point (lend_image input acts)) no_numbers

lend_number : (input : List ℕ) (acts : ℕ) → IsNumber (lend_block input acts) lend_spot
lend_number input acts =
    record {
      initial = [];
      declared = refl;
      serial = 1;
      binding = refl;
      living = K.living_at 1 1 (D.generation_for W.number_declared);
      lives = refl;
      shape = refl;
      base = _;
      frame = inl (refl, refl);
      at = refl;
      low = omega arith;
      inside = omega arith;
    }

-- ---- the block behind the ON

abbrev pub behind_block : (input : List ℕ) → (acts : ℕ) → Block
behind_block input acts = behind_on (lend_block input acts) lend_unit lend_on

on_is :
    (input : List ℕ) (acts : ℕ) → acts + 1 < 2 ^ 64 → IsBegun (lend_block input acts) →
    IsOn (lend_block input acts) lend_unit lend_on
on_is input acts few b =
    record {
      act = record { line_fits = omega arith; acts = few };
      begun = b;
      statement = on_linked;
      place = (0, refl);
    }

behind_number : (input : List ℕ) (acts : ℕ) → IsNumber (behind_block input acts) lend_spot
behind_number input acts = unit_numbers (lend_block input acts) lend_unit lend_on lend_spot (lend_number input acts)

-- ---- its unit

abbrev pub lend_standing : (more : ℕ) → Standing
lend_standing more =
    record {
      unit = lend_unit;
      words = unit_words lend_environment lend_unit.head Y.UnitBlock lend_unit.body;
      saved = unit_held lend_environment lend_unit.head Y.UnitBlock lend_unit.body;
      variables = unit_variables (unit_environment lend_unit.head lend_environment) lend_unit.head Y.UnitBlock;
      entry = unit_index lend_unit lend_on;
      environment = unit_environment lend_unit.head lend_environment;
      around = record { program = lend_program; enter = entered lend_program more; turns = suc more; line = 0 };
      made = λ q. q;
    }

abbrev routines : Routines (links_of lend_code) (linked_code lend_code)
routines = record { at = size_of (start_of 0); linked = raise_linked; condition = refl; end = omega arith }

unit_linked :
    (more : ℕ) →
    Linked (links_of lend_code) (linked_code lend_code) (unit_index lend_unit lend_on)
    (standing_code (lend_standing more))
unit_linked more =
    let over = OffsetAhead a1 5 ∷ condition_given C.FixedOverflow
    ∷ small a7 28 ∷ Plain I.Ecall ∷ JumpAhead (size_of (standing_code (lend_standing more))) ∷ [] in
    back_of over (standing_code (lend_standing more))
    (back_of (act_code 5) (over ++ standing_code (lend_standing more)) on_linked)

-- ---- the procedure

abbrev lend_callee : (more : ℕ) → Callee
lend_callee more =
    record {
      procedure = lend_inner;
      calling = record {
        parent = 1;
        call = last_index + size_of (stmt_code lend_environment none_taken lend_call) - 2;
        entry = inner_entry;
        end = inner_start + size_of (stmts_code inner_environment none_taken inner_body);
      };
      environment = inner_environment;
      made = λ q. q;
      around = record { program = lend_program; enter = entered lend_program more; turns = suc more; line = 0 };
    }

abbrev inner_block : (input : List ℕ) → (acts more : ℕ) → Point → (numbers : ℕ → ℕ) → Block
inner_block input acts more p numbers =
    block_at (surroundings_of (lend_image input acts)) (linked_code lend_code) (lend_callee more) p numbers

inner_made :
    (input : List ℕ) (acts more : ℕ) (p : Point) (numbers : ℕ → ℕ) →
    AreMade (surroundings_of (lend_image input acts)) (linked_code lend_code) (lend_callee more) p numbers
inner_made input acts more p numbers =
    P.none_made (surroundings_of (lend_image input acts)) (linked_code lend_code) (lend_callee more) p numbers refl refl
    (refl, refl)

inner_number :
    (input : List ℕ) (acts more : ℕ) (p : Point) (numbers : ℕ → ℕ) → IsBegun (behind_block input acts) →
    IsAmong (behind_block input acts) numbers p → IsBegun (inner_block input acts more p numbers) →
    IsNumber (inner_block input acts more p numbers) lend_spot
inner_number input acts more p numbers b o b' =
    procedure_number (behind_block input acts) (lend_callee more) lend_spot
    (record {
      begun = b;
      level = refl;
      parent = refl;
      inner = refl;
      further = omega arith;
      few = omega arith;
      program = refl;
      parts = refl;
    }) (behind_number input acts) p numbers o (inner_made input acts more p numbers) b'

abbrev inner_setting : (input : List ℕ) → (more : ℕ) → Point → (numbers : ℕ → ℕ) → Setting
inner_setting input more p numbers = setting_of (inner_block input (suc (suc more)) (suc more) p numbers) [] 3 200

-- the unit of the main procedure is in force in it
raised_is :
    (input : List ℕ) (more : ℕ) (p : Point) (numbers : ℕ → ℕ) → suc (suc more) + 1 < 2 ^ 64 →
    IsAmong (behind_block input (suc (suc more))) numbers p →
    IsBegun (inner_block input (suc (suc more)) (suc more) p numbers) →
    IsRaised (inner_setting input more p numbers) (lend_standing more) more
raised_is input more p numbers few o b' =
    let as' = o.later.activations in
    let ls = o.later.layers in
    let acts = o.later.acts in
    let parts = image_parts in
    let x = lend_standing more in
    record {
      begun = b';
      routines = routines;
      by = _;
      force = ap (λ xs. force xs C.FixedOverflow) as';
      parent = subst (λ xs. HasParent 1 1 (M.activation_of (row_head 1 1 2) (begun (block_of lend_inner) 1)
          (length xs + 1) ∷ xs)) (sym as') (omega arith, refl);
      room = subst (λ φs. frame_for parts φs lend_inner + fixed_size 1 0 + temporary_bytes x.words + fixed_size 1 0
          ≤ lower_end parts φs) (sym ls) (omega arith);
      shallow = subst (λ xs. nat_lt (suc (length xs)) most_activations ≡ true) (sym as') refl;
      only = λ at stands. only_place (unit_of lend_unit) (4 * unit_index lend_unit lend_on) at stands;
      some = omega arith;
      stands = unit_linked more;
      labels = (λ label e. absurd (cc e), λ label e. absurd (cc e));
      kind = inr refl;
      level = omega arith;
      line = omega arith;
      saved = omega arith;
      acts = few;
      enter = refl;
      around = refl;
      enough = omega (arith, acts);
      most = omega arith;
    }

-- its statement, wherever it is raised
unit_each :
    (input : List ℕ) (more : ℕ) (p : Point) (numbers : ℕ → ℕ) (few : suc (suc more) + 1 < 2 ^ 64)
    (b : IsBegun (behind_block input (suc (suc more))))
    (o : IsAmong (behind_block input (suc (suc more))) numbers p)
    (b' : IsBegun (inner_block input (suc (suc more)) (suc more) p numbers)) →
    UnitDoes (inner_setting input more p numbers) (lend_standing more) more
    (raised_is input more p numbers few o b')
unfolding raised_is
unit_each input more p numbers few b o b' r is =
    let k = inner_setting input more p numbers in
    let main = behind_block input (suc (suc more)) in
    let x = lend_standing more in
    let h = raised_is input more p numbers few o b' in
    let u = unit_block k x r in
    let n = linked_length (links_of lend_code) 0 lend_code in
    let made = none_made k x r (record { kind = inr (refl, refl); code = refl; made = refl }) in (
      made,
      λ b''. (
        assign_does u [] lend_spot (Y.NumberConstant 1) 6 (list_index x) left_over 0 100
            (record {
              act = record { line_fits = omega arith; acts = few };
              begun = b'';
              number = further_number k x more h r lend_spot main p numbers 1
                  (record {
                    begun = b;
                    among = o;
                    activations = refl;
                    layers = refl;
                    remains = b'.remains;
                    own = refl;
                    level = refl;
                    inner = refl;
                    program = refl;
                    parts = refl;
                  }) is made b'' (omega arith) (behind_number input (suc (suc more)));
              registers = omega arith;
              held = omega arith;
              statement = front_of (stmt_code x.environment none_taken lend_one) []
                  (front_of (S.list_code x) (unit_mark lend_unit.head Y.UnitBlock ++ unit_left x.words x.saved)
                  (back_of (act_code 5) _ (back_of x.variables _ (back_of (S.begin_of x) _ (unit_linked more)))));
              paid = omega (arith, n);
            })
            (constant_does (setting_of u [] 6 100) 1 (omega arith)),
        tt,
      ),
    )

-- where no second act is allowed it isn't called
inner_each :
    (input : List ℕ) (more : ℕ) (p : Point) (numbers : ℕ → ℕ) → suc more + 1 < 2 ^ 64 →
    IsBegun (behind_block input (suc more)) → IsAmong (behind_block input (suc more)) numbers p →
    IsBegun (inner_block input (suc more) more p numbers) →
    EachDoes (inner_block input (suc more) more p numbers) [] inner_body (body_index (lend_callee more)) left_over
inner_each input zero p numbers few b o b' =
    let allowed = b'.resumes.stands.allowed in
    let acts = o.later.acts in
    absurd (omega (arith, allowed, acts))
inner_each input (suc more) p numbers few b o b' =
    let k = inner_block input (suc (suc more)) (suc more) p numbers in
    let three = inner_setting input more p numbers in
    let n = linked_length (links_of lend_code) 0 lend_code in
    let number = inner_number input (suc (suc more)) (suc more) p numbers b o b' in
    let over : OverflowComes three = overflow_returns three (lend_standing more) more
    (raised_is input more p numbers few o b') (unit_each input more p numbers few b o b') refl in
    let operand = variable_does three lend_spot b' number in (
      assign_does k [] lend_spot lend_less 3 inner_start left_over 1 200
          (record {
            act = record { line_fits = omega arith; acts = few };
            begun = b';
            number = number;
            registers = omega arith;
            held = omega arith;
            statement = front_of (stmt_code inner_environment none_taken inner_stmt) [] inner_body_linked;
            paid = omega (arith, n);
          })
          (difference_does three lend_twice (Y.NumberIn (whole lend_spot)) 1 0 over
          (sum_does three (Y.NumberIn (whole lend_spot)) (Y.NumberIn (whole lend_spot)) 0 0 over operand operand)
          operand),
      tt,
    )

-- ---- the statements of the main procedure

first_does :
    (input : List ℕ) (acts : ℕ) → acts + 1 < 2 ^ 64 → IsBegun (lend_block input acts) →
    Does (lend_block input acts) [] lend_first lend_start left_over
first_does input acts few b =
    let k = lend_block input acts in
    let n = linked_length (links_of lend_code) 0 lend_code in
    assign_does k [] lend_spot (Y.NumberConstant 2147483647) 4 lend_start left_over 0 100
    (record {
      act = record { line_fits = omega arith; acts = few };
      begun = b;
      number = lend_number input acts;
      registers = omega arith;
      held = omega arith;
      statement = front_of (stmt_code lend_environment none_taken lend_first)
          (stmts_code lend_environment none_taken lend_rest) body_linked;
      paid = omega (arith, n);
    })
    (constant_does (setting_of k [] 4 100) 2147483647 (omega arith))

call_linked :
    Linked (links_of lend_code) (linked_code lend_code) last_index (stmt_code lend_environment none_taken lend_call)
call_linked = front_of (stmt_code lend_environment none_taken lend_call) [] last_linked

callee_is :
    (input : List ℕ) (acts more : ℕ) → acts + 1 < 2 ^ 64 →
    IsCallee (surroundings_of (lend_image input acts)) (linked_code lend_code) (lend_callee more)
callee_is input acts more few =
    let one = act_code 7 in
    let given' = given_code (statement_at (lend_block input acts) (lend_callee more) 7 0
    (start_point (lend_image input acts)) no_numbers) in
    let last = CallTo (ProcedureEntry 1) ∷ [] in
    record {
      coded = record { level = omega arith; line = omega arith; saved = omega arith; back = omega arith };
      calls = back_of given' last (back_of one (given' ++ last) call_linked);
      place = refl;
      stands = inner_linked;
      end = refl;
      kind = refl;
      labels = (λ label e. absurd (cc e), λ label e. absurd (cc e));
      acts = few;
    }

call_by :
    (input : List ℕ) (acts : ℕ) → acts + 1 < 2 ^ 64 → IsBegun (behind_block input acts) →
    Does (behind_block input acts) [] lend_call last_index left_over
call_by input zero few b = none_does (behind_block input zero) [] lend_call last_index left_over b refl
call_by input (suc more) few b =
    call_does (behind_block input (suc more)) (lend_callee more) 7 last_index left_over more
    (record {
      line_fits = omega arith;
      callee = callee_is input (suc more) more few;
      room = record { room = omega arith; shallow = refl; parent = (omega arith, refl); idle = refl };
      statement = call_linked;
      call = refl;
      level = refl;
      parent = refl;
      found = refl;
      enter = refl;
      around = refl;
      enough = omega arith;
    })
    (λ p numbers o. inner_made input (suc more) more p numbers)
    (λ p numbers o b'. inner_each input more p numbers few b o b') b []

pub lend_does :
    (input : List ℕ) (acts : ℕ) → acts + 1 < 2 ^ 64 → IsBegun (lend_block input acts) →
    BodyDoes (lend_block input acts) lend_body lend_start left_over
lend_does input acts few b =
    let k = lend_block input acts in
    let h = on_is input acts few b in
    first_ends k lend_first lend_rest lend_start left_over
    (record {
      body = record {
        begun = b;
        linked = body_linked;
        end = refl;
        function = refl;
        kind = refl;
        registers = omega arith;
        outers = refl;
        enough = omega arith;
      };
      does = first_does input acts few b;
      goes = on_ends k lend_unit lend_end lend_on left_over
          (record {
            body = record {
              begun = b;
              linked = rest_linked;
              end = refl;
              function = refl;
              kind = refl;
              registers = omega arith;
              outers = refl;
              enough = omega arith;
            };
            on = h;
            goes = list_ends (behind_block input acts) lend_end last_index left_over
                (record {
                  begun = unit_begun k lend_unit lend_on h;
                  linked = last_linked;
                  end = refl;
                  function = refl;
                  kind = refl;
                  registers = omega arith;
                  outers = refl;
                  enough = omega arith;
                })
                (λ label e. absurd (cc e), λ label e. absurd (cc e))
                (call_by input acts few (unit_begun k lend_unit lend_on h), tt);
          });
    })

-- ---- the whole

pub lend_is : (input first : List ℕ) (acts : ℕ) → acts + 1 < 2 ^ 64 → length first ≡ memory_size →
    IsWhole (lend_whole input acts) first
lend_is input first acts few bytes =
    let l = back_of (first_frame image_parts) (main_called 0) start_linked in
    record {
      start = record { linked = start_linked; differ = one_differs; bytes = bytes; told = λ n v e. absurd (cc e) };
      made = one_made (surroundings_of (lend_image input acts)) (linked_code lend_code)
          (main_of (lend_whole input acts)) (start_point (lend_image input acts)) no_numbers W.number_declared
          (lend_only input acts);
      callee = record {
        coded = record { level = omega arith; line = omega arith; saved = omega arith; back = omega arith };
        calls = first_of (CallTo (ProcedureEntry 0)) _ (rest_of _ _ (rest_of _ _ (rest_of _ _ l)));
        place = refl;
        stands = main_linked;
        end = refl;
        kind = refl;
        labels = (
          λ label e. absurd (cc e),
          (λ label e. absurd (cc e), (λ label e. absurd (cc e), λ label e. absurd (cc e))),
        );
        acts = few;
      };
      room = record { room = omega arith; shallow = refl; parent = tt; idle = refl };
      level = refl;
      procedures = refl;
      statics = refl;
    }

pub lend_runs :
    Keeps run_keeper → (input first : List ℕ) (acts : ℕ) → acts + 1 < 2 ^ 64 → length first ≡ memory_size →
    Comes (linked_code lend_code) 0 (first_family first (services_of (start_point (lend_image input acts))))
    (services_of (start_point (lend_image input acts))) (never_in (lend_image input acts))
    (run lend_program (suc acts) acts (first_state input))
lend_runs keeps input first acts few bytes =
    unit_program_runs keeps (lend_whole input acts) first (lend_is input first acts few bytes)
    (λ b. lend_does input acts few b)

-- ---- what the program comes to

unfoldable flows : Unit {0}
unfolding F.give F.◌>>=◌ F.◌>>◌ F.looked F.stored F.act F.finish F.returns F.jumps F.choose F.given F.list_from
    F.leaving
flows = tt

unfoldable values : Unit {0}
unfolding V.number V.designated V.located V.numbers V.variable_designated V.part_designated V.stored_value R.or_error
    R.demanded R.value_of R.raised R.unit_run R.error R.error_unit_run Pl.element_stored M.assigned
values = tt

unfoldable calls : Unit {0}
unfolding V.called V.arguments V.all_passed_last V.procedure_entered V.returned K.variables_made K.automatic_made
    K.extents K.variable_made K.parameters_bound
calls = tt

unfoldable statements : Unit {0}
unfolding M.statement M.statements M.list M.list_with M.block_variables_made M.entry_act M.block_list M.block_body
    M.established_by
statements = tt

pub lend_ends :
    (input : List ℕ) →
    M.meaning lend_program input 10
    ≡ Some (record { acts = 10; output = []; raised = (C.FixedOverflow, 20) ∷ []; end = E.Finished })
unfolding M.meaning M.run M.entered M.block_run flows values calls statements
lend_ends input = refl
