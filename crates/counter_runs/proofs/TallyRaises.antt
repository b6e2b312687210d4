-- The worked row of a DO that counts in an element: its unit, which is raised in two blocks, and its function.
use Rattle.std.proofs.Common.{List, Option}
use Rattle.std.proofs.Common.{[], ap, arith}
use Rattle.std.proofs.Common.{inr, length}
use Rattle.std.proofs.Common.{refl, subst, suc, sym}
use Rattle.std.proofs.Common.{true, zero, ℕ, ◌*◌}
use Rattle.std.proofs.Common.{◌++◌, ◌+◌, ◌<◌}
use Rattle.std.proofs.Common.{◌^◌, ◌∷◌, ◌≡◌}
use Rattle.std.proofs.Common.{◌≤◌}
use Rattle.std.specs.Prelude.{nat_lt}
use Rattle.pli_meaning.specs.Executing.{begun, entered, run}
use Rattle.pli_meaning.specs.StorageState.{force, most_activations}
use Rattle.pli_coding.specs.Allocating.{act_code}
use Rattle.pli_coding.specs.Assembly.{JumpAhead}
use Rattle.pli_coding.specs.Assembly.{OffsetAhead, Plain}
use Rattle.pli_coding.specs.Assembly.{size_of}
use Rattle.pli_coding.specs.Environments.{none_taken}
use Rattle.pli_coding.specs.Images.{linked_code}
use Rattle.pli_coding.specs.Linking.{links_of}
use Rattle.pli_coding.specs.Procedures.{no_value}
use Rattle.pli_coding.specs.Statements.{condition_given}
use Rattle.pli_coding.specs.Statements.{stmt_code, stmts_code}
use Rattle.pli_coding.specs.Statements.{unit_environment, unit_held, unit_left, unit_mark}
use Rattle.pli_coding.specs.Statements.{unit_variables, unit_words}
use Rattle.activation_relation.specs.Layers.{Point}
use Rattle.activation_relation.specs.ServiceLaws.{IsSystem}
use Rattle.run_steps.proofs.Jumps.{back_of, front_of}
use Rattle.run_steps.proofs.Linking.{linked_length}
use Rattle.program_runs.specs.Calls.{AreMade, Callee}
use Rattle.program_runs.specs.Calls.{body_index, left_over}
use Rattle.program_runs.specs.Procedures.{frame_for}
use Rattle.program_runs.specs.Starts.{image_parts}
use Rattle.program_runs.specs.Starts.{start_of, surroundings_of}
use Rattle.program_runs.specs.Statements.{Block, EachDoes, IsAmong}
use Rattle.program_runs.specs.Statements.{IsBegun}
use Rattle.expression_runs.specs.Assignments.{setting_of}
use Rattle.expression_runs.specs.Raises.{Routines}
use Rattle.expression_runs.specs.Values.{OverflowComes, Setting}
use Rattle.expression_runs.specs.Variables.{IsNumber}
use Rattle.expression_runs.proofs.Operands.{constant_does}
use Rattle.expression_runs.proofs.Sums.{sum_does}
use Rattle.expression_runs.proofs.VariablePoints.{variable_does}
use Rattle.function_runs.specs.FunctionCalls.{called_from}
use Rattle.function_runs.specs.Functions.{IsFunction, function_block, function_entry}
use Rattle.function_runs.proofs.FunctionCalls.{function_does}
use Rattle.function_runs.proofs.ReturnValues.{return_does}
use Rattle.pli_coding.specs.Frames.{fixed_size, temporary_bytes}
use Rattle.pli_coding.specs.Instructions.{small}
use Rattle.pli_coding.specs.Registers.{a1, a7}
use Rattle.activation_relation.specs.Chains.{HasParent}
use Rattle.activation_relation.specs.Frames.{lower_end}
use Rattle.program_runs.specs.Rows.{row_head}
use Rattle.function_runs.proofs.OuterVariables.{function_number}
use Rattle.unit_runs.specs.Establishing.{unit_index}
use Rattle.unit_runs.specs.Establishing.{unit_of}
use Rattle.unit_runs.specs.Raised.{IsRaised, Standing, UnitDoes, list_index}
use Rattle.unit_runs.specs.Raised.{standing_code, unit_block}
use Rattle.unit_runs.proofs.FurtherVariables.{further_number}
use Rattle.unit_runs.proofs.Rows.{only_place}
use Rattle.unit_runs.proofs.UnitRuns.{overflow_returns}
use Rattle.unit_runs.proofs.UnitVariables.{none_made, outer_number}
use Rattle.counter_runs.specs.Counts.{setting_with}
use Rattle.counter_runs.specs.TallyRows.{inner_body, inner_entry, inner_environment}
use Rattle.counter_runs.specs.TallyRows.{tally_code}
use Rattle.counter_runs.specs.TallyRows.{tally_environment, tally_image, tally_inner}
use Rattle.counter_runs.specs.TallyRows.{tally_more, tally_on, tally_program}
use Rattle.counter_runs.specs.TallyRows.{tally_return, tally_spot, tally_twice}
use Rattle.counter_runs.specs.TallyRows.{tally_unit, tally_value, tally_zero}
use Rattle.counter_runs.specs.TallyRows.{told_by_function}
use Rattle.pli_language.specs.declared.condition.Condition.TheVariants as C
use Rattle.pli_typing.specs.TypedTree as Y
use Rattle.pli_meaning.specs.Executing as M
use Rattle.program_runs.proofs.Calls as P
use Rattle.expression_runs.specs.Laws as L
use Rattle.expression_runs.proofs.Assignments as X
use Rattle.rv_meaning.specs.declared.instr.Instr.TheVariants as I
use Rattle.unit_runs.specs.Raised as S
use Rattle.counter_runs.proofs.TallyCode.{StandsAt}
use Rattle.counter_runs.proofs.TallyCode.{behind_block}
use Rattle.counter_runs.proofs.TallyCode.{inner_body_linked, inner_linked}
use Rattle.counter_runs.proofs.TallyCode.{inner_start}
use Rattle.counter_runs.proofs.TallyCode.{on_linked, raise_linked}
use Rattle.counter_runs.proofs.TallyCode.{told}
use Rattle.counter_runs.proofs.TallyCode.{told_begun, told_number}

-- ---- its unit

abbrev pub routines : Routines (links_of tally_code) (linked_code tally_code)
routines = record { at = size_of (start_of 0); linked = raise_linked; condition = refl; end = omega arith }

abbrev pub tally_standing : (more : ℕ) → Standing
tally_standing more =
    record {
      unit = tally_unit;
      words = unit_words tally_environment tally_unit.head Y.UnitBlock tally_unit.body;
      saved = unit_held tally_environment tally_unit.head Y.UnitBlock tally_unit.body;
      variables = unit_variables (unit_environment tally_unit.head tally_environment) tally_unit.head Y.UnitBlock;
      entry = unit_index tally_unit tally_on;
      environment = unit_environment tally_unit.head tally_environment;
      around = record { program = tally_program; enter = entered tally_program more; turns = suc more; line = 0 };
      made = λ q. q;
    }

pub unit_linked :
    (more : ℕ) → StandsAt (unit_index tally_unit tally_on) (standing_code (tally_standing more))
unit_linked more =
    let over = OffsetAhead a1 5 ∷ condition_given C.FixedOverflow
    ∷ small a7 28 ∷ Plain I.Ecall ∷ JumpAhead (size_of (standing_code (tally_standing more))) ∷ [] in
    back_of over (standing_code (tally_standing more))
    (back_of (act_code 5) (over ++ standing_code (tally_standing more)) on_linked)

pub zero_linked :
    (more : ℕ) →
    StandsAt (list_index (tally_standing more)) (stmt_code (tally_standing more).environment none_taken tally_zero)
zero_linked more =
    let x = tally_standing more in
    front_of (stmt_code x.environment none_taken tally_zero) []
    (front_of (S.list_code x) (unit_mark tally_unit.head Y.UnitBlock ++ unit_left x.words x.saved)
    (back_of (act_code 5) _ (back_of x.variables _ (back_of (S.begin_of x) _ (unit_linked more)))))

-- ---- raised in the main procedure

abbrev pub main_setting : (waits : ℕ → Option ℕ) → (input : List ℕ) → (more line words : ℕ) → Setting
main_setting waits input more line words = setting_with (told waits input (suc more)) [] line 400 words

pub raised_is :
    (waits : ℕ → Option ℕ) (input : List ℕ) (more line words : ℕ) → suc more + 1 < 2 ^ 64 →
    IsBegun (behind_block input (suc more)) →
    IsRaised (main_setting waits input more line words) (tally_standing more) more
raised_is waits input more line words few b =
    record {
      begun = told_begun waits input (suc more) b;
      routines = routines;
      by = _;
      force = refl;
      parent = (omega arith, refl);
      room = omega arith;
      shallow = refl;
      only = λ at stands. only_place (unit_of tally_unit) (4 * unit_index tally_unit tally_on) at stands;
      some = omega arith;
      stands = unit_linked more;
      labels = (λ label e. absurd (cc e), λ label e. absurd (cc e));
      kind = inr refl;
      level = omega arith;
      line = omega arith;
      saved = omega arith;
      acts = few;
      enter = refl;
      around = refl;
      enough = omega arith;
      most = omega arith;
    }

pub unit_each :
    (waits : ℕ → Option ℕ) (input : List ℕ) (more line words : ℕ) (few : suc more + 1 < 2 ^ 64)
    (b : IsBegun (behind_block input (suc more))) →
    UnitDoes (main_setting waits input more line words) (tally_standing more) more
    (raised_is waits input more line words few b)
unfolding raised_is
unit_each waits input more line words few b r is =
    let k = main_setting waits input more line words in
    let x = tally_standing more in
    let h = raised_is waits input more line words few b in
    let u = unit_block k x r in
    let n = linked_length (links_of tally_code) 0 tally_code in
    let made = none_made k x r (record { kind = inr (refl, refl); code = refl; made = refl }) in (
      made,
      λ b'. (
        X.assign_does u [] tally_spot (Y.NumberConstant 0) 6 (list_index x) left_over 0 100
            (record {
              act = record { line_fits = omega arith; acts = few };
              begun = b';
              number = outer_number k x more h r tally_spot
                  (record { own = refl; level = refl; inner = refl; program = refl; parts = refl }) is made b'
                  (omega arith) (told_number waits input (suc more));
              registers = omega arith;
              held = omega arith;
              statement = zero_linked more;
              paid = omega (arith, n);
            })
            (constant_does (setting_of u [] 6 100) 0 (omega arith)),
        tt,
      ),
    )

pub main_over :
    (waits : ℕ → Option ℕ) (input : List ℕ) (more line words : ℕ) → suc more + 1 < 2 ^ 64 →
    IsBegun (behind_block input (suc more)) → OverflowComes (main_setting waits input more line words)
main_over waits input more line words few b =
    overflow_returns (main_setting waits input more line words) (tally_standing more) more
    (raised_is waits input more line words few b) (unit_each waits input more line words few b) refl

-- ---- its function

abbrev pub tally_callee : (more : ℕ) → Callee
tally_callee more =
    record {
      procedure = tally_inner;
      calling = record {
        parent = 1;
        call = 0;
        entry = inner_entry;
        end = inner_start + size_of (stmts_code inner_environment none_taken inner_body) + size_of (no_value 2);
      };
      environment = inner_environment;
      made = λ q. q;
      around = record { program = tally_program; enter = entered tally_program more; turns = suc more; line = 0 };
    }

pub inner_is :
    (input : List ℕ) (acts more : ℕ) → acts + 1 < 2 ^ 64 →
    IsFunction (surroundings_of (tally_image input acts)) (linked_code tally_code) (tally_callee more)
inner_is input acts more few =
    record {
      level = omega arith;
      line = omega arith;
      saved = omega arith;
      place = refl;
      stands = inner_linked;
      end = refl;
      kind = refl;
      labels = (λ label e. absurd (cc e), λ label e. absurd (cc e));
      acts = few;
      routines = routines;
      raises = refl;
    }

abbrev pub inner_block : (waits : ℕ → Option ℕ) → (input : List ℕ) → (acts more call : ℕ) → Point → (numbers : ℕ → ℕ) →
    Block
inner_block waits input acts more call p numbers =
    function_block (surroundings_of (tally_image input acts)) (linked_code tally_code)
    (called_from (tally_callee more) call) p numbers

pub inner_made :
    (waits : ℕ → Option ℕ) (input : List ℕ) (acts more call : ℕ) (p : Point) (numbers : ℕ → ℕ) →
    IsAmong (told waits input acts) numbers p →
    AreMade (surroundings_of (tally_image input acts)) (linked_code tally_code) (called_from (tally_callee more) call) p
    numbers
    × IsSystem (force (inner_block waits input acts more call p numbers).first.state.activations C.Error)
inner_made waits input acts more call p numbers o =
    let c = called_from (tally_callee more) call in (
      P.none_made (surroundings_of (tally_image input acts)) (linked_code tally_code) c p numbers refl refl
          (refl, refl),
      subst (λ xs. IsSystem (force xs C.Error)) (sym o.later.activations) tt,
    )

pub inner_number :
    (waits : ℕ → Option ℕ) (input : List ℕ) (acts more call : ℕ) (p : Point) (numbers : ℕ → ℕ) →
    IsBegun (behind_block input acts) → IsAmong (told waits input acts) numbers p →
    IsBegun (inner_block waits input acts more call p numbers) →
    IsNumber (inner_block waits input acts more call p numbers) tally_spot
inner_number waits input acts more call p numbers b o b' =
    function_number (told waits input acts) (called_from (tally_callee more) call) tally_spot
    (record {
      begun = told_begun waits input acts b;
      level = refl;
      parent = refl;
      inner = refl;
      further = omega arith;
      few = omega arith;
      program = refl;
      parts = refl;
    }) (told_number waits input acts) p numbers o (inner_made waits input acts more call p numbers o).0 b'

abbrev pub inner_setting : (waits : ℕ → Option ℕ) → (input : List ℕ) → (more call : ℕ) → Point → (numbers : ℕ → ℕ) →
    Setting
inner_setting waits input more call p numbers =
    setting_of (inner_block waits input (suc (suc more)) (suc more) call p numbers) [] 3 200

-- the unit of the main procedure is in force in it
pub inner_raised :
    (waits : ℕ → Option ℕ) (input : List ℕ) (more call : ℕ) (p : Point) (numbers : ℕ → ℕ) →
    suc (suc more) + 1 < 2 ^ 64 → IsAmong (told waits input (suc (suc more))) numbers p →
    IsBegun (inner_block waits input (suc (suc more)) (suc more) call p numbers) →
    IsRaised (inner_setting waits input more call p numbers) (tally_standing more) more
inner_raised waits input more call p numbers few o b' =
    let as' = o.later.activations in
    let ls = o.later.layers in
    let acts = o.later.acts in
    let parts = image_parts in
    let x = tally_standing more in
    record {
      begun = b';
      routines = routines;
      by = _;
      force = ap (λ xs. force xs C.FixedOverflow) as';
      parent = subst (λ xs. HasParent 1 1 (M.activation_of (row_head 1 1 2) (function_entry tally_inner 1)
          (length xs + 1) ∷ xs)) (sym as') (omega arith, refl);
      room = subst (λ φs. frame_for parts φs tally_inner + fixed_size 1 0 + temporary_bytes x.words + fixed_size 1 0
          ≤ lower_end parts φs) (sym ls) (omega arith);
      shallow = subst (λ xs. nat_lt (suc (length xs)) most_activations ≡ true) (sym as') refl;
      only = λ at stands. only_place (unit_of tally_unit) (4 * unit_index tally_unit tally_on) at stands;
      some = omega arith;
      stands = unit_linked more;
      labels = (λ label e. absurd (cc e), λ label e. absurd (cc e));
      kind = inr refl;
      level = omega arith;
      line = omega arith;
      saved = omega arith;
      acts = few;
      enter = refl;
      around = refl;
      enough = omega (arith, acts);
      most = omega arith;
    }

-- its statement, wherever it is raised
pub inner_unit :
    (waits : ℕ → Option ℕ) (input : List ℕ) (more call : ℕ) (p : Point) (numbers : ℕ → ℕ)
    (few : suc (suc more) + 1 < 2 ^ 64) (b : IsBegun (behind_block input (suc (suc more))))
    (o : IsAmong (told waits input (suc (suc more))) numbers p)
    (b' : IsBegun (inner_block waits input (suc (suc more)) (suc more) call p numbers)) →
    UnitDoes (inner_setting waits input more call p numbers) (tally_standing more) more
    (inner_raised waits input more call p numbers few o b')
unfolding inner_raised
inner_unit waits input more call p numbers few b o b' r is =
    let k = inner_setting waits input more call p numbers in
    let main = told waits input (suc (suc more)) in
    let x = tally_standing more in
    let h = inner_raised waits input more call p numbers few o b' in
    let u = unit_block k x r in
    let n = linked_length (links_of tally_code) 0 tally_code in
    let made = none_made k x r (record { kind = inr (refl, refl); code = refl; made = refl }) in (
      made,
      λ b''. (
        X.assign_does u [] tally_spot (Y.NumberConstant 0) 6 (list_index x) left_over 0 100
            (record {
              act = record { line_fits = omega arith; acts = few };
              begun = b'';
              number = further_number k x more h r tally_spot main p numbers 1
                  (record {
                    begun = told_begun waits input (suc (suc more)) b;
                    among = o;
                    activations = refl;
                    layers = refl;
                    remains = b'.remains;
                    own = refl;
                    level = refl;
                    inner = refl;
                    program = refl;
                    parts = refl;
                  }) is made b'' (omega arith) (told_number waits input (suc (suc more)));
              registers = omega arith;
              held = omega arith;
              statement = zero_linked more;
              paid = omega (arith, n);
            })
            (constant_does (setting_of u [] 6 100) 0 (omega arith)),
        tt,
      ),
    )

-- where no second act is allowed it isn't called
pub inner_each :
    (waits : ℕ → Option ℕ) (input : List ℕ) (more call : ℕ) (p : Point) (numbers : ℕ → ℕ) → suc more + 1 < 2 ^ 64 →
    IsBegun (behind_block input (suc more)) → IsAmong (told waits input (suc more)) numbers p →
    IsBegun (inner_block waits input (suc more) more call p numbers) →
    EachDoes (inner_block waits input (suc more) more call p numbers) [] inner_body (body_index (tally_callee more))
    left_over
inner_each waits input zero call p numbers few b o b' =
    let allowed = b'.resumes.stands.allowed in
    let acts = o.later.acts in
    absurd (omega (arith, allowed, acts))
inner_each waits input (suc more) call p numbers few b o b' =
    let k = inner_block waits input (suc (suc more)) (suc more) call p numbers in
    let three = inner_setting waits input more call p numbers in
    let n = linked_length (links_of tally_code) 0 tally_code in
    let number = inner_number waits input (suc (suc more)) (suc more) call p numbers b o b' in
    let over : OverflowComes three = overflow_returns three (tally_standing more) more
    (inner_raised waits input more call p numbers few o b') (inner_unit waits input more call p numbers few b o b')
    refl in
    let operand = variable_does three tally_spot b' number in (
      return_does k [] tally_more 3 _ left_over 1 200
          (record {
            act = record { line_fits = omega arith; acts = few };
            begun = b';
            owner = refl;
            end = refl;
            near = omega arith;
            enough = omega arith;
            function = refl;
            registers = omega arith;
            held = omega arith;
            kind = refl;
            saved = omega arith;
            statement = front_of (stmt_code inner_environment none_taken tally_return) [] inner_body_linked;
            paid = omega (arith, n);
          })
          (sum_does three tally_twice (Y.NumberConstant 3) 1 0 over
          (sum_does three tally_value tally_value 0 0 over operand operand) (constant_does three 3 (omega arith))),
      tt,
    )

pub function_is :
    (waits : ℕ → Option ℕ) (input : List ℕ) (more line words : ℕ) → suc more + 1 < 2 ^ 64 → words < 2 ^ 20 →
    IsBegun (behind_block input (suc more)) → L.Does (main_setting waits input more line words) 0 told_by_function
function_is waits input more line words few small' b =
    function_does (main_setting waits input more line words) (tally_callee more) more
    (record {
      begun = told_begun waits input (suc more) b;
      function = inner_is input (suc more) more few;
      room = record { room = omega arith; shallow = refl; parent = (omega arith, refl); idle = refl };
      level = refl;
      parent = refl;
      found = refl;
      enter = refl;
      around = refl;
      enough = omega arith;
      most = omega arith;
      words = small';
    })
    (λ call p numbers o. inner_made waits input (suc more) more call p numbers o)
    (λ call p numbers o b'. inner_each waits input more call p numbers few b o b')
