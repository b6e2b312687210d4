-- The worked row: all that is premised of the program is computed.
use Rattle.std.proofs.Common.{◌≡◌, ℕ, zero, suc, ◌+◌, ◌*◌, ◌^◌, ◌<◌, List, [], ◌∷◌, ◌++◌, inl, inr, length, map, Some}
use Rattle.std.proofs.Common.{None, Option, ◌≤◌, true, refl, sym, ap, subst, arith}
use Rattle.std.specs.Prelude.{nat_lt}
use Rattle.rv_meaning.specs.declared.instr.Instr.TheVariants as I
use Rattle.rv_meaning.specs.Machine.{memory_size}
use Rattle.pli_language.specs.declared.condition.Condition.TheVariants as C
use Rattle.pli_typing.specs.TypedTree as Y
use Rattle.pli_meaning.specs.declared.outcome.End.TheVariants as E
use Rattle.pli_meaning.specs.Control as F
use Rattle.pli_meaning.specs.Evaluating as V
use Rattle.pli_meaning.specs.Executing as M
use Rattle.pli_meaning.specs.Executing.{entered, run}
use Rattle.pli_meaning.specs.Making as K
use Rattle.pli_meaning.specs.Placing as P
use Rattle.pli_meaning.specs.Raising as R
use Rattle.pli_meaning.specs.StorageState.{first_state, most_activations}
use Rattle.area_keeper.specs.KeeperLaws.{Keeps}
use Rattle.run_keeper.specs.RunKeeper.{run_keeper}
use Rattle.pli_serving.specs.Templates.{template_of}
use Rattle.pli_coding.specs.Allocating.{act_code}
use Rattle.pli_coding.specs.Assembly.{CallTo, JumpAhead, Mark, OffsetAhead, Plain, ProcedureEntry, ReturnPlace, size_of}
use Rattle.pli_coding.specs.Environments.{Environment, none_taken}
use Rattle.pli_coding.specs.Frames.{fixed_size, temporary_bytes}
use Rattle.pli_coding.specs.Images.{first_frame, linked_code, raise_code}
use Rattle.pli_coding.specs.Instructions.{small}
use Rattle.pli_coding.specs.Linking.{links_of}
use Rattle.pli_coding.specs.Registers.{a1, a7}
use Rattle.pli_coding.specs.SignatureTable.{table_of}
use Rattle.pli_coding.specs.Statements.{stmt_code, stmts_code, unit_environment, unit_held, unit_variables}
use Rattle.pli_coding.specs.Statements.{condition_given, unit_left, unit_mark, unit_words}
use Rattle.storage_relation.specs.Served.{AllDiffer}
use Rattle.activation_relation.specs.Chains.{StandsAt, UnitPlace}
use Rattle.activation_relation.specs.Frames.{lower_end, upper_top}
use Rattle.activation_relation.specs.Layers.{services_of}
use Rattle.run_steps.specs.Items.{Linked}
use Rattle.run_steps.proofs.Jumps.{back_of, first_of, front_of, rest_of}
use Rattle.run_steps.proofs.Linking.{has_items, linked_length}
use Rattle.run_steps.specs.Reach.{Comes}
use Rattle.program_runs.specs.Calls.{block_at, left_over}
use Rattle.program_runs.specs.Procedures.{begin_of, end_of, procedure_code}
use Rattle.program_runs.specs.Programs.{IsWhole, Whole, main_of}
use Rattle.program_runs.specs.Starts.{first_family, image_parts, main_called, no_numbers, start_of, start_point}
use Rattle.program_runs.specs.Starts.{never_in}
use Rattle.program_runs.specs.Starts.{surroundings_of}
use Rattle.program_runs.specs.Statements.{Block, Does, IsAmong, IsBegun, own_height}
use Rattle.program_runs.specs.Variables as D
use Rattle.program_runs.specs.Variables.{IsOnly, newest_made}
use Rattle.program_runs.specs.VariableRows as W
use Rattle.program_runs.proofs.Rows.{is_datum, names_none, none_named}
use Rattle.program_runs.proofs.Statements.{none_does}
use Rattle.program_runs.proofs.VariableProcedures.{one_made}
use Rattle.program_runs.proofs.VariableRows.{differs_alone, number_valued}
use Rattle.expression_runs.specs.Assignments.{setting_of}
use Rattle.expression_runs.specs.Raises.{Routines}
use Rattle.expression_runs.specs.Values.{OverflowComes, Setting}
use Rattle.expression_runs.specs.Variables.{IsNumber, whole}
use Rattle.expression_runs.proofs.Assignments.{assign_does}
use Rattle.expression_runs.proofs.Operands.{constant_does}
use Rattle.expression_runs.proofs.Sums.{difference_does, sum_does}
use Rattle.expression_runs.proofs.VariablePoints.{variable_does}
use Rattle.unit_runs.specs.Bodies.{BodyDoes}
use Rattle.unit_runs.specs.Changing.{IsOwnRaise}
use Rattle.unit_runs.specs.DeepRows.{deep_again, deep_body, deep_code, deep_coded, deep_end, deep_entry}
use Rattle.unit_runs.specs.DeepRows.{deep_environment, deep_first, deep_image, deep_less, deep_main, deep_on, deep_one}
use Rattle.unit_runs.specs.DeepRows.{deep_program, deep_rest, deep_spot, deep_standing, deep_start, deep_stmt}
use Rattle.unit_runs.specs.DeepRows.{deep_twice, deep_under, deep_unit, deep_units, under_end, under_on}
use Rattle.unit_runs.specs.Establishing.{IsOn, behind_on, on_of, unit_index, unit_of}
use Rattle.unit_runs.specs.Raised as S
use Rattle.unit_runs.specs.InnerLists.{UnitChanges}
use Rattle.unit_runs.specs.Raised.{IsRaised, Raise, Standing, UnitDoes, list_index, standing_code, unit_block}
use Rattle.unit_runs.proofs.Bodies.{first_ends, list_ends, on_ends, unit_program_runs}
use Rattle.unit_runs.proofs.Establishing.{unit_begun, unit_numbers}
use Rattle.unit_runs.proofs.InnerLists.{each_list, on_list, unit_overflow}
use Rattle.unit_runs.proofs.OwnRaises.{own_raised}
use Rattle.unit_runs.proofs.UnitRuns.{overflow_returns}
use Rattle.unit_runs.proofs.UnitVariables.{none_made, outer_number}

-- ---- each of its units is at no other place

abbrev place_of : Option UnitPlace → ℕ
place_of None = 0
place_of (Some x) = x.at

abbrev number_of : Y.Block → ℕ
number_of (Y.BlockOf head body) = head.number

abbrev number_at : Option UnitPlace → ℕ
number_at None = 0
number_at (Some x) = number_of x.unit

only_deep :
    (at : ℕ) → StandsAt deep_units (unit_of deep_unit) at → at ≡ 4 * unit_index deep_unit deep_on
only_deep at (zero, e) = sym (ap place_of e)
only_deep at (suc zero, e) =
    let other : 2 ≡ 1 = ap number_at e in
    absurd (omega (arith, other))
only_deep at (suc (suc n), e) = absurd (cc e)

only_under :
    (at : ℕ) → StandsAt deep_units (unit_of deep_under) at → at ≡ 4 * unit_index deep_under under_on
only_under at (zero, e) =
    let other : 1 ≡ 2 = ap number_at e in
    absurd (omega (arith, other))
only_under at (suc zero, e) = sym (ap place_of e)
only_under at (suc (suc n), e) = absurd (cc e)

-- ---- its code

deep_linked : Linked (links_of deep_code) (linked_code deep_code) 0 deep_code
unfolding names_none is_datum
deep_linked =
    let n = linked_length (links_of deep_code) 0 deep_code in
    record {
      small' = omega (arith, n);
      inside = omega (arith, n);
      has = has_items (links_of deep_code) deep_code refl;
      named = λ d h. absurd (none_named d deep_code refl h);
    }

start_linked : Linked (links_of deep_code) (linked_code deep_code) 0 (start_of 0)
start_linked = front_of (start_of 0) (raise_code ++ deep_coded) deep_linked

raise_linked : Linked (links_of deep_code) (linked_code deep_code) (size_of (start_of 0)) raise_code
raise_linked = front_of raise_code deep_coded (back_of (start_of 0) (raise_code ++ deep_coded) deep_linked)

main_linked :
    Linked (links_of deep_code) (linked_code deep_code) deep_entry (procedure_code deep_environment deep_main)
main_linked =
    rest_of (Mark (ProcedureEntry 0)) (procedure_code deep_environment deep_main)
    (back_of raise_code deep_coded (back_of (start_of 0) (raise_code ++ deep_coded) deep_linked))

abbrev pub deep_finish : ℕ
deep_finish = deep_start + size_of (stmts_code deep_environment none_taken deep_body)

body_linked :
    Linked (links_of deep_code) (linked_code deep_code) deep_start
    (stmts_code deep_environment none_taken deep_body)
body_linked =
    let one = act_code 1 in
    let body = stmts_code deep_environment none_taken deep_body in
    let tail = Mark (ReturnPlace 0) ∷ end_of deep_main in
    let rest = one ++ (body ++ tail) in
    front_of body tail
    (back_of one (body ++ tail)
    (back_of deep_main.variables rest (back_of (begin_of deep_main) (deep_main.variables ++ rest) main_linked)))

rest_linked :
    Linked (links_of deep_code) (linked_code deep_code) deep_on (stmts_code deep_environment none_taken deep_rest)
rest_linked =
    back_of (stmt_code deep_environment none_taken deep_first) (stmts_code deep_environment none_taken deep_rest)
    body_linked

on_linked :
    Linked (links_of deep_code) (linked_code deep_code) deep_on
    (stmt_code deep_environment none_taken (on_of deep_unit))
on_linked =
    front_of (stmt_code deep_environment none_taken (on_of deep_unit))
    (stmts_code deep_environment none_taken deep_end) rest_linked

abbrev last_index : ℕ
last_index = deep_on + size_of (stmt_code deep_environment none_taken (on_of deep_unit))

last_linked :
    Linked (links_of deep_code) (linked_code deep_code) last_index (stmts_code deep_environment none_taken deep_end)
last_linked =
    back_of (stmt_code deep_environment none_taken (on_of deep_unit)) (stmts_code deep_environment none_taken deep_end)
    rest_linked

-- ---- its variable

one_differs : AllDiffer (map template_of (table_of deep_program))
one_differs = differs_alone (map template_of (table_of deep_program)) _ refl refl

abbrev pub deep_whole : (input : List ℕ) → (acts : ℕ) → Whole
deep_whole input acts =
    record {
      image = deep_image input acts;
      program = deep_program;
      main = deep_main;
      others = [];
      environment = deep_environment;
      entry = deep_entry;
      end = deep_finish;
      made = newest_made image_parts W.number_declared;
    }

deep_only :
    (input : List ℕ) (acts : ℕ) →
    IsOnly (surroundings_of (deep_image input acts)) (main_of (deep_whole input acts))
    (start_point (deep_image input acts)) no_numbers W.number_declared
deep_only input acts =
    let n = linked_length (links_of deep_code) 0 deep_code in
    record {
      kind = refl;
      variables = refl;
      class = refl;
      evaluations = refl;
      first = refl;
      code = refl;
      made = refl;
      table = refl;
      parts = refl;
      few = omega arith;
      declared = record {
        newest = refl;
        here = refl;
        holds = omega arith;
        size = omega arith;
        fits = omega arith;
        even = refl;
        low = omega (arith, n);
        shape = refl;
        number = omega arith;
        initial = refl;
        none = refl;
        plain = refl;
        fixed = refl;
        values = (tt, tt);
        valued = number_valued;
        limit = refl;
      };
    }

abbrev pub deep_block : (input : List ℕ) → (acts : ℕ) → Block
deep_block input acts =
    block_at (surroundings_of (deep_image input acts)) (linked_code deep_code) (main_of (deep_whole input acts))
    (start_point (deep_image input acts)) no_numbers

deep_number : (input : List ℕ) (acts : ℕ) → IsNumber (deep_block input acts) deep_spot
deep_number input acts =
    record {
      initial = [];
      declared = refl;
      serial = 1;
      binding = refl;
      living = K.living_at 1 1 (D.generation_for W.number_declared);
      lives = refl;
      shape = refl;
      base = _;
      frame = inl (refl, refl);
      at = refl;
      low = omega arith;
      inside = omega arith;
    }

-- ---- the block behind the ON

abbrev pub behind_block : (input : List ℕ) → (acts : ℕ) → Block
behind_block input acts = behind_on (deep_block input acts) deep_unit deep_on

on_is :
    (input : List ℕ) (acts : ℕ) → acts + 1 < 2 ^ 64 → IsBegun (deep_block input acts) →
    IsOn (deep_block input acts) deep_unit deep_on
on_is input acts few b =
    record {
      act = record { line_fits = omega arith; acts = few };
      begun = b;
      statement = on_linked;
      place = (0, refl);
    }

behind_number : (input : List ℕ) (acts : ℕ) → IsNumber (behind_block input acts) deep_spot
behind_number input acts = unit_numbers (deep_block input acts) deep_unit deep_on deep_spot (deep_number input acts)

-- ---- its unit

abbrev routines : Routines (links_of deep_code) (linked_code deep_code)
routines = record { at = size_of (start_of 0); linked = raise_linked; condition = refl; end = omega arith }

unit_linked :
    (more : ℕ) →
    Linked (links_of deep_code) (linked_code deep_code) (unit_index deep_unit deep_on)
    (standing_code (deep_standing more))
unit_linked more =
    let over = OffsetAhead a1 5 ∷ condition_given C.FixedOverflow
    ∷ small a7 28 ∷ Plain I.Ecall ∷ JumpAhead (size_of (standing_code (deep_standing more))) ∷ [] in
    back_of over (standing_code (deep_standing more))
    (back_of (act_code 4) (over ++ standing_code (deep_standing more)) on_linked)

abbrev again_setting : (input : List ℕ) → (more : ℕ) → Setting
again_setting input more = setting_of (behind_block input (suc more)) [] 8 450

raised_is :
    (input : List ℕ) (more : ℕ) → suc more + 1 < 2 ^ 64 → IsBegun (deep_block input (suc more)) →
    IsRaised (again_setting input more) (deep_standing more) more
raised_is input more few b =
    let k = deep_block input (suc more) in
    let h = on_is input (suc more) few b in
    record {
      begun = unit_begun k deep_unit deep_on h;
      routines = routines;
      by = _;
      force = refl;
      parent = (omega arith, refl);
      room = omega arith;
      shallow = refl;
      only = only_deep;
      some = omega arith;
      stands = unit_linked more;
      labels = (λ label e. absurd (cc e), (λ label e. absurd (cc e), λ label e. absurd (cc e)));
      kind = inr refl;
      level = omega arith;
      line = omega arith;
      saved = omega arith;
      acts = few;
      enter = refl;
      around = refl;
      enough = omega arith;
      most = omega arith;
    }

-- ---- the unit of the unit

abbrev inside_environment : Environment
inside_environment = unit_environment deep_unit.head deep_environment

abbrev under_standing : (more : ℕ) → Standing
under_standing more =
    record {
      unit = deep_under;
      words = unit_words inside_environment deep_under.head Y.UnitBlock deep_under.body;
      saved = unit_held inside_environment deep_under.head Y.UnitBlock deep_under.body;
      variables = unit_variables (unit_environment deep_under.head inside_environment) deep_under.head Y.UnitBlock;
      entry = unit_index deep_under under_on;
      environment = unit_environment deep_under.head inside_environment;
      around = record { program = deep_program; enter = entered deep_program more; turns = suc more; line = 0 };
      made = λ q. q;
    }

inside_linked :
    Linked (links_of deep_code) (linked_code deep_code) under_on
    (stmts_code inside_environment none_taken deep_unit.body)
inside_linked =
    let x = deep_standing 0 in
    front_of (S.list_code x) (unit_mark deep_unit.head Y.UnitBlock ++ unit_left x.words x.saved)
    (back_of (act_code 4) _ (back_of x.variables _ (back_of (S.begin_of x) _ (unit_linked 0))))

under_on_linked :
    Linked (links_of deep_code) (linked_code deep_code) under_on
    (stmt_code inside_environment none_taken (on_of deep_under))
under_on_linked =
    front_of (stmt_code inside_environment none_taken (on_of deep_under))
    (stmts_code inside_environment none_taken under_end) inside_linked

abbrev stmt_index : ℕ
stmt_index = under_on + size_of (stmt_code inside_environment none_taken (on_of deep_under))

under_end_linked :
    Linked (links_of deep_code) (linked_code deep_code) stmt_index
    (stmts_code inside_environment none_taken under_end)
under_end_linked =
    back_of (stmt_code inside_environment none_taken (on_of deep_under))
    (stmts_code inside_environment none_taken under_end) inside_linked

under_linked :
    (more : ℕ) →
    Linked (links_of deep_code) (linked_code deep_code) (unit_index deep_under under_on)
    (standing_code (under_standing more))
under_linked more =
    let over = OffsetAhead a1 5 ∷ condition_given C.FixedOverflow
    ∷ small a7 28 ∷ Plain I.Ecall ∷ JumpAhead (size_of (standing_code (under_standing more))) ∷ [] in
    back_of over (standing_code (under_standing more))
    (back_of (act_code 5) (over ++ standing_code (under_standing more)) under_on_linked)

abbrev inside_block : (input : List ℕ) → (more : ℕ) → Raise → Block
inside_block input more r = unit_block (again_setting input (suc more)) (deep_standing (suc more)) r

abbrev under_setting : (input : List ℕ) → (more : ℕ) → Raise → Setting
under_setting input more r = setting_of (behind_on (inside_block input more r) deep_under under_on) [] 7 200

under_is :
    (input : List ℕ) (more : ℕ) (r : Raise) → suc (suc more) + 1 < 2 ^ 64 → IsBegun (inside_block input more r) →
    IsOn (inside_block input more r) deep_under under_on
under_is input more r few b =
    record {
      act = record { line_fits = omega arith; acts = few };
      begun = b;
      statement = under_on_linked;
      place = (1, refl);
    }

under_raise :
    (input : List ℕ) (more : ℕ) (r : Raise) → suc (suc more) + 1 < 2 ^ 64 →
    IsAmong (behind_block input (suc (suc more))) r.numbers r.point →
    (behind_block input (suc (suc more))).first.state.world.acts < r.point.state.world.acts →
    IsOwnRaise (inside_block input more r) (under_standing more) 200 more
under_raise input more r few o later =
    let as' = o.later.activations in
    let ls = o.later.layers in
    let parts = image_parts in
    let y = under_standing more in
    record {
      routines = routines;
      room = subst (λ φs. upper_top parts φs + temporary_bytes (deep_standing 0).words + fixed_size 1 0
          + temporary_bytes y.words + fixed_size 2 0 ≤ lower_end parts φs) (sym ls) (omega arith);
      shallow = subst (λ xs. nat_lt (suc (length xs)) most_activations ≡ true) (sym as') refl;
      only = only_under;
      some = omega arith;
      stands = under_linked more;
      labels = (λ label e. absurd (cc e), λ label e. absurd (cc e));
      kind = inr refl;
      level = refl;
      few = omega arith;
      line = omega arith;
      saved = omega arith;
      acts = few;
      enter = refl;
      around = refl;
      enough = omega (arith, later);
      paid = omega arith;
    }

under_each :
    (input : List ℕ) (more : ℕ) (r : Raise) → suc (suc more) + 1 < 2 ^ 64 →
    IsNumber (behind_on (inside_block input more r) deep_under under_on) deep_spot →
    (h : IsRaised (under_setting input more r) (under_standing more) more) →
    h.by.height ≡ own_height (inside_block input more r) →
    UnitDoes (under_setting input more r) (under_standing more) more h
under_each input more r few number h own r' is =
    let k = under_setting input more r in
    let y = under_standing more in
    let u = unit_block k y r' in
    let n = linked_length (links_of deep_code) 0 deep_code in
    let made = none_made k y r' (record { kind = inr (refl, refl); code = refl; made = refl }) in (
      made,
      λ b'. (
        assign_does u [] deep_spot (Y.NumberConstant 1) 6 (list_index y) left_over 0 100
            (record {
              act = record { line_fits = omega arith; acts = few };
              begun = b';
              number = outer_number k y more h r' deep_spot
                  (record { own = own; level = refl; inner = refl; program = refl; parts = refl }) is made b'
                  (omega arith) number;
              registers = omega arith;
              held = omega arith;
              statement = front_of (stmt_code y.environment none_taken deep_one) []
                  (front_of (S.list_code y) (unit_mark deep_under.head Y.UnitBlock ++ unit_left y.words y.saved)
                  (back_of (act_code 5) _ (back_of y.variables _ (back_of (S.begin_of y) _ (under_linked more)))));
              paid = omega (arith, n);
            })
            (constant_does (setting_of u [] 6 100) 1 (omega arith)),
        tt,
      ),
    )

-- the statement behind its ON
stmt_does :
    (input : List ℕ) (more : ℕ) (r : Raise) → suc (suc more) + 1 < 2 ^ 64 → IsBegun (inside_block input more r) →
    IsOwnRaise (inside_block input more r) (under_standing more) 200 more →
    IsNumber (behind_on (inside_block input more r) deep_under under_on) deep_spot →
    Does (behind_on (inside_block input more r) deep_under under_on) [] deep_stmt stmt_index left_over
stmt_does input more r few b own number =
    let u = inside_block input more r in
    let k = behind_on u deep_under under_on in
    let seven = under_setting input more r in
    let n = linked_length (links_of deep_code) 0 deep_code in
    let on = under_is input more r few b in
    let b' = unit_begun u deep_under under_on on in
    let h = own_raised u deep_unit.body under_on [] (under_standing more) under_on 7 200 more [] b
    (on, inl (refl, refl), tt) own in
    let over : OverflowComes seven = overflow_returns seven (under_standing more) more h.0
    (under_each input more r few number h.0 h.1) refl in
    let operand = variable_does seven deep_spot b' number in
    assign_does k [] deep_spot deep_less 7 stmt_index left_over 1 200
    (record {
      act = record { line_fits = omega arith; acts = few };
      begun = b';
      number = number;
      registers = omega arith;
      held = omega arith;
      statement = front_of (stmt_code inside_environment none_taken deep_stmt) [] under_end_linked;
      paid = omega (arith, n);
    })
    (difference_does seven deep_twice (Y.NumberIn (whole deep_spot)) 1 0 over
    (sum_does seven (Y.NumberIn (whole deep_spot)) (Y.NumberIn (whole deep_spot)) 0 0 over operand operand) operand)

-- its list, wherever it is raised; where no second act is allowed it isn't
unit_changes :
    (input : List ℕ) (more : ℕ) (few : suc more + 1 < 2 ^ 64) (b : IsBegun (deep_block input (suc more))) →
    UnitChanges (again_setting input more) (deep_standing more) more (raised_is input more few b)
unfolding raised_is
unit_changes input zero few b r is =
    let allowed = is.among.stands.allowed in
    let later = is.later in
    absurd (omega (arith, allowed, later))
unit_changes input (suc more) few b r is =
    let k = again_setting input (suc more) in
    let x = deep_standing (suc more) in
    let u = inside_block input more r in
    let made = none_made k x r (record { kind = inr (refl, refl); code = refl; made = refl }) in (
      made,
      λ z.
          let on = under_is input more r few z.begun in
          let number = outer_number k x (suc more) (raised_is input (suc more) few b) r deep_spot
          (record { own = refl; level = refl; inner = refl; program = refl; parts = refl }) is made z.begun
          (omega arith) (behind_number input (suc (suc more))) in
          let enough = z.enough in
          on_list u deep_under under_end under_on left_over z on
          (each_list (behind_on u deep_under under_on) under_end stmt_index left_over
          (record {
            begun = unit_begun u deep_under under_on on;
            linked = under_end_linked;
            enough = enough;
          })
          (λ label e. absurd (cc e), λ label e. absurd (cc e)) (
            stmt_does input more r few z.begun (under_raise input more r few is.among is.later)
                (unit_numbers u deep_under under_on deep_spot number),
            tt,
          )),
    )

-- ---- its statements

first_does :
    (input : List ℕ) (acts : ℕ) → acts + 1 < 2 ^ 64 → IsBegun (deep_block input acts) →
    Does (deep_block input acts) [] deep_first deep_start left_over
first_does input acts few b =
    let k = deep_block input acts in
    let n = linked_length (links_of deep_code) 0 deep_code in
    assign_does k [] deep_spot (Y.NumberConstant 2147483647) 3 deep_start left_over 0 100
    (record {
      act = record { line_fits = omega arith; acts = few };
      begun = b;
      number = deep_number input acts;
      registers = omega arith;
      held = omega arith;
      statement = front_of (stmt_code deep_environment none_taken deep_first)
          (stmts_code deep_environment none_taken deep_rest) body_linked;
      paid = omega (arith, n);
    })
    (constant_does (setting_of k [] 3 100) 2147483647 (omega arith))

-- the sum overflows, and what is subtracted is read behind the unit
again_does :
    (input : List ℕ) (acts : ℕ) → acts + 1 < 2 ^ 64 → IsBegun (deep_block input acts) →
    Does (behind_block input acts) [] deep_again last_index left_over
again_does input zero few b =
    none_does (behind_block input zero) [] deep_again last_index left_over
    (unit_begun (deep_block input zero) deep_unit deep_on (on_is input zero few b)) refl
again_does input (suc more) few b =
    let k = behind_block input (suc more) in
    let six = again_setting input more in
    let n = linked_length (links_of deep_code) 0 deep_code in
    let b' = unit_begun (deep_block input (suc more)) deep_unit deep_on (on_is input (suc more) few b) in
    let over : OverflowComes six = unit_overflow six (deep_standing more) more (raised_is input more few b)
    (unit_changes input more few b) refl in
    let operand = variable_does six deep_spot b' (behind_number input (suc more)) in
    assign_does k [] deep_spot deep_less 8 last_index left_over 1 450
    (record {
      act = record { line_fits = omega arith; acts = few };
      begun = b';
      number = behind_number input (suc more);
      registers = omega arith;
      held = omega arith;
      statement = front_of (stmt_code deep_environment none_taken deep_again) [] last_linked;
      paid = omega (arith, n);
    })
    (difference_does six deep_twice (Y.NumberIn (whole deep_spot)) 1 0 over
    (sum_does six (Y.NumberIn (whole deep_spot)) (Y.NumberIn (whole deep_spot)) 0 0 over operand operand) operand)

pub deep_does :
    (input : List ℕ) (acts : ℕ) → acts + 1 < 2 ^ 64 → IsBegun (deep_block input acts) →
    BodyDoes (deep_block input acts) deep_body deep_start left_over
deep_does input acts few b =
    let k = deep_block input acts in
    let h = on_is input acts few b in
    first_ends k deep_first deep_rest deep_start left_over
    (record {
      body = record {
        begun = b;
        linked = body_linked;
        end = refl;
        function = refl;
        kind = refl;
        registers = omega arith;
        outers = refl;
        enough = omega arith;
      };
      does = first_does input acts few b;
      goes = on_ends k deep_unit deep_end deep_on left_over
          (record {
            body = record {
              begun = b;
              linked = rest_linked;
              end = refl;
              function = refl;
              kind = refl;
              registers = omega arith;
              outers = refl;
              enough = omega arith;
            };
            on = h;
            goes = list_ends (behind_block input acts) deep_end last_index left_over
                (record {
                  begun = unit_begun k deep_unit deep_on h;
                  linked = last_linked;
                  end = refl;
                  function = refl;
                  kind = refl;
                  registers = omega arith;
                  outers = refl;
                  enough = omega arith;
                })
                (λ label e. absurd (cc e), λ label e. absurd (cc e)) (again_does input acts few b, tt);
          });
    })

-- ---- the whole

pub deep_is : (input first : List ℕ) (acts : ℕ) → acts + 1 < 2 ^ 64 → length first ≡ memory_size →
    IsWhole (deep_whole input acts) first
deep_is input first acts few bytes =
    let l = back_of (first_frame image_parts) (main_called 0) start_linked in
    record {
      start = record { linked = start_linked; differ = one_differs; bytes = bytes; told = λ n v e. absurd (cc e) };
      made = one_made (surroundings_of (deep_image input acts)) (linked_code deep_code)
          (main_of (deep_whole input acts)) (start_point (deep_image input acts)) no_numbers W.number_declared
          (deep_only input acts);
      callee = record {
        coded = record { level = omega arith; line = omega arith; saved = omega arith; back = omega arith };
        calls = first_of (CallTo (ProcedureEntry 0)) _ (rest_of _ _ (rest_of _ _ (rest_of _ _ l)));
        place = refl;
        stands = main_linked;
        end = refl;
        kind = refl;
        labels = (
          λ label e. absurd (cc e),
          (λ label e. absurd (cc e), (λ label e. absurd (cc e), λ label e. absurd (cc e))),
        );
        acts = few;
      };
      room = record { room = omega arith; shallow = refl; parent = tt; idle = refl };
      level = refl;
      procedures = refl;
      statics = refl;
    }

pub deep_runs :
    Keeps run_keeper → (input first : List ℕ) (acts : ℕ) → acts + 1 < 2 ^ 64 → length first ≡ memory_size →
    Comes (linked_code deep_code) 0 (first_family first (services_of (start_point (deep_image input acts))))
    (services_of (start_point (deep_image input acts))) (never_in (deep_image input acts))
    (run deep_program (suc acts) acts (first_state input))
deep_runs keeps input first acts few bytes =
    unit_program_runs keeps (deep_whole input acts) first (deep_is input first acts few bytes)
    (λ b. deep_does input acts few b)

-- ---- what the program comes to

unfoldable flows : Unit {0}
unfolding F.give F.◌>>=◌ F.◌>>◌ F.looked F.stored F.act F.finish F.returns F.jumps F.choose F.given F.list_from
    F.leaving
flows = tt

unfoldable values : Unit {0}
unfolding V.number V.designated V.located V.numbers V.variable_designated V.part_designated V.stored_value R.or_error
    R.demanded R.value_of R.raised R.unit_run R.error R.error_unit_run P.element_stored M.assigned
values = tt

unfoldable makings : Unit {0}
unfolding K.variables_made K.automatic_made K.extents K.variable_made K.parameters_bound
makings = tt

unfoldable statements : Unit {0}
unfolding M.statement M.statements M.list M.list_with M.block_variables_made M.entry_act M.block_list M.block_body
    M.established_by
statements = tt

pub deep_ends :
    (input : List ℕ) →
    M.meaning deep_program input 12
    ≡ Some (record {
      acts = 12;
      output = [];
      raised = (C.FixedOverflow, 20) ∷ (C.FixedOverflow, 20) ∷ [];
      end = E.Finished;
    })
unfolding M.meaning M.run M.entered M.block_run flows values makings statements
deep_ends input = refl
