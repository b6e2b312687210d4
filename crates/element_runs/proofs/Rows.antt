-- The worked row: all that is premised of the program is computed.
use Rattle.std.proofs.Common.{◌≡◌, ℕ, zero, suc, ◌+◌, ◌^◌, ◌<◌, List, [], ◌∷◌, ◌++◌, inl, length, map, Some}
use Rattle.std.proofs.Common.{inr, true, false, refl, sym, ap, ◌∙◌, subst, arith}
use Rattle.std.specs.Prelude.{ℤ}
use Rattle.pli_types.specs.Templates.{Template}
use Rattle.pli_serving.specs.SignatureService.{same_template}
use Rattle.storage_relation.specs.Standing.{IsValued, leaf_in}
use Rattle.storage_relation.specs.Telling.{IsOf}
use Rattle.rv_meaning.specs.Machine.{memory_size}
use Rattle.pli_language.specs.declared.condition.Condition.{Condition}
use Rattle.pli_language.specs.declared.condition.Condition.TheVariants as C
use Rattle.pli_typing.specs.TypedTree as Y
use Rattle.pli_meaning.specs.declared.outcome.End.TheVariants as E
use Rattle.pli_meaning.specs.Control as F
use Rattle.pli_meaning.specs.Evaluating as V
use Rattle.pli_meaning.specs.Executing as M
use Rattle.pli_meaning.specs.Executing.{entered, run}
use Rattle.pli_meaning.specs.Making as K
use Rattle.pli_meaning.specs.Placing as P
use Rattle.pli_meaning.specs.Raising as R
use Rattle.pli_meaning.specs.StorageState.{first_state, force}
use Rattle.area_keeper.specs.KeeperLaws.{Keeps}
use Rattle.run_keeper.specs.RunKeeper.{run_keeper}
use Rattle.pli_serving.specs.Templates.{template_of}
use Rattle.pli_coding.specs.Allocating.{act_code}
use Rattle.pli_coding.specs.Assembly.{CallTo, Mark, ProcedureEntry, ReturnPlace, size_of}
use Rattle.pli_coding.specs.Environments.{none_taken}
use Rattle.pli_coding.specs.Images.{first_frame, linked_code, raise_code}
use Rattle.pli_coding.specs.Linking.{links_of}
use Rattle.pli_coding.specs.Procedures.{no_value}
use Rattle.pli_coding.specs.SignatureTable.{table_of}
use Rattle.pli_coding.specs.Statements.{stmt_code, stmts_code}
use Rattle.storage_relation.specs.Served.{AllDiffer}
use Rattle.activation_relation.specs.Layers.{Point, services_of}
use Rattle.activation_relation.specs.ServiceLaws.{IsSystem}
use Rattle.run_steps.specs.Items.{Linked}
use Rattle.run_steps.proofs.Jumps.{back_of, first_of, front_of, rest_of}
use Rattle.run_steps.proofs.Linking.{has_items, linked_length}
use Rattle.run_steps.specs.Reach.{Comes}
use Rattle.program_runs.specs.Calls.{AreMade, Callee, block_at, body_index, left_over}
use Rattle.program_runs.specs.Procedures.{begin_of, end_of, procedure_code}
use Rattle.program_runs.specs.Programs.{IsWhole, Whole, main_of}
use Rattle.program_runs.specs.Starts.{first_family, image_parts, main_called, no_numbers, start_of, never_in}
use Rattle.program_runs.specs.Starts.{start_point, surroundings_of}
use Rattle.program_runs.specs.Statements.{Block, Does, EachDoes, IsAmong, IsBegun, StandAt}
use Rattle.program_runs.proofs.Calls.{none_made}
use Rattle.program_runs.proofs.Programs.{program_runs}
use Rattle.program_runs.proofs.Rows.{is_datum, names_none, none_named}
use Rattle.program_runs.proofs.Statements.{none_does}
use Rattle.program_runs.proofs.Gotos.{goto_does}
use Rattle.program_runs.proofs.VariableRows.{number_valued}
use Rattle.program_runs.specs.Variables.{Declared, generation_for}
use Rattle.expression_runs.proofs.Rows.{one_label_stands}
use Rattle.expression_runs.specs.Assignments.{IsAssignment, setting_of}
use Rattle.expression_runs.specs.Laws as L
use Rattle.expression_runs.specs.Raises.{IsUnraised, Routines}
use Rattle.expression_runs.specs.Values.{OverflowComes}
use Rattle.expression_runs.specs.Variables.{IsNumber}
use Rattle.expression_runs.proofs.Assignments as X
use Rattle.expression_runs.proofs.Operands.{constant_does}
use Rattle.expression_runs.proofs.Raises.{overflow_ends}
use Rattle.expression_runs.proofs.Sums.{sum_does}
use Rattle.expression_runs.proofs.VariablePoints.{variable_does}
use Rattle.function_runs.specs.FunctionCalls.{called_from}
use Rattle.function_runs.specs.Functions.{IsFunction, function_block, function_code}
use Rattle.function_runs.specs.Functions.{function_tail}
use Rattle.function_runs.proofs.FunctionCalls.{function_does}
use Rattle.function_runs.specs.OuterVariables.{IsInside}
use Rattle.element_runs.proofs.Outer.{function_known, outer_array}
use Rattle.function_runs.proofs.ReturnValues.{return_does}
use Rattle.variable_runs.specs.Lists.{AreAll, newest_all}
use Rattle.variable_runs.proofs.Known.{known_number, known_own}
use Rattle.variable_runs.proofs.Lists.{all_procedure}
use Rattle.element_runs.specs.Arrays.{IsArray, element}
use Rattle.element_runs.specs.Laws.{IsElementAssignment}
use Rattle.element_runs.specs.Rows.{array_made, inner_body, inner_coded, inner_entry, inner_environment}
use Rattle.element_runs.specs.Rows.{inner_procedure, main_coded, number_made, pick_again, pick_array, pick_back}
use Rattle.element_runs.specs.Rows.{pick_given, pick_next, pick_variable}
use Rattle.element_runs.specs.Rows.{pick_begun, pick_body, pick_bounds, pick_code, pick_end, pick_entry}
use Rattle.element_runs.specs.Rows.{pick_environment, pick_first, pick_image, pick_inner, pick_label, pick_last}
use Rattle.element_runs.specs.Rows.{pick_main}
use Rattle.element_runs.specs.Rows.{pick_program, pick_rest, pick_return, pick_spot, pick_sum, picked}
use Rattle.element_runs.specs.Subscripts.{IsSubscript, IsUncaught}
use Rattle.element_runs.proofs.Assignments.{assign_does}
use Rattle.element_runs.proofs.Elements.{element_does}
use Rattle.element_runs.proofs.Outside.{subscripts_end}

-- ---- its code

pick_linked : Linked (links_of pick_code) (linked_code pick_code) 0 pick_code
unfolding names_none is_datum
pick_linked =
    let n = linked_length (links_of pick_code) 0 pick_code in
    record {
      small' = omega (arith, n);
      inside = omega (arith, n);
      has = has_items (links_of pick_code) pick_code refl;
      named = λ d h. absurd (none_named d pick_code refl h);
    }

start_linked : Linked (links_of pick_code) (linked_code pick_code) 0 (start_of 0)
start_linked = front_of (start_of 0) (raise_code ++ (main_coded ++ inner_coded)) pick_linked

raise_linked : Linked (links_of pick_code) (linked_code pick_code) (size_of (start_of 0)) raise_code
raise_linked =
    front_of raise_code (main_coded ++ inner_coded)
    (back_of (start_of 0) (raise_code ++ (main_coded ++ inner_coded)) pick_linked)

both_linked : Linked (links_of pick_code) (linked_code pick_code) pick_entry (main_coded ++ inner_coded)
both_linked =
    back_of raise_code (main_coded ++ inner_coded)
    (back_of (start_of 0) (raise_code ++ (main_coded ++ inner_coded)) pick_linked)

main_linked :
    Linked (links_of pick_code) (linked_code pick_code) pick_entry (procedure_code pick_environment pick_main)
main_linked =
    rest_of (Mark (ProcedureEntry 0)) (procedure_code pick_environment pick_main)
    (front_of main_coded inner_coded both_linked)

inner_linked :
    Linked (links_of pick_code) (linked_code pick_code) inner_entry (function_code inner_environment pick_inner)
inner_linked =
    rest_of (Mark (ProcedureEntry 1)) (function_code inner_environment pick_inner)
    (back_of main_coded inner_coded both_linked)

abbrev pub pick_start : ℕ
pick_start = pick_entry + size_of (begin_of pick_main) + size_of pick_main.variables + size_of (act_code 1)

abbrev pub pick_finish : ℕ
pick_finish = pick_start + size_of (stmts_code pick_environment none_taken pick_body)

abbrev inner_start : ℕ
inner_start = inner_entry + size_of (begin_of pick_inner) + 0 + size_of (act_code 2)

body_linked :
    Linked (links_of pick_code) (linked_code pick_code) pick_start
    (stmts_code pick_environment none_taken pick_body)
body_linked =
    let one = act_code 1 in
    let body = stmts_code pick_environment none_taken pick_body in
    let tail = Mark (ReturnPlace 0) ∷ end_of pick_main in
    let rest = one ++ (body ++ tail) in
    front_of body tail
    (back_of one (body ++ tail)
    (back_of pick_main.variables rest (back_of (begin_of pick_main) (pick_main.variables ++ rest) main_linked)))

inner_body_linked :
    Linked (links_of pick_code) (linked_code pick_code) inner_start
    (stmts_code inner_environment none_taken inner_body)
inner_body_linked =
    let one = act_code 2 in
    let body = stmts_code inner_environment none_taken inner_body in
    let tail = function_tail pick_inner in
    let rest = one ++ (body ++ tail) in
    front_of body tail
    (back_of one (body ++ tail) (back_of [] rest (back_of (begin_of pick_inner) rest inner_linked)))

-- ---- its variables

two_differ :
    (t u : Template) → same_template t t ≡ true → same_template u u ≡ true → same_template t u ≡ false →
    same_template u t ≡ false → AllDiffer (t ∷ u ∷ [])
two_differ t u tt' uu tu ut zero zero a b e f =
    let ea : t ≡ a = cc e in
    let eb : t ≡ b = cc f in
    ap (λ x. same_template x b) (sym ea) ∙ ap (λ x. same_template t x) (sym eb) ∙ tt'
two_differ t u tt' uu tu ut zero (suc zero) a b e f =
    let ea : t ≡ a = cc e in
    let eb : u ≡ b = cc f in
    ap (λ x. same_template x b) (sym ea) ∙ ap (λ x. same_template t x) (sym eb) ∙ tu
two_differ t u tt' uu tu ut (suc zero) zero a b e f =
    let ea : u ≡ a = cc e in
    let eb : t ≡ b = cc f in
    ap (λ x. same_template x b) (sym ea) ∙ ap (λ x. same_template u x) (sym eb) ∙ ut
two_differ t u tt' uu tu ut (suc zero) (suc zero) a b e f =
    let ea : u ≡ a = cc e in
    let eb : u ≡ b = cc f in
    ap (λ x. same_template x b) (sym ea) ∙ ap (λ x. same_template u x) (sym eb) ∙ uu
two_differ t u tt' uu tu ut zero (suc (suc j)) a b e f = absurd (cc f)
two_differ t u tt' uu tu ut (suc zero) (suc (suc j)) a b e f = absurd (cc f)
two_differ t u tt' uu tu ut (suc (suc i)) j a b e f = absurd (cc e)

both_differ : AllDiffer (map template_of (table_of pick_program))
both_differ = two_differ _ _ refl refl refl refl

pub array_valued : IsValued (generation_for array_made)
array_valued leaf is less within = by_leaf leaf is less
  where
    by_leaf :
        (leaf : ℕ) (is : List ℤ) → leaf < 1 →
        IsOf (leaf_in (generation_for array_made) leaf).kind ((generation_for array_made).values leaf is)
    by_leaf zero is less = (omega arith, refl)
    by_leaf (suc leaf) is less = absurd (omega (arith, less))

abbrev pub pick_variables : List Declared
pick_variables = array_made ∷ number_made ∷ []

abbrev pub pick_whole : (input : List ℕ) → (acts : ℕ) → Whole
pick_whole input acts =
    record {
      image = pick_image input acts;
      program = pick_program;
      main = pick_main;
      others = inner_procedure ∷ [];
      environment = pick_environment;
      entry = pick_entry;
      end = pick_finish;
      made = newest_all image_parts pick_variables;
    }

pick_all :
    (input : List ℕ) (acts : ℕ) →
    AreAll (surroundings_of (pick_image input acts)) (main_of (pick_whole input acts))
    (start_point (pick_image input acts)) no_numbers pick_variables
pick_all input acts =
    let n = linked_length (links_of pick_code) 0 pick_code in
    record {
      kind = refl;
      those = inl (refl, refl, inl (refl, refl, tt));
      listed = (
        record { class = refl; evaluations = refl; late = omega arith; table = refl },
        (record { class = refl; evaluations = refl; late = omega arith; table = refl }, tt),
      );
      code = refl;
      made = refl;
      parts = refl;
      few = omega arith;
      declared = (
        inl (record {
          newest = refl;
          here = refl;
          holds = omega arith;
          size = omega arith;
          fits = omega arith;
          even = refl;
          low = omega (arith, n);
          shape = refl;
          number = omega arith;
          initial = refl;
          none = refl;
          plain = refl;
          fixed = refl;
          values = (tt, tt);
          valued = array_valued;
          limit = refl;
        }),
        (
          inl (record {
            newest = refl;
            here = refl;
            holds = omega arith;
            size = omega arith;
            fits = omega arith;
            even = refl;
            low = omega (arith, n);
            shape = refl;
            number = omega arith;
            initial = refl;
            none = refl;
            plain = refl;
            fixed = refl;
            values = (tt, tt);
            valued = number_valued;
            limit = refl;
          }),
          tt,
        ),
      );
    }

abbrev pub pick_block : (input : List ℕ) → (acts : ℕ) → Block
pick_block input acts =
    block_at (surroundings_of (pick_image input acts)) (linked_code pick_code) (main_of (pick_whole input acts))
    (start_point (pick_image input acts)) no_numbers

pick_number : (input : List ℕ) (acts : ℕ) → IsBegun (pick_block input acts) → IsNumber (pick_block input acts) pick_spot
pick_number input acts b =
    known_number (pick_block input acts) pick_spot []
    (known_own (surroundings_of (pick_image input acts)) (linked_code pick_code) (main_of (pick_whole input acts))
    (start_point (pick_image input acts)) no_numbers pick_variables number_made pick_spot
    (record { high = omega arith; inside = omega arith }) (pick_all input acts) (inr (inl refl))
    (record { declared = refl; index = refl; level = refl; own = refl; place = refl }) b)

array_known :
    (input : List ℕ) (acts : ℕ) → IsBegun (pick_block input acts) →
    IsArray (pick_block input acts) pick_array pick_bounds
array_known input acts b =
    record {
      initial = [];
      known =
          known_own (surroundings_of (pick_image input acts)) (linked_code pick_code) (main_of (pick_whole input acts))
          (start_point (pick_image input acts)) no_numbers pick_variables array_made pick_array
          (record { high = omega arith; inside = omega arith }) (pick_all input acts) (inl refl)
          (record { declared = refl; index = refl; level = refl; own = refl; place = refl }) b;
      bounds = record { lower = refl; upper = refl; order = refl };
    }

-- ---- its function

abbrev routines : Routines (links_of pick_code) (linked_code pick_code)
routines = record { at = size_of (start_of 0); linked = raise_linked; condition = refl; end = omega arith }

abbrev pub pick_callee : (more : ℕ) → Callee
pick_callee more =
    record {
      procedure = pick_inner;
      calling = record {
        parent = 1;
        call = 0;
        entry = inner_entry;
        end = inner_start + size_of (stmts_code inner_environment none_taken inner_body) + size_of (no_value 2);
      };
      environment = inner_environment;
      made = λ q. q;
      around = record { program = pick_program; enter = entered pick_program more; turns = suc more; line = 0 };
    }

inner_is :
    (input : List ℕ) (acts more : ℕ) → acts + 1 < 2 ^ 64 →
    IsFunction (surroundings_of (pick_image input acts)) (linked_code pick_code) (pick_callee more)
inner_is input acts more few =
    record {
      level = omega arith;
      line = omega arith;
      saved = omega arith;
      place = refl;
      stands = inner_linked;
      end = refl;
      kind = refl;
      labels = (λ label e. absurd (cc e), λ label e. absurd (cc e));
      acts = few;
      routines = routines;
      raises = refl;
    }

abbrev inner_block : (input : List ℕ) → (acts more call : ℕ) → Point → (numbers : ℕ → ℕ) → Block
inner_block input acts more call p numbers =
    function_block (surroundings_of (pick_image input acts)) (linked_code pick_code)
    (called_from (pick_callee more) call) p numbers

inner_system :
    (input : List ℕ) (acts more call : ℕ) (p : Point) (numbers : ℕ → ℕ) (condition : Condition) →
    IsAmong (pick_block input acts) numbers p →
    IsSystem (force (pick_block input acts).first.state.activations condition) →
    IsSystem (force (inner_block input acts more call p numbers).first.state.activations condition)
inner_system input acts more call p numbers condition o h =
    subst (λ xs. IsSystem (force xs condition)) (sym o.later.activations) h

inner_made :
    (input : List ℕ) (acts more call : ℕ) (p : Point) (numbers : ℕ → ℕ) → IsAmong (pick_block input acts) numbers p →
    AreMade (surroundings_of (pick_image input acts)) (linked_code pick_code) (called_from (pick_callee more) call) p
    numbers
    × IsSystem (force (inner_block input acts more call p numbers).first.state.activations C.Error)
inner_made input acts more call p numbers o =
    let c = called_from (pick_callee more) call in (
      none_made (surroundings_of (pick_image input acts)) (linked_code pick_code) c p numbers refl refl (refl, refl),
      inner_system input acts more call p numbers C.Error o tt,
    )

inner_each :
    (input : List ℕ) (acts more call : ℕ) (p : Point) (numbers : ℕ → ℕ) → acts + 1 < 2 ^ 64 →
    IsBegun (pick_block input acts) → IsAmong (pick_block input acts) numbers p →
    IsBegun (inner_block input acts more call p numbers) →
    EachDoes (inner_block input acts more call p numbers) [] inner_body (body_index (pick_callee more)) left_over
inner_each input acts more call p numbers few b o b' =
    let k = inner_block input acts more call p numbers in
    let n = linked_length (links_of pick_code) 0 pick_code in
    let three = setting_of k [] 3 100 in
    let inside : IsInside (pick_block input acts) (called_from (pick_callee more) call) pick_array =
    record {
      begun = b;
      level = refl;
      parent = refl;
      inner = refl;
      further = omega arith;
      few = omega arith;
      program = refl;
      parts = refl;
    } in
    let made = (inner_made input acts more call p numbers o).0 in
    let is = outer_array (pick_block input acts) k pick_array pick_bounds
    (λ d known. function_known (pick_block input acts) (called_from (pick_callee more) call) pick_array d inside known p
    numbers o made b') (array_known input acts b) in
    let outside = subscripts_end three
    (record {
      routines = routines;
      place = refl;
      error = inner_system input acts more call p numbers C.Error o tt;
      acts = few;
      most = omega arith;
    }) in (
      return_does k [] (Y.NumberIn (element pick_array (Y.NumberConstant 1))) 3 _ left_over 0 100
          (record {
            act = record { line_fits = omega arith; acts = few };
            begun = b';
            owner = refl;
            end = refl;
            near = omega arith;
            enough = omega arith;
            function = refl;
            registers = omega arith;
            held = omega arith;
            kind = refl;
            saved = omega arith;
            statement = front_of (stmt_code inner_environment none_taken pick_return) [] inner_body_linked;
            paid = omega (arith, n);
          })
          (element_does three pick_array pick_bounds (Y.NumberConstant 1) 0 b' is outside
          (inr (inl (record { value = 1; is = refl; few = omega arith })))),
      tt,
    )

-- ---- its statements

unraised :
    (input : List ℕ) (acts line : ℕ) → acts + 1 < 2 ^ 64 →
    IsUnraised (setting_of (pick_block input acts) (pick_label ∷ []) line 200)
unraised input acts line few =
    record { routines = routines; overflow = tt; error = tt; acts = few; most = omega arith }

uncaught :
    (input : List ℕ) (acts line : ℕ) → acts + 1 < 2 ^ 64 →
    IsUncaught (setting_of (pick_block input acts) (pick_label ∷ []) line 200)
uncaught input acts line few =
    record { routines = routines; place = refl; error = tt; acts = few; most = omega arith }

one_is : (input : List ℕ) (acts line : ℕ) →
    IsSubscript (setting_of (pick_block input acts) (pick_label ∷ []) line 200) 1 0 (Y.NumberConstant 1)
one_is input acts line = inr (inl (record { value = 1; is = refl; few = omega arith }))

variable_is : (input : List ℕ) (acts line taken : ℕ) → IsBegun (pick_block input acts) →
    IsSubscript (setting_of (pick_block input acts) (pick_label ∷ []) line 200) taken 0 pick_variable
variable_is input acts line taken b =
    inr (inr (record { spot = pick_spot; is = refl; number = pick_number input acts b }))

first_is :
    (input : List ℕ) (acts : ℕ) → acts + 1 < 2 ^ 64 → IsBegun (pick_block input acts) →
    IsAssignment (pick_block input acts) pick_spot (Y.NumberConstant 2) 5 pick_start 0 200
first_is input acts few b =
    let n = linked_length (links_of pick_code) 0 pick_code in
    record {
      act = record { line_fits = omega arith; acts = few };
      begun = b;
      number = pick_number input acts b;
      registers = omega arith;
      held = omega arith;
      statement = front_of (stmt_code pick_environment none_taken pick_first)
          (stmts_code pick_environment none_taken pick_rest) body_linked;
      paid = omega (arith, n);
    }

abbrev given_index : ℕ
given_index = pick_start + size_of (stmt_code pick_environment none_taken pick_first)

abbrev begun_index : ℕ
begun_index = given_index + size_of (stmt_code pick_environment none_taken pick_given)

abbrev again_index : ℕ
again_index = begun_index + size_of (stmt_code pick_environment none_taken pick_begun)

abbrev back_index : ℕ
back_index = again_index + size_of (stmt_code pick_environment none_taken pick_again)

rest_linked :
    Linked (links_of pick_code) (linked_code pick_code) given_index (stmts_code pick_environment none_taken pick_rest)
rest_linked =
    back_of (stmt_code pick_environment none_taken pick_first) (stmts_code pick_environment none_taken pick_rest)
    body_linked

next_linked :
    Linked (links_of pick_code) (linked_code pick_code) begun_index (stmts_code pick_environment none_taken pick_next)
next_linked =
    back_of (stmt_code pick_environment none_taken pick_given) (stmts_code pick_environment none_taken pick_next)
    rest_linked

last_linked :
    Linked (links_of pick_code) (linked_code pick_code) again_index
    (stmt_code pick_environment none_taken pick_again ++ stmts_code pick_environment none_taken pick_end)
last_linked =
    rest_of _ _
    (back_of (stmt_code pick_environment none_taken pick_begun) (stmts_code pick_environment none_taken pick_last)
    next_linked)

given_is :
    (input : List ℕ) (acts : ℕ) → acts + 1 < 2 ^ 64 → IsBegun (pick_block input acts) →
    IsElementAssignment (pick_block input acts) pick_array pick_bounds (Y.NumberConstant 1) pick_variable 6 given_index
    0 200
given_is input acts few b =
    let n = linked_length (links_of pick_code) 0 pick_code in
    record {
      act = record { line_fits = omega arith; acts = few };
      begun = b;
      array = array_known input acts b;
      registers = omega arith;
      held = omega arith;
      statement = front_of (stmt_code pick_environment none_taken pick_given)
          (stmts_code pick_environment none_taken pick_next) rest_linked;
      paid = omega (arith, n);
    }

begun_is :
    (input : List ℕ) (acts : ℕ) → acts + 1 < 2 ^ 64 → IsBegun (pick_block input acts) →
    IsElementAssignment (pick_block input acts) pick_array pick_bounds pick_variable (Y.NumberConstant 536870912) 7
    begun_index 0 200
begun_is input acts few b =
    let n = linked_length (links_of pick_code) 0 pick_code in
    record {
      act = record { line_fits = omega arith; acts = few };
      begun = b;
      array = array_known input acts b;
      registers = omega arith;
      held = omega arith;
      statement = front_of (stmt_code pick_environment none_taken pick_begun)
          (stmts_code pick_environment none_taken pick_last) next_linked;
      paid = omega (arith, n);
    }

again_is :
    (input : List ℕ) (acts : ℕ) → acts + 1 < 2 ^ 64 → IsBegun (pick_block input acts) →
    IsElementAssignment (pick_block input acts) pick_array pick_bounds picked pick_sum 8 again_index 2 200
again_is input acts few b =
    let n = linked_length (links_of pick_code) 0 pick_code in
    record {
      act = record { line_fits = omega arith; acts = few };
      begun = b;
      array = array_known input acts b;
      registers = omega arith;
      held = omega arith;
      statement = front_of (stmt_code pick_environment none_taken pick_again)
          (stmts_code pick_environment none_taken pick_end) last_linked;
      paid = omega (arith, n);
    }

picked_is :
    (input : List ℕ) (more : ℕ) → suc more + 1 < 2 ^ 64 → IsBegun (pick_block input (suc more)) →
    L.Does (setting_of (pick_block input (suc more)) (pick_label ∷ []) 8 200) 0 picked
picked_is input more few b =
    function_does (setting_of (pick_block input (suc more)) (pick_label ∷ []) 8 200) (pick_callee more) more
    (record {
      begun = b;
      function = inner_is input (suc more) more few;
      room = record { room = omega arith; shallow = refl; parent = (omega arith, refl); idle = refl };
      level = refl;
      parent = refl;
      found = refl;
      enter = refl;
      around = refl;
      enough = omega arith;
      most = omega arith;
      words = omega arith;
    })
    (λ call p numbers o. inner_made input (suc more) more call p numbers o)
    (λ call p numbers o b'. inner_each input (suc more) more call p numbers few b o b')

again_does :
    (input : List ℕ) (acts : ℕ) → acts + 1 < 2 ^ 64 → IsBegun (pick_block input acts) →
    Does (pick_block input acts) (pick_label ∷ []) pick_again again_index left_over
again_does input zero few b =
    none_does (pick_block input zero) (pick_label ∷ []) pick_again again_index left_over b refl
again_does input (suc more) few b =
    let k = pick_block input (suc more) in
    let eight = setting_of k (pick_label ∷ []) 8 200 in
    let over : OverflowComes eight = overflow_ends eight (unraised input (suc more) 8 few) in
    let outside = subscripts_end eight (uncaught input (suc more) 8 few) in
    let is = array_known input (suc more) b in
    let does = picked_is input more few b in
    assign_does k (pick_label ∷ []) pick_array pick_bounds picked pick_sum 8 again_index left_over 1 2 200
    (again_is input (suc more) few b) outside
    (sum_does eight (Y.NumberIn (element pick_array picked)) (Y.NumberIn (element pick_array pick_variable)) 1 0 over
    (element_does eight pick_array pick_bounds picked 1 b is outside
    (inl (record { waits = refl; first = 0; does = does; enough = omega arith })))
    (element_does eight pick_array pick_bounds pick_variable 0 b is outside (variable_is input (suc more) 8 0 b)))
    (inl (record { waits = refl; first = 0; does = does; enough = omega arith }))

pub pick_each :
    (input : List ℕ) (acts : ℕ) → acts + 1 < 2 ^ 64 → IsBegun (pick_block input acts) →
    EachDoes (pick_block input acts) (pick_label ∷ []) pick_body (body_index (main_of (pick_whole input acts)))
    left_over
pick_each input acts few b =
    let k = pick_block input acts in
    let labels = pick_label ∷ [] in (
      X.assign_does k labels pick_spot (Y.NumberConstant 2) 5 pick_start left_over 0 200 (first_is input acts few b)
          (constant_does (setting_of k labels 5 200) 2 (omega arith)),
      (
        assign_does k labels pick_array pick_bounds (Y.NumberConstant 1) pick_variable 6 given_index left_over 0 0 200
            (given_is input acts few b) (subscripts_end (setting_of k labels 6 200) (uncaught input acts 6 few))
            (variable_does (setting_of k labels 6 200) pick_spot b (pick_number input acts b)) (one_is input acts 6),
        (
          assign_does k labels pick_array pick_bounds pick_variable (Y.NumberConstant 536870912) 7 begun_index left_over
              0 0 200 (begun_is input acts few b)
              (subscripts_end (setting_of k labels 7 200) (uncaught input acts 7 few))
              (constant_does (setting_of k labels 7 200) 536870912 (omega arith)) (variable_is input acts 7 1 b),
          (
            again_does input acts few b,
            (
              goto_does k labels pick_label 9 back_index left_over (record { line_fits = omega arith; acts = few })
                  (record {
                    begun = b;
                    carried = refl;
                    level = refl;
                    block = refl;
                    at = again_index;
                    place = refl;
                    near = omega arith;
                  })
                  (front_of (stmt_code pick_environment none_taken pick_back) []
                  (back_of (stmt_code pick_environment none_taken pick_again)
                  (stmts_code pick_environment none_taken pick_end) last_linked)),
              tt,
            ),
          ),
        ),
      ),
    )

-- ---- its label

labels_stand : StandAt (links_of pick_code) 0 (pick_label ∷ []) again_index
labels_stand = one_label_stands (links_of pick_code) again_index refl

-- ---- the whole

pub pick_is : (input first : List ℕ) (acts : ℕ) → acts + 1 < 2 ^ 64 → length first ≡ memory_size →
    IsWhole (pick_whole input acts) first
pick_is input first acts few bytes =
    let l = back_of (first_frame image_parts) (main_called 0) start_linked in
    record {
      start = record { linked = start_linked; differ = both_differ; bytes = bytes; told = λ n v e. absurd (cc e) };
      made = all_procedure (surroundings_of (pick_image input acts)) (linked_code pick_code)
          (main_of (pick_whole input acts)) (start_point (pick_image input acts)) no_numbers pick_variables
          (pick_all input acts);
      callee = record {
        coded = record { level = omega arith; line = omega arith; saved = omega arith; back = omega arith };
        calls = first_of (CallTo (ProcedureEntry 0)) _ (rest_of _ _ (rest_of _ _ (rest_of _ _ l)));
        place = refl;
        stands = main_linked;
        end = refl;
        kind = refl;
        labels = (
          λ label e. absurd (cc e),
          (
            λ label e. absurd (cc e),
            (λ label e. absurd (cc e), (labels_stand, (λ label e. absurd (cc e), λ label e. absurd (cc e)))),
          ),
        );
        acts = few;
      };
      room = record { room = omega arith; shallow = refl; parent = tt; idle = refl };
      level = refl;
      procedures = refl;
      statics = refl;
    }

pub pick_runs :
    Keeps run_keeper → (input first : List ℕ) (acts : ℕ) → acts + 1 < 2 ^ 64 → length first ≡ memory_size →
    Comes (linked_code pick_code) 0 (first_family first (services_of (start_point (pick_image input acts))))
    (services_of (start_point (pick_image input acts))) (never_in (pick_image input acts))
    (run pick_program (suc acts) acts (first_state input))
pick_runs keeps input first acts few bytes =
    program_runs keeps (pick_whole input acts) first (pick_is input first acts few bytes)
    (λ b. pick_each input acts few b)

-- ---- what the program comes to

unfoldable flows : Unit {0}
unfolding F.give F.◌>>=◌ F.◌>>◌ F.looked F.stored F.act F.finish F.returns F.jumps F.choose F.given F.list_from
    F.leaving
flows = tt

unfoldable values : Unit {0}
unfolding V.number V.designated V.located V.numbers V.variable_designated V.part_designated V.stored_value R.or_error
    R.demanded R.value_of R.raised R.unit_run R.error R.error_unit_run P.element_stored M.assigned
values = tt

unfoldable calls : Unit {0}
unfolding V.called V.arguments V.all_passed_last V.procedure_entered V.returned K.variables_made K.automatic_made
    K.extents K.variable_made K.parameters_bound
calls = tt

unfoldable statements : Unit {0}
unfolding M.statement M.statements M.list M.list_with M.block_variables_made M.entry_act M.block_list M.block_body
statements = tt

pub pick_ends :
    (input : List ℕ) →
    M.meaning pick_program input 16
    ≡ Some (record {
      acts = 16;
      output = [];
      raised = (C.FixedOverflow, 20) ∷ (C.Error, 20) ∷ [];
      end = E.Error 20 8;
    })
unfolding M.meaning M.run M.entered M.block_run flows values calls statements
pick_ends input = refl
