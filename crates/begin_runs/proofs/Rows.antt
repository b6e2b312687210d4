-- The worked row: all that is premised of the program is computed.
use Rattle.std.proofs.Common.{◌≡◌, ℕ, zero, suc, ◌+◌, ◌*◌, ◌^◌, ◌<◌, List, [], ◌∷◌, ◌++◌, inl, length, map, Some, Bool}
use Rattle.std.proofs.Common.{true, false, refl, sym, ap, subst, arith}
use Rattle.std.proofs.lemmas.Bool.{eqb-true}
use Rattle.std.specs.Prelude.{◌&&◌, ◌||◌, ◌==◌}
use Rattle.rv_meaning.specs.Machine.{memory_size}
use Rattle.pli_language.specs.declared.condition.Condition.TheVariants as C
use Rattle.pli_typing.specs.TypedTree as Y
use Rattle.pli_meaning.specs.declared.outcome.End.TheVariants as E
use Rattle.pli_meaning.specs.Control as F
use Rattle.pli_meaning.specs.Control.{Label, is_among}
use Rattle.pli_meaning.specs.Evaluating as V
use Rattle.pli_meaning.specs.Executing as M
use Rattle.pli_meaning.specs.Executing.{run}
use Rattle.pli_meaning.specs.Making as K
use Rattle.pli_meaning.specs.Placing as P
use Rattle.pli_meaning.specs.Raising as R
use Rattle.pli_meaning.specs.StorageState.{first_state}
use Rattle.area_keeper.specs.KeeperLaws.{Keeps}
use Rattle.run_keeper.specs.RunKeeper.{run_keeper}
use Rattle.pli_serving.specs.Templates.{template_of}
use Rattle.pli_coding.specs.Allocating.{act_code}
use Rattle.pli_coding.specs.Assembly.{CallTo, LabelPlace, Mark, ProcedureEntry, ReturnPlace, size_of}
use Rattle.pli_coding.specs.Environments.{none_taken}
use Rattle.pli_coding.specs.Images.{first_frame, linked_code, raise_code}
use Rattle.pli_coding.specs.Linking.{links_of, place_of}
use Rattle.pli_coding.specs.SignatureTable.{table_of}
use Rattle.pli_coding.specs.Statements.{stmt_code, stmts_code}
use Rattle.storage_relation.specs.Served.{AllDiffer}
use Rattle.activation_relation.specs.Layers.{services_of}
use Rattle.run_steps.specs.Items.{Linked}
use Rattle.run_steps.proofs.Jumps.{back_of, first_of, front_of, rest_of}
use Rattle.run_steps.proofs.Linking.{has_items, linked_length}
use Rattle.run_steps.specs.Reach.{Comes}
use Rattle.program_runs.specs.Calls.{block_at, body_index, left_over}
use Rattle.program_runs.specs.Procedures.{begin_of, end_of, procedure_code}
use Rattle.program_runs.specs.Programs.{IsWhole, Whole, main_of}
use Rattle.program_runs.specs.Starts.{first_family, image_parts, main_called, no_numbers, start_of, never_in}
use Rattle.program_runs.specs.Starts.{start_point, surroundings_of}
use Rattle.program_runs.specs.Statements.{Block, EachDoes, IsBegun, StandAt}
use Rattle.program_runs.specs.Variables as D
use Rattle.program_runs.specs.Variables.{IsOnly, newest_made}
use Rattle.program_runs.specs.VariableRows as W
use Rattle.program_runs.proofs.Programs.{program_runs}
use Rattle.program_runs.proofs.Rows.{is_datum, names_none, none_named}
use Rattle.program_runs.proofs.VariableProcedures.{one_made}
use Rattle.program_runs.proofs.VariableRows.{differs_alone, number_valued}
use Rattle.expression_runs.specs.Assignments.{IsAssignment, setting_of}
use Rattle.expression_runs.specs.Raises.{IsUnraised}
use Rattle.expression_runs.specs.Variables.{IsNumber, whole}
use Rattle.expression_runs.proofs.Assignments.{assign_does}
use Rattle.expression_runs.proofs.Operands.{constant_does}
use Rattle.expression_runs.proofs.Raises.{overflow_ends}
use Rattle.expression_runs.proofs.Sums.{sum_does}
use Rattle.expression_runs.proofs.VariablePoints.{variable_does}
use Rattle.activation_relation.specs.Layers.{Point}
use Rattle.std.proofs.Common.{None}
use Rattle.pli_meaning.specs.StorageState.{force, height_of}
use Rattle.pli_coding.specs.Assembly.{Code}
use Rattle.pli_coding.specs.Entries.{block_left, entered_without_texts, frame_begun, frame_ended}
use Rattle.pli_coding.specs.Environments.{Environment}
use Rattle.pli_coding.specs.Instructions.{move}
use Rattle.pli_coding.specs.Registers.{a0, frame_register}
use Rattle.pli_coding.specs.Statements.{begin_environment}
use Rattle.activation_relation.specs.ServiceLaws.{IsSystem}
use Rattle.program_runs.specs.Statements.{Does, IsAmong, as_outer}
use Rattle.program_runs.proofs.Statements.{none_does}
use Rattle.function_runs.proofs.OuterVariables.{same_ancestor}
use Rattle.begin_runs.specs.BeginBlocks.{Inner, IsBegin, inner_block, list_index}
use Rattle.begin_runs.specs.FarGotos.{Far}
use Rattle.begin_runs.specs.Rows.{add_body, add_stmt, back_body, back_stmt, begin_head, nest_add, nest_back}
use Rattle.begin_runs.specs.Rows.{nest_body, nest_code, nest_coded, nest_end, nest_entry, nest_environment, nest_first}
use Rattle.begin_runs.specs.Rows.{nest_image, nest_inner, nest_label, nest_main, nest_program, nest_rest, nest_spot}
use Rattle.begin_runs.specs.Rows.{nest_twice}
use Rattle.begin_runs.proofs.Begins.{begin_does}
use Rattle.begin_runs.proofs.FarGotos.{far_does}
use Rattle.begin_runs.proofs.InnerNumbers.{inner_number, inner_over}
use Rattle.begin_runs.proofs.InnerVariables as B

-- ---- its code

nest_linked : Linked (links_of nest_code) (linked_code nest_code) 0 nest_code
unfolding names_none is_datum
nest_linked =
    let n = linked_length (links_of nest_code) 0 nest_code in
    record {
      small' = omega (arith, n);
      inside = omega (arith, n);
      has = has_items (links_of nest_code) nest_code refl;
      named = λ d h. absurd (none_named d nest_code refl h);
    }

start_linked : Linked (links_of nest_code) (linked_code nest_code) 0 (start_of 0)
start_linked = front_of (start_of 0) (raise_code ++ nest_coded) nest_linked

raise_linked : Linked (links_of nest_code) (linked_code nest_code) (size_of (start_of 0)) raise_code
raise_linked = front_of raise_code nest_coded (back_of (start_of 0) (raise_code ++ nest_coded) nest_linked)

main_linked :
    Linked (links_of nest_code) (linked_code nest_code) nest_entry
    (procedure_code nest_environment nest_main)
main_linked =
    rest_of (Mark (ProcedureEntry 0)) (procedure_code nest_environment nest_main)
    (back_of raise_code nest_coded (back_of (start_of 0) (raise_code ++ nest_coded) nest_linked))

abbrev pub nest_start : ℕ
nest_start =
    nest_entry + size_of (begin_of nest_main) + size_of nest_main.variables + size_of (act_code 1)

abbrev pub nest_finish : ℕ
nest_finish = nest_start + size_of (stmts_code nest_environment none_taken nest_main.body)

body_linked :
    Linked (links_of nest_code) (linked_code nest_code) nest_start
    (stmts_code nest_environment none_taken nest_main.body)
body_linked =
    let one = act_code 1 in
    let body = stmts_code nest_environment none_taken nest_main.body in
    let tail = Mark (ReturnPlace 0) ∷ end_of nest_main in
    let rest = one ++ (body ++ tail) in
    front_of body tail
    (back_of one (body ++ tail)
    (back_of nest_main.variables rest (back_of (begin_of nest_main) (nest_main.variables ++ rest) main_linked)))

-- ---- its variable

one_differs : AllDiffer (map template_of (table_of nest_program))
one_differs = differs_alone (map template_of (table_of nest_program)) _ refl refl

abbrev pub nest_whole : (input : List ℕ) → (acts : ℕ) → Whole
nest_whole input acts =
    record {
      image = nest_image input acts;
      program = nest_program;
      main = nest_main;
      others = [];
      environment = nest_environment;
      entry = nest_entry;
      end = nest_finish;
      made = newest_made image_parts W.number_declared;
    }

nest_only :
    (input : List ℕ) (acts : ℕ) →
    IsOnly (surroundings_of (nest_image input acts)) (main_of (nest_whole input acts))
    (start_point (nest_image input acts)) no_numbers W.number_declared
nest_only input acts =
    let n = linked_length (links_of nest_code) 0 nest_code in
    record {
      kind = refl;
      variables = refl;
      class = refl;
      evaluations = refl;
      first = refl;
      code = refl;
      made = refl;
      table = refl;
      parts = refl;
      few = omega arith;
      declared = record {
        newest = refl;
        here = refl;
        holds = omega arith;
        size = omega arith;
        fits = omega arith;
        even = refl;
        low = omega (arith, n);
        shape = refl;
        number = omega arith;
        initial = refl;
        none = refl;
        plain = refl;
        fixed = refl;
        values = (tt, tt);
        valued = number_valued;
        limit = refl;
      };
    }

abbrev pub nest_block : (input : List ℕ) → (acts : ℕ) → Block
nest_block input acts =
    block_at (surroundings_of (nest_image input acts)) (linked_code nest_code) (main_of (nest_whole input acts))
    (start_point (nest_image input acts)) no_numbers

nest_number : (input : List ℕ) (acts : ℕ) → IsNumber (nest_block input acts) nest_spot
nest_number input acts =
    record {
      initial = [];
      declared = refl;
      serial = 1;
      binding = refl;
      living = K.living_at 1 1 (D.generation_for W.number_declared);
      lives = refl;
      shape = refl;
      base = _;
      frame = inl (refl, refl);
      at = refl;
      low = omega arith;
      inside = omega arith;
    }

-- ---- its statements

abbrev nest_labels : List Label
nest_labels = nest_label ∷ []

first_is :
    (input : List ℕ) (acts : ℕ) → acts + 1 < 2 ^ 64 → IsBegun (nest_block input acts) →
    IsAssignment (nest_block input acts) nest_spot (Y.NumberConstant 536870912) 3 nest_start 0 100
first_is input acts few b =
    let n = linked_length (links_of nest_code) 0 nest_code in
    record {
      act = record { line_fits = omega arith; acts = few };
      begun = b;
      number = nest_number input acts;
      registers = omega arith;
      held = omega arith;
      statement = front_of (stmt_code nest_environment none_taken nest_first)
          (stmts_code nest_environment none_taken nest_rest) body_linked;
      paid = omega (arith, n);
    }

abbrev again_index : ℕ
again_index = nest_start + size_of (stmt_code nest_environment none_taken nest_first)

abbrev back_index : ℕ
back_index = again_index + size_of (stmt_code nest_environment none_taken nest_add)

again_linked :
    Linked (links_of nest_code) (linked_code nest_code) again_index
    (stmt_code nest_environment none_taken nest_add ++ stmts_code nest_environment none_taken nest_end)
again_linked =
    rest_of _ _
    (back_of (stmt_code nest_environment none_taken nest_first)
    (stmts_code nest_environment none_taken nest_rest) body_linked)

add_linked :
    Linked (links_of nest_code) (linked_code nest_code) again_index (stmt_code nest_environment none_taken nest_add)
add_linked =
    front_of (stmt_code nest_environment none_taken nest_add) (stmts_code nest_environment none_taken nest_end)
    again_linked

back_linked :
    Linked (links_of nest_code) (linked_code nest_code) back_index (stmt_code nest_environment none_taken nest_back)
back_linked =
    front_of (stmt_code nest_environment none_taken nest_back) []
    (back_of (stmt_code nest_environment none_taken nest_add) (stmts_code nest_environment none_taken nest_end)
    again_linked)

-- ---- the begin blocks

abbrev inner_at : Y.BlockHead → Environment
inner_at head = begin_environment head nest_environment

abbrev begins_of : Inner → Code
begins_of x =
    move a0 frame_register ∷ (frame_begun x.words x.head.level 0 None ++ entered_without_texts 1 x.head.line)

abbrev ends_of : Inner → Code
ends_of x = block_left 0 ++ frame_ended x.words

-- the list of a begin block, in the code of its statement
list_linked :
    (x : Inner) (index : ℕ) →
    Linked (links_of nest_code) (linked_code nest_code) index
    (act_code x.head.line ++ (begins_of x ++ (stmts_code (inner_at x.head) none_taken x.body ++ ends_of x))) →
    Linked (links_of nest_code) (linked_code nest_code) (index + size_of (act_code x.head.line) + size_of (begins_of x))
    (stmts_code (inner_at x.head) none_taken x.body)
list_linked x index l =
    let list' = stmts_code (inner_at x.head) none_taken x.body in
    front_of list' (ends_of x)
    (back_of (begins_of x) (list' ++ ends_of x)
    (back_of (act_code x.head.line) (begins_of x ++ (list' ++ ends_of x)) l))

add_begins :
    (input : List ℕ) (more : ℕ) → suc more + 1 < 2 ^ 64 → IsBegun (nest_block input (suc more)) →
    IsBegin (nest_block input (suc more)) (nest_inner (begin_head 1 4) add_body more) again_index more
add_begins input more few b =
    record {
      act = record { line_fits = omega arith; acts = few };
      begun = b;
      statement = add_linked;
      kind = refl;
      words = refl;
      variables = refl;
      level = refl;
      few = omega arith;
      room = omega arith;
      shallow = refl;
      enter = refl;
      around = refl;
      enough = omega arith;
    }

back_begins :
    (input : List ℕ) (more : ℕ) → suc more + 1 < 2 ^ 64 → IsBegun (nest_block input (suc more)) →
    IsBegin (nest_block input (suc more)) (nest_inner (begin_head 2 6) back_body more) back_index more
back_begins input more few b =
    record {
      act = record { line_fits = omega arith; acts = few };
      begun = b;
      statement = back_linked;
      kind = refl;
      words = refl;
      variables = refl;
      level = refl;
      few = omega arith;
      room = omega arith;
      shallow = refl;
      enter = refl;
      around = refl;
      enough = omega arith;
    }

abbrev add_block : (input : List ℕ) → (more : ℕ) → Point → (numbers : ℕ → ℕ) → Block
add_block input more p numbers =
    inner_block (nest_block input (suc more)) nest_labels p numbers (nest_inner (begin_head 1 4) add_body more)
    again_index

abbrev back_block : (input : List ℕ) → (more : ℕ) → Point → (numbers : ℕ → ℕ) → Block
back_block input more p numbers =
    inner_block (nest_block input (suc more)) nest_labels p numbers (nest_inner (begin_head 2 6) back_body more)
    back_index

-- no unit is in force in the block around, and the begin block has none
unraised :
    (input : List ℕ) (more : ℕ) → suc more + 1 < 2 ^ 64 → (p : Point) (numbers : ℕ → ℕ) →
    IsAmong (nest_block input (suc more)) numbers p →
    IsUnraised (setting_of (add_block input more p numbers) [] 5 100)
unraised input more few p numbers o =
    record {
      routines = record {
        at = size_of (start_of 0);
        linked = raise_linked;
        condition = refl;
        end = omega arith;
      };
      overflow = subst (λ xs. IsSystem (force xs C.FixedOverflow)) (sym o.later.activations) tt;
      error = subst (λ xs. IsSystem (force xs C.Error)) (sym o.later.activations) tt;
      acts = few;
      most = omega arith;
    }

add_each :
    (input : List ℕ) (more : ℕ) → suc more + 1 < 2 ^ 64 → IsBegun (nest_block input (suc more)) → (p : Point)
    (numbers : ℕ → ℕ) → IsAmong (nest_block input (suc more)) numbers p → IsBegun (add_block input more p numbers) →
    EachDoes (add_block input more p numbers) [] add_body
    (list_index (nest_block input (suc more)) p numbers (nest_inner (begin_head 1 4) add_body more) again_index)
    left_over
add_each input more few b p numbers o b' =
    let k = nest_block input (suc more) in
    let x = nest_inner (begin_head 1 4) add_body more in
    let i = add_block input more p numbers in
    let five = setting_of i [] 5 100 in
    let made = B.none_made k x again_index p numbers refl refl (refl, refl) in
    let is = inner_number k nest_labels x again_index more nest_spot (add_begins input more few b) refl (omega arith)
    (nest_number input (suc more)) p numbers o made b' in
    let n = linked_length (links_of nest_code) 0 nest_code in
    let operand = variable_does five nest_spot b' is in (
      assign_does i [] nest_spot nest_twice 5 (list_index k p numbers x again_index) left_over 1 100
          (record {
            act = record { line_fits = omega arith; acts = few };
            begun = b';
            number = is;
            registers = omega arith;
            held = omega arith;
            statement = front_of (stmt_code (inner_at (begin_head 1 4)) none_taken add_stmt) []
                (list_linked x again_index add_linked);
            paid = omega (arith, n);
          })
          (sum_does five (Y.NumberIn (whole nest_spot)) (Y.NumberIn (whole nest_spot)) 0 0
          (overflow_ends five (unraised input more few p numbers o)) operand operand),
      tt,
    )

abbrev nest_far : (input : List ℕ) → (more : ℕ) → Far
nest_far input more =
    record {
      behind = 0;
      outer = as_outer (nest_block input (suc more)) nest_labels;
      rest = [];
      level = 0;
      label = nest_label;
      at = again_index;
    }

back_each :
    (input : List ℕ) (more : ℕ) → suc more + 1 < 2 ^ 64 → IsBegun (nest_block input (suc more)) → (p : Point)
    (numbers : ℕ → ℕ) → IsAmong (nest_block input (suc more)) numbers p → IsBegun (back_block input more p numbers) →
    EachDoes (back_block input more p numbers) [] back_body
    (list_index (nest_block input (suc more)) p numbers (nest_inner (begin_head 2 6) back_body more) back_index)
    left_over
back_each input more few b p numbers o b' =
    let k = nest_block input (suc more) in
    let x = nest_inner (begin_head 2 6) back_body more in
    let made = B.none_made k x back_index p numbers refl refl (refl, refl) in
    let over = inner_over k nest_labels x back_index more (back_begins input more few b) refl p numbers made b' in (
      far_does (back_block input more p numbers) [] (nest_far input more) 7 (list_index k p numbers x back_index)
          left_over (record { line_fits = omega arith; acts = few })
          (record {
            begun = b';
            there = refl;
            carried = refl;
            own = refl;
            inner = omega arith;
            few = omega arith;
            found = ap height_of (same_ancestor 0 over b o (omega arith));
            registers = omega arith;
            entries = refl;
            edits = refl;
            top = refl;
            block = refl;
            place = refl;
            near = omega arith;
          })
          (front_of (stmt_code (inner_at (begin_head 2 6)) none_taken back_stmt) []
          (list_linked x back_index back_linked)),
      tt,
    )

-- where no act is allowed there is no such point
add_does :
    (input : List ℕ) (acts : ℕ) → acts + 1 < 2 ^ 64 → IsBegun (nest_block input acts) →
    Does (nest_block input acts) nest_labels nest_add again_index left_over
add_does input zero few b = none_does (nest_block input zero) nest_labels nest_add again_index left_over b refl
add_does input (suc more) few b =
    begin_does (nest_block input (suc more)) nest_labels (nest_inner (begin_head 1 4) add_body more) again_index
    left_over more (add_begins input more few b)
    (λ p numbers o later. (
      B.none_made (nest_block input (suc more)) (nest_inner (begin_head 1 4) add_body more) again_index p numbers refl
          refl (refl, refl),
      (λ label e. absurd (cc e), λ label e. absurd (cc e)),
    ))
    (λ p numbers o later b'. add_each input more few b p numbers o b')

back_does :
    (input : List ℕ) (acts : ℕ) → acts + 1 < 2 ^ 64 → IsBegun (nest_block input acts) →
    Does (nest_block input acts) nest_labels nest_back back_index left_over
back_does input zero few b = none_does (nest_block input zero) nest_labels nest_back back_index left_over b refl
back_does input (suc more) few b =
    begin_does (nest_block input (suc more)) nest_labels (nest_inner (begin_head 2 6) back_body more) back_index
    left_over more (back_begins input more few b)
    (λ p numbers o later. (
      B.none_made (nest_block input (suc more)) (nest_inner (begin_head 2 6) back_body more) back_index p numbers refl
          refl (refl, refl),
      (λ label e. absurd (cc e), λ label e. absurd (cc e)),
    ))
    (λ p numbers o later b'. back_each input more few b p numbers o b')

pub nest_each :
    (input : List ℕ) (acts : ℕ) → acts + 1 < 2 ^ 64 → IsBegun (nest_block input acts) →
    EachDoes (nest_block input acts) nest_labels nest_body (body_index (main_of (nest_whole input acts))) left_over
nest_each input acts few b = (
  assign_does (nest_block input acts) nest_labels nest_spot (Y.NumberConstant 536870912) 3 nest_start left_over 0 100
      (first_is input acts few b)
      (constant_does (setting_of (nest_block input acts) nest_labels 3 100) 536870912 (omega arith)),
  (add_does input acts few b, (back_does input acts few b, tt)),
)

-- ---- its label

label_is : (label : Label) → is_among label (nest_label ∷ []) ≡ true → label ≡ nest_label
label_is [] e = absurd (cc e)
label_is (x ∷ []) e = by (x == 76) refl e
  where
    by : (q : Bool) → (x == 76) ≡ q → (q && true) || false ≡ true → x ∷ [] ≡ 76 ∷ []
    by true h e = ap (λ n. n ∷ []) (eqb-true x 76 h)
    by false h e = absurd (cc e)
label_is (x ∷ y ∷ ys) e = by (x == 76) e
  where
    by : (q : Bool) → (q && false) || false ≡ true → x ∷ y ∷ ys ≡ 76 ∷ []
    by true e = absurd (cc e)
    by false e = absurd (cc e)

labels_stand : StandAt (links_of nest_code) 0 (nest_label ∷ []) again_index
labels_stand label e =
    subst (λ l. place_of (links_of nest_code) (LabelPlace 0 l) ≡ 4 * again_index) (sym (label_is label e)) refl

-- ---- the whole

pub nest_is : (input first : List ℕ) (acts : ℕ) → acts + 1 < 2 ^ 64 → length first ≡ memory_size →
    IsWhole (nest_whole input acts) first
nest_is input first acts few bytes =
    let l = back_of (first_frame image_parts) (main_called 0) start_linked in
    record {
      start = record { linked = start_linked; differ = one_differs; bytes = bytes; told = λ n v e. absurd (cc e) };
      made = one_made (surroundings_of (nest_image input acts)) (linked_code nest_code)
          (main_of (nest_whole input acts)) (start_point (nest_image input acts)) no_numbers W.number_declared
          (nest_only input acts);
      callee = record {
        coded = record { level = omega arith; line = omega arith; saved = omega arith; back = omega arith };
        calls = first_of (CallTo (ProcedureEntry 0)) _ (rest_of _ _ (rest_of _ _ (rest_of _ _ l)));
        place = refl;
        stands = main_linked;
        end = refl;
        kind = refl;
        labels = (λ label e. absurd (cc e), (labels_stand, (λ label e. absurd (cc e), λ label e. absurd (cc e))));
        acts = few;
      };
      room = record { room = omega arith; shallow = refl; parent = tt; idle = refl };
      level = refl;
      procedures = refl;
      statics = refl;
    }

pub nest_runs :
    Keeps run_keeper → (input first : List ℕ) (acts : ℕ) → acts + 1 < 2 ^ 64 → length first ≡ memory_size →
    Comes (linked_code nest_code) 0 (first_family first (services_of (start_point (nest_image input acts))))
    (services_of (start_point (nest_image input acts))) (never_in (nest_image input acts))
    (run nest_program (suc acts) acts (first_state input))
nest_runs keeps input first acts few bytes =
    program_runs keeps (nest_whole input acts) first (nest_is input first acts few bytes)
    (λ b. nest_each input acts few b)

-- ---- what the program comes to

unfoldable flows : Unit {0}
unfolding F.give F.◌>>=◌ F.◌>>◌ F.looked F.stored F.act F.finish F.returns F.jumps F.choose F.given F.list_from
    F.leaving
flows = tt

unfoldable values : Unit {0}
unfolding V.number V.designated V.located V.numbers V.variable_designated V.part_designated V.stored_value R.or_error
    R.demanded R.value_of R.raised R.unit_run R.error R.error_unit_run P.element_stored M.assigned
values = tt

unfoldable makings : Unit {0}
unfolding K.variables_made K.automatic_made K.extents K.variable_made K.parameters_bound
makings = tt

unfoldable statements : Unit {0}
unfolding M.statement M.statements M.list M.list_with M.block_variables_made M.entry_act M.block_list M.block_body
statements = tt

pub nest_ends :
    (input : List ℕ) →
    M.meaning nest_program input 11
    ≡ Some (record {
      acts = 11;
      output = [];
      raised = (C.FixedOverflow, 20) ∷ (C.Error, 20) ∷ [];
      end = E.Error 20 5;
    })
unfolding M.meaning M.run M.entered M.block_run flows values makings statements
nest_ends input = refl
