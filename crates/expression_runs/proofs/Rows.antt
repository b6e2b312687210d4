-- The worked row: all that is premised of the program is computed.
use Rattle.std.proofs.Common.{◌≡◌, ℕ, zero, suc, ◌+◌, ◌*◌, ◌^◌, ◌<◌, List, [], ◌∷◌, ◌++◌, inl, length, map, Some, Bool}
use Rattle.std.proofs.Common.{true, false, refl, sym, ap, ◌∙◌, subst, arith}
use Rattle.std.proofs.lemmas.Bool.{eqb-true}
use Rattle.std.specs.Prelude.{ℤ, ◌&&◌, ◌||◌, ◌==◌}
use Rattle.rv_meaning.specs.Machine.{memory_size}
use Rattle.pli_language.specs.declared.condition.Condition.TheVariants as C
use Rattle.pli_language.specs.Keywords.{same_bytes}
use Rattle.pli_typing.specs.TypedTree as Y
use Rattle.pli_meaning.specs.declared.outcome.End.TheVariants as E
use Rattle.pli_meaning.specs.Control as F
use Rattle.pli_meaning.specs.Control.{Label, is_among}
use Rattle.pli_meaning.specs.Evaluating as V
use Rattle.pli_meaning.specs.Executing as M
use Rattle.pli_meaning.specs.Executing.{run}
use Rattle.pli_meaning.specs.Making as K
use Rattle.pli_meaning.specs.Placing as P
use Rattle.pli_meaning.specs.Raising as R
use Rattle.pli_meaning.specs.StorageState.{first_state}
use Rattle.area_keeper.specs.KeeperLaws.{Keeps}
use Rattle.run_keeper.specs.RunKeeper.{run_keeper}
use Rattle.pli_serving.specs.Templates.{template_of}
use Rattle.pli_coding.specs.Allocating.{act_code}
use Rattle.pli_coding.specs.Assembly.{CallTo, LabelPlace, Mark, ProcedureEntry, ReturnPlace, size_of}
use Rattle.pli_coding.specs.Environments.{none_taken}
use Rattle.pli_coding.specs.Images.{first_frame, linked_code, raise_code}
use Rattle.pli_coding.specs.Linking.{Links, links_of, place_of}
use Rattle.pli_coding.specs.SignatureTable.{table_of}
use Rattle.pli_coding.specs.Statements.{stmt_code, stmts_code}
use Rattle.storage_relation.specs.Served.{AllDiffer}
use Rattle.activation_relation.specs.Layers.{services_of}
use Rattle.run_steps.specs.Items.{Linked}
use Rattle.run_steps.proofs.Jumps.{back_of, first_of, front_of, rest_of}
use Rattle.run_steps.proofs.Linking.{has_items, linked_length}
use Rattle.run_steps.specs.Reach.{Comes}
use Rattle.program_runs.specs.Calls.{block_at, body_index, left_over}
use Rattle.program_runs.specs.Procedures.{begin_of, end_of, procedure_code}
use Rattle.program_runs.specs.Programs.{IsWhole, Whole, main_of}
use Rattle.program_runs.specs.Starts.{first_family, image_parts, main_called, no_numbers, start_of, never_in}
use Rattle.program_runs.specs.Starts.{start_point, surroundings_of}
use Rattle.program_runs.specs.Statements.{AreMarked, Block, EachDoes, IsBegun, StandAt}
use Rattle.program_runs.specs.Variables as D
use Rattle.program_runs.specs.Variables.{IsOnly, newest_made}
use Rattle.program_runs.specs.VariableRows as W
use Rattle.program_runs.proofs.Gotos.{goto_does}
use Rattle.program_runs.proofs.Programs.{program_runs}
use Rattle.program_runs.proofs.Rows.{is_datum, names_none, none_named}
use Rattle.program_runs.proofs.VariableProcedures.{one_made}
use Rattle.program_runs.proofs.VariableRows.{differs_alone, number_valued}
use Rattle.expression_runs.specs.Assignments.{IsAssignment, setting_of}
use Rattle.expression_runs.specs.Raises.{IsUnraised, Routines}
use Rattle.expression_runs.specs.Rows.{DoubleRan, double_again, double_back, double_body, double_code, double_coded}
use Rattle.expression_runs.specs.Rows.{double_end, double_entry, double_environment, double_first, double_image}
use Rattle.expression_runs.specs.Rows.{double_label, double_main, double_program, double_rest, double_spot, doubled}
use Rattle.expression_runs.specs.Values.{OverflowComes}
use Rattle.expression_runs.specs.Variables.{IsNumber, whole}
use Rattle.expression_runs.proofs.Assignments.{assign_does}
use Rattle.expression_runs.proofs.Operands.{constant_does}
use Rattle.expression_runs.proofs.Raises.{overflow_ends}
use Rattle.expression_runs.proofs.Sums.{sum_does}
use Rattle.expression_runs.proofs.VariablePoints.{variable_does}

-- ---- its code

double_linked : Linked (links_of double_code) (linked_code double_code) 0 double_code
unfolding names_none is_datum
double_linked =
    let n = linked_length (links_of double_code) 0 double_code in
    record {
      small' = omega (arith, n);
      inside = omega (arith, n);
      has = has_items (links_of double_code) double_code refl;
      named = λ d h. absurd (none_named d double_code refl h);
    }

start_linked : Linked (links_of double_code) (linked_code double_code) 0 (start_of 0)
start_linked = front_of (start_of 0) (raise_code ++ double_coded) double_linked

raise_linked : Linked (links_of double_code) (linked_code double_code) (size_of (start_of 0)) raise_code
raise_linked = front_of raise_code double_coded (back_of (start_of 0) (raise_code ++ double_coded) double_linked)

main_linked :
    Linked (links_of double_code) (linked_code double_code) double_entry
    (procedure_code double_environment double_main)
main_linked =
    rest_of (Mark (ProcedureEntry 0)) (procedure_code double_environment double_main)
    (back_of raise_code double_coded (back_of (start_of 0) (raise_code ++ double_coded) double_linked))

abbrev pub double_start : ℕ
double_start =
    double_entry + size_of (begin_of double_main) + size_of double_main.variables + size_of (act_code 1)

abbrev pub double_finish : ℕ
double_finish = double_start + size_of (stmts_code double_environment none_taken double_main.body)

body_linked :
    Linked (links_of double_code) (linked_code double_code) double_start
    (stmts_code double_environment none_taken double_main.body)
body_linked =
    let one = act_code 1 in
    let body = stmts_code double_environment none_taken double_main.body in
    let tail = Mark (ReturnPlace 0) ∷ end_of double_main in
    let rest = one ++ (body ++ tail) in
    front_of body tail
    (back_of one (body ++ tail)
    (back_of double_main.variables rest (back_of (begin_of double_main) (double_main.variables ++ rest) main_linked)))

-- ---- its variable

one_differs : AllDiffer (map template_of (table_of double_program))
one_differs = differs_alone (map template_of (table_of double_program)) _ refl refl

abbrev pub double_whole : (input : List ℕ) → (acts : ℕ) → Whole
double_whole input acts =
    record {
      image = double_image input acts;
      program = double_program;
      main = double_main;
      others = [];
      environment = double_environment;
      entry = double_entry;
      end = double_finish;
      made = newest_made image_parts W.number_declared;
    }

double_only :
    (input : List ℕ) (acts : ℕ) →
    IsOnly (surroundings_of (double_image input acts)) (main_of (double_whole input acts))
    (start_point (double_image input acts)) no_numbers W.number_declared
double_only input acts =
    let n = linked_length (links_of double_code) 0 double_code in
    record {
      kind = refl;
      variables = refl;
      class = refl;
      evaluations = refl;
      first = refl;
      code = refl;
      made = refl;
      table = refl;
      parts = refl;
      few = omega arith;
      declared = record {
        newest = refl;
        here = refl;
        holds = omega arith;
        size = omega arith;
        fits = omega arith;
        even = refl;
        low = omega (arith, n);
        shape = refl;
        number = omega arith;
        initial = refl;
        none = refl;
        plain = refl;
        fixed = refl;
        values = (tt, tt);
        valued = number_valued;
        limit = refl;
      };
    }

abbrev pub double_block : (input : List ℕ) → (acts : ℕ) → Block
double_block input acts =
    block_at (surroundings_of (double_image input acts)) (linked_code double_code) (main_of (double_whole input acts))
    (start_point (double_image input acts)) no_numbers

double_number : (input : List ℕ) (acts : ℕ) → IsNumber (double_block input acts) double_spot
double_number input acts =
    record {
      initial = [];
      declared = refl;
      serial = 1;
      binding = refl;
      living = K.living_at 1 1 (D.generation_for W.number_declared);
      lives = refl;
      shape = refl;
      base = _;
      frame = inl (refl, refl);
      at = refl;
      low = omega arith;
      inside = omega arith;
    }

-- ---- its statements

unraised :
    (input : List ℕ) (acts line : ℕ) → acts + 1 < 2 ^ 64 →
    IsUnraised (setting_of (double_block input acts) (double_label ∷ []) line 100)
unraised input acts line few =
    record {
      routines = record {
        at = size_of (start_of 0);
        linked = raise_linked;
        condition = refl;
        end = omega arith;
      };
      overflow = tt;
      error = tt;
      acts = few;
      most = omega arith;
    }

first_is :
    (input : List ℕ) (acts : ℕ) → acts + 1 < 2 ^ 64 → IsBegun (double_block input acts) →
    IsAssignment (double_block input acts) double_spot (Y.NumberConstant 536870912) 3 double_start 0 100
first_is input acts few b =
    let n = linked_length (links_of double_code) 0 double_code in
    record {
      act = record { line_fits = omega arith; acts = few };
      begun = b;
      number = double_number input acts;
      registers = omega arith;
      held = omega arith;
      statement = front_of (stmt_code double_environment none_taken double_first)
          (stmts_code double_environment none_taken double_rest) body_linked;
      paid = omega (arith, n);
    }

abbrev again_index : ℕ
again_index = double_start + size_of (stmt_code double_environment none_taken double_first)

abbrev back_index : ℕ
back_index = again_index + size_of (stmt_code double_environment none_taken double_again)

rest_linked :
    Linked (links_of double_code) (linked_code double_code) again_index
    (stmts_code double_environment none_taken double_rest)
rest_linked =
    back_of (stmt_code double_environment none_taken double_first)
    (stmts_code double_environment none_taken double_rest) body_linked

again_linked :
    Linked (links_of double_code) (linked_code double_code) again_index
    (stmt_code double_environment none_taken double_again ++ stmts_code double_environment none_taken double_end)
again_linked = rest_of _ _ rest_linked

again_is :
    (input : List ℕ) (acts : ℕ) → acts + 1 < 2 ^ 64 → IsBegun (double_block input acts) →
    IsAssignment (double_block input acts) double_spot doubled 4 again_index 1 100
again_is input acts few b =
    let n = linked_length (links_of double_code) 0 double_code in
    record {
      act = record { line_fits = omega arith; acts = few };
      begun = b;
      number = double_number input acts;
      registers = omega arith;
      held = omega arith;
      statement = front_of (stmt_code double_environment none_taken double_again)
          (stmts_code double_environment none_taken double_end) again_linked;
      paid = omega (arith, n);
    }

pub double_each :
    (input : List ℕ) (acts : ℕ) → acts + 1 < 2 ^ 64 → IsBegun (double_block input acts) →
    EachDoes (double_block input acts) (double_label ∷ []) double_body
    (body_index (main_of (double_whole input acts))) left_over
double_each input acts few b =
    let k = double_block input acts in
    let labels = double_label ∷ [] in
    let x = double_number input acts in
    let four = setting_of k labels 4 100 in
    let over : OverflowComes four = overflow_ends four (unraised input acts 4 few) in
    let operand = variable_does four double_spot b x in (
      assign_does k labels double_spot (Y.NumberConstant 536870912) 3 double_start left_over 0 100
          (first_is input acts few b) (constant_does (setting_of k labels 3 100) 536870912 (omega arith)),
      (
        assign_does k labels double_spot doubled 4 again_index left_over 1 100 (again_is input acts few b)
            (sum_does four (Y.NumberIn (whole double_spot)) (Y.NumberIn (whole double_spot)) 0 0 over operand operand),
        (
          goto_does k labels double_label 5 back_index left_over (record { line_fits = omega arith; acts = few })
              (record {
                begun = b;
                carried = refl;
                level = refl;
                block = refl;
                at = again_index;
                place = refl;
                near = omega arith;
              })
              (front_of (stmt_code double_environment none_taken double_back) []
              (back_of (stmt_code double_environment none_taken double_again)
              (stmts_code double_environment none_taken double_end) again_linked)),
          tt,
        ),
      ),
    )

-- ---- its label

label_is : (label : Label) → is_among label (double_label ∷ []) ≡ true → label ≡ double_label
label_is [] e = absurd (cc e)
label_is (x ∷ []) e = by (x == 76) refl e
  where
    by : (q : Bool) → (x == 76) ≡ q → (q && true) || false ≡ true → x ∷ [] ≡ 76 ∷ []
    by true h e = ap (λ n. n ∷ []) (eqb-true x 76 h)
    by false h e = absurd (cc e)
label_is (x ∷ y ∷ ys) e = by (x == 76) e
  where
    by : (q : Bool) → (q && false) || false ≡ true → x ∷ y ∷ ys ≡ 76 ∷ []
    by true e = absurd (cc e)
    by false e = absurd (cc e)

pub one_label_stands :
    (links : Links) (index : ℕ) → place_of links (LabelPlace 0 double_label) ≡ 4 * index →
    StandAt links 0 (double_label ∷ []) index
one_label_stands links index place label e =
    subst (λ l. place_of links (LabelPlace 0 l) ≡ 4 * index) (sym (label_is label e)) place

labels_stand : StandAt (links_of double_code) 0 (double_label ∷ []) again_index
labels_stand = one_label_stands (links_of double_code) again_index refl

-- ---- the whole

pub double_is : (input first : List ℕ) (acts : ℕ) → acts + 1 < 2 ^ 64 → length first ≡ memory_size →
    IsWhole (double_whole input acts) first
double_is input first acts few bytes =
    let l = back_of (first_frame image_parts) (main_called 0) start_linked in
    record {
      start = record { linked = start_linked; differ = one_differs; bytes = bytes; told = λ n v e. absurd (cc e) };
      made = one_made (surroundings_of (double_image input acts)) (linked_code double_code)
          (main_of (double_whole input acts)) (start_point (double_image input acts)) no_numbers W.number_declared
          (double_only input acts);
      callee = record {
        coded = record { level = omega arith; line = omega arith; saved = omega arith; back = omega arith };
        calls = first_of (CallTo (ProcedureEntry 0)) _ (rest_of _ _ (rest_of _ _ (rest_of _ _ l)));
        place = refl;
        stands = main_linked;
        end = refl;
        kind = refl;
        labels = (λ label e. absurd (cc e), (labels_stand, (λ label e. absurd (cc e), λ label e. absurd (cc e))));
        acts = few;
      };
      room = record { room = omega arith; shallow = refl; parent = tt; idle = refl };
      level = refl;
      procedures = refl;
      statics = refl;
    }

pub double_runs :
    Keeps run_keeper → (input first : List ℕ) (acts : ℕ) → acts + 1 < 2 ^ 64 → length first ≡ memory_size →
    Comes (linked_code double_code) 0 (first_family first (services_of (start_point (double_image input acts))))
    (services_of (start_point (double_image input acts))) (never_in (double_image input acts))
    (run double_program (suc acts) acts (first_state input))
double_runs keeps input first acts few bytes =
    program_runs keeps (double_whole input acts) first (double_is input first acts few bytes)
    (λ b. double_each input acts few b)

-- ---- what the program comes to

unfoldable flows : Unit {0}
unfolding F.give F.◌>>=◌ F.◌>>◌ F.looked F.stored F.act F.finish F.returns F.jumps F.choose F.given F.list_from
    F.leaving
flows = tt

unfoldable values : Unit {0}
unfolding V.number V.designated V.located V.numbers V.variable_designated V.part_designated V.stored_value R.or_error
    R.demanded R.value_of R.raised R.unit_run R.error R.error_unit_run P.element_stored M.assigned
values = tt

unfoldable makings : Unit {0}
unfolding K.variables_made K.automatic_made K.extents K.variable_made K.parameters_bound
makings = tt

unfoldable statements : Unit {0}
unfolding M.statement M.statements M.list M.list_with M.block_variables_made M.entry_act M.block_list M.block_body
statements = tt

pub double_ends :
    (input : List ℕ) →
    M.meaning double_program input 8
    ≡ Some (record {
      acts = 8;
      output = [];
      raised = (C.FixedOverflow, 20) ∷ (C.Error, 20) ∷ [];
      end = E.Error 20 4;
    })
unfolding M.meaning M.run M.entered M.block_run flows values makings statements
double_ends input = refl
