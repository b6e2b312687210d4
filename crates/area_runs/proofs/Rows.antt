-- The worked row with an area: all that is premised of the program is computed.
use Rattle.std.proofs.Common.{◌≡◌, ℕ, zero, suc, ◌+◌, ◌^◌, ◌<◌, List, [], ◌∷◌, ◌++◌, inl, inr, length, map, Some, Bool}
use Rattle.std.proofs.Common.{true, false, refl, sym, ap, ◌∙◌, subst, arith}
use Rattle.std.specs.Prelude.{ℤ}
use Rattle.rv_meaning.specs.Machine.{memory_size}
use Rattle.pli_language.specs.declared.condition.Condition.TheVariants as C
use Rattle.pli_typing.specs.TypedTree as Y
use Rattle.pli_meaning.specs.declared.outcome.End.TheVariants as E
use Rattle.pli_meaning.specs.Control as F
use Rattle.pli_meaning.specs.Evaluating as V
use Rattle.pli_meaning.specs.Executing as M
use Rattle.pli_meaning.specs.Executing.{run}
use Rattle.pli_meaning.specs.Making as K
use Rattle.pli_meaning.specs.Placing as P
use Rattle.pli_meaning.specs.Raising as R
use Rattle.pli_meaning.specs.StorageState.{first_state}
use Rattle.area_keeper.specs.KeeperLaws.{Keeps}
use Rattle.run_keeper.specs.RunKeeper.{run_keeper}
use Rattle.pli_serving.specs.Templates.{template_of}
use Rattle.pli_coding.specs.Allocating.{act_code}
use Rattle.pli_coding.specs.Assembly.{CallTo, Mark, ProcedureEntry, ReturnPlace, size_of}
use Rattle.pli_coding.specs.Environments.{none_taken}
use Rattle.pli_coding.specs.Images.{first_frame, linked_code, raise_code}
use Rattle.pli_coding.specs.Linking.{links_of}
use Rattle.pli_coding.specs.SignatureTable.{table_of}
use Rattle.pli_coding.specs.Statements.{stmt_code, stmts_code}
use Rattle.storage_relation.specs.Served.{AllDiffer}
use Rattle.activation_relation.specs.Layers.{services_of}
use Rattle.run_steps.specs.Items.{Linked}
use Rattle.run_steps.proofs.Jumps.{back_of, first_of, front_of, rest_of}
use Rattle.run_steps.proofs.Linking.{has_items, linked_length}
use Rattle.run_steps.specs.Reach.{Comes}
use Rattle.program_runs.specs.Calls.{block_at, body_index, left_over}
use Rattle.program_runs.specs.Procedures.{begin_of, end_of, procedure_code}
use Rattle.program_runs.specs.Programs.{IsWhole, Whole, main_of}
use Rattle.program_runs.specs.Starts.{first_family, image_parts, main_called, no_numbers, start_of, never_in}
use Rattle.program_runs.specs.Starts.{start_point, surroundings_of}
use Rattle.program_runs.specs.Statements.{Block, EachDoes, IsBegun, StandAt}
use Rattle.program_runs.proofs.Gotos.{goto_does}
use Rattle.program_runs.proofs.Programs.{program_runs}
use Rattle.program_runs.proofs.Rows.{is_datum, names_none, none_named}
use Rattle.program_runs.specs.Variables.{Declared}
use Rattle.expression_runs.specs.Raises.{IsUnraised}
use Rattle.expression_runs.specs.Values.{OverflowComes}
use Rattle.expression_runs.proofs.Operands.{constant_does}
use Rattle.expression_runs.proofs.Rows.{one_label_stands}
use Rattle.expression_runs.proofs.Raises.{overflow_ends}
use Rattle.expression_runs.proofs.Sums.{sum_does}
use Rattle.expression_runs.specs.Assignments.{setting_of}
use Rattle.program_runs.specs.Variables.{generation_for}
use Rattle.variable_runs.specs.Known.{IsKnown}
use Rattle.variable_runs.specs.Lists.{AreAll, newest_all}
use Rattle.variable_runs.proofs.Known.{known_own}
use Rattle.variable_runs.proofs.Lists.{all_procedure}
use Rattle.storage_relation.specs.Standing.{IsValued, leaf_in}
use Rattle.storage_relation.specs.Telling.{IsOf}
use Rattle.pli_types.specs.Templates.{Template}
use Rattle.pli_serving.specs.SignatureService.{same_template}
use Rattle.area_runs.specs.Allocations.{HasArea, IsAllocation}
use Rattle.area_runs.specs.Based.{Ends, IsBased, pointer_declared, through}
use Rattle.area_runs.specs.BasedAssignments.{IsAssignment}
use Rattle.area_runs.specs.Rows.{area_declared, area_made, area_spot, based_spot, locate_again, locate_allocation}
use Rattle.area_runs.specs.Rows.{locate_back, locate_body, locate_code, locate_coded, locate_end, locate_entry}
use Rattle.area_runs.specs.Rows.{locate_environment, locate_first, locate_image, locate_label, locate_last, locate_main}
use Rattle.area_runs.specs.Rows.{locate_program, locate_rest, locate_sum, pointer_made, pointer_spot}
use Rattle.area_runs.proofs.AllocationStatements.{allocate_does}
use Rattle.area_runs.proofs.BasedAssignments.{assign_does}
use Rattle.area_runs.proofs.BasedReads.{based_does}

-- ---- its code

locate_linked : Linked (links_of locate_code) (linked_code locate_code) 0 locate_code
unfolding names_none is_datum
locate_linked =
    let n = linked_length (links_of locate_code) 0 locate_code in
    record {
      small' = omega (arith, n);
      inside = omega (arith, n);
      has = has_items (links_of locate_code) locate_code refl;
      named = λ d h. absurd (none_named d locate_code refl h);
    }

start_linked : Linked (links_of locate_code) (linked_code locate_code) 0 (start_of 0)
start_linked = front_of (start_of 0) (raise_code ++ locate_coded) locate_linked

raise_linked : Linked (links_of locate_code) (linked_code locate_code) (size_of (start_of 0)) raise_code
raise_linked = front_of raise_code locate_coded (back_of (start_of 0) (raise_code ++ locate_coded) locate_linked)

main_linked :
    Linked (links_of locate_code) (linked_code locate_code) locate_entry
    (procedure_code locate_environment locate_main)
main_linked =
    rest_of (Mark (ProcedureEntry 0)) (procedure_code locate_environment locate_main)
    (back_of raise_code locate_coded (back_of (start_of 0) (raise_code ++ locate_coded) locate_linked))

abbrev pub locate_start : ℕ
locate_start =
    locate_entry + size_of (begin_of locate_main) + size_of locate_main.variables + size_of (act_code 1)

abbrev pub locate_finish : ℕ
locate_finish = locate_start + size_of (stmts_code locate_environment none_taken locate_main.body)

body_linked :
    Linked (links_of locate_code) (linked_code locate_code) locate_start
    (stmts_code locate_environment none_taken locate_main.body)
body_linked =
    let one = act_code 1 in
    let body = stmts_code locate_environment none_taken locate_main.body in
    let tail = Mark (ReturnPlace 0) ∷ end_of locate_main in
    let rest = one ++ (body ++ tail) in
    front_of body tail
    (back_of one (body ++ tail)
    (back_of locate_main.variables rest (back_of (begin_of locate_main) (locate_main.variables ++ rest) main_linked)))

-- ---- its variables

-- three templates differ pairwise
record Differ (x y z : Template) : Type 0 where
  first : (same_template x x ≡ true) × (same_template x y ≡ false) × (same_template x z ≡ false)
  second : (same_template y x ≡ false) × (same_template y y ≡ true) × (same_template y z ≡ false)
  third : (same_template z x ≡ false) × (same_template z y ≡ false) × (same_template z z ≡ true)

differ_by : (ts : List Template) (x y z : Template) → ts ≡ x ∷ y ∷ z ∷ [] → Differ x y z → AllDiffer ts
differ_by ts x y z is d = subst AllDiffer (sym is) all
  where
    joined :
        (u v a b : Template) (q : Bool) → same_template u v ≡ q → u ≡ a → v ≡ b → same_template a b ≡ q
    joined u v a b q e f g = ap (λ t. same_template t b) (sym f) ∙ ap (λ t. same_template u t) (sym g) ∙ e

    all : AllDiffer (x ∷ y ∷ z ∷ [])
    all zero zero a b e f = joined x x a b true d.first.0 (cc e) (cc f)
    all zero (suc zero) a b e f = joined x y a b false d.first.1 (cc e) (cc f)
    all zero (suc (suc zero)) a b e f = joined x z a b false d.first.2 (cc e) (cc f)
    all zero (suc (suc (suc j))) a b e f = absurd (cc f)
    all (suc zero) zero a b e f = joined y x a b false d.second.0 (cc e) (cc f)
    all (suc zero) (suc zero) a b e f = joined y y a b true d.second.1 (cc e) (cc f)
    all (suc zero) (suc (suc zero)) a b e f = joined y z a b false d.second.2 (cc e) (cc f)
    all (suc zero) (suc (suc (suc j))) a b e f = absurd (cc f)
    all (suc (suc zero)) zero a b e f = joined z x a b false d.third.0 (cc e) (cc f)
    all (suc (suc zero)) (suc zero) a b e f = joined z y a b false d.third.1 (cc e) (cc f)
    all (suc (suc zero)) (suc (suc zero)) a b e f = joined z z a b true d.third.2 (cc e) (cc f)
    all (suc (suc zero)) (suc (suc (suc j))) a b e f = absurd (cc f)
    all (suc (suc (suc i))) j a b e f = absurd (cc e)

all_differ : AllDiffer (map template_of (table_of locate_program))
all_differ =
    differ_by (map template_of (table_of locate_program)) _ _ _ refl
    (record { first = (refl, refl, refl); second = (refl, refl, refl); third = (refl, refl, refl) })

pub pointer_valued : IsValued (generation_for pointer_made)
pointer_valued leaf is less within = by_leaf leaf is less
  where
    by_leaf :
        (leaf : ℕ) (is : List ℤ) → leaf < 1 →
        IsOf (leaf_in (generation_for pointer_made) leaf).kind ((generation_for pointer_made).values leaf is)
    by_leaf zero is less = tt
    by_leaf (suc leaf) is less = absurd (omega (arith, less))

abbrev pub locate_variables : List Declared
locate_variables = area_made ∷ pointer_made ∷ []

abbrev pub locate_whole : (input : List ℕ) → (acts : ℕ) → Whole
locate_whole input acts =
    record {
      image = locate_image input acts;
      program = locate_program;
      main = locate_main;
      others = [];
      environment = locate_environment;
      entry = locate_entry;
      end = locate_finish;
      made = newest_all image_parts locate_variables;
    }

locate_all :
    (input : List ℕ) (acts : ℕ) →
    AreAll (surroundings_of (locate_image input acts)) (main_of (locate_whole input acts))
    (start_point (locate_image input acts)) no_numbers locate_variables
locate_all input acts =
    let n = linked_length (links_of locate_code) 0 locate_code in
    record {
      kind = refl;
      those = inl (refl, refl, inl (refl, refl, (refl, tt)));
      listed = (
        record { class = refl; evaluations = refl; late = omega arith; table = refl },
        (record { class = refl; evaluations = refl; late = omega arith; table = refl }, tt),
      );
      code = refl;
      made = refl;
      parts = refl;
      few = omega arith;
      declared = (
        inr (record {
          newest = refl;
          here = refl;
          capacity = 64;
          holds = omega arith;
          size = omega arith;
          fits = omega arith;
          even = refl;
          low = omega (arith, n);
          shape = refl;
          number = omega arith;
          initial = refl;
          none = refl;
          area = refl;
          fixed = refl;
          rounded = refl;
          bounded = omega arith;
          serial = omega arith;
          limit = refl;
        }),
        (
          inl (record {
            newest = refl;
            here = refl;
            holds = omega arith;
            size = omega arith;
            fits = omega arith;
            even = refl;
            low = omega (arith, n);
            shape = refl;
            number = omega arith;
            initial = refl;
            none = refl;
            plain = refl;
            fixed = refl;
            values = (tt, tt);
            valued = pointer_valued;
            limit = refl;
          }),
          tt,
        ),
      );
    }

abbrev pub locate_block : (input : List ℕ) → (acts : ℕ) → Block
locate_block input acts =
    block_at (surroundings_of (locate_image input acts)) (linked_code locate_code) (main_of (locate_whole input acts))
    (start_point (locate_image input acts)) no_numbers

pointer_known :
    (input : List ℕ) (acts : ℕ) → IsBegun (locate_block input acts) →
    IsKnown (locate_block input acts) pointer_spot pointer_declared
pointer_known input acts b =
    known_own (surroundings_of (locate_image input acts)) (linked_code locate_code) (main_of (locate_whole input acts))
    (start_point (locate_image input acts)) no_numbers locate_variables pointer_made pointer_spot
    (record { high = omega arith; inside = omega arith }) (locate_all input acts) (inr (inl refl))
    (record { declared = refl; index = refl; level = refl; own = refl; place = refl }) b

abbrev area_known : (input : List ℕ) (acts : ℕ) → IsKnown (locate_block input acts) area_spot area_declared
area_known input acts =
    record {
      declared = refl;
      serial = 1;
      binding = refl;
      living = K.living_at 1 1 (generation_for area_made);
      lives = refl;
      shape = refl;
      base = _;
      frame = inl (refl, refl);
      at = refl;
      low = omega arith;
      inside = omega arith;
    }

-- its frame tells the area's name
abbrev has_area : (input : List ℕ) (acts : ℕ) → HasArea (locate_block input acts) area_spot
has_area input acts =
    record {
      declared = area_declared;
      known = area_known input acts;
      own = refl;
      capacity = 64;
      area = refl;
      layer = _;
      others = [];
      layers = refl;
      told = record { kind = refl; second = refl; low = refl; high = refl };
      few = omega arith;
    }

is_based :
    (input : List ℕ) (acts : ℕ) → IsBegun (locate_block input acts) →
    IsBased (locate_block input acts) pointer_spot based_spot
is_based input acts b =
    record {
      begun = b;
      pointer = pointer_known input acts b;
      own = refl;
      declared = refl;
      meant = refl;
      signature = 2;
      table = refl;
      number = omega arith;
      numbered = refl;
      low = omega arith;
    }

-- ---- its statements

unraised :
    (input : List ℕ) (acts line : ℕ) → acts + 1 < 2 ^ 64 →
    IsUnraised (setting_of (locate_block input acts) (locate_label ∷ []) line 100)
unraised input acts line few =
    record {
      routines = record {
        at = size_of (start_of 0);
        linked = raise_linked;
        condition = refl;
        end = omega arith;
      };
      overflow = tt;
      error = tt;
      acts = few;
      most = omega arith;
    }

ends :
    (input : List ℕ) (acts line : ℕ) → acts + 1 < 2 ^ 64 →
    Ends (setting_of (locate_block input acts) (locate_label ∷ []) line 100)
ends input acts line few =
    record {
      routines = record {
        at = size_of (start_of 0);
        linked = raise_linked;
        condition = refl;
        end = omega arith;
      };
      raises = refl;
      error = tt;
      acts = few;
      most = omega arith;
    }

allocation_is :
    (input : List ℕ) (acts : ℕ) → acts + 1 < 2 ^ 64 → IsBegun (locate_block input acts) →
    IsAllocation (locate_block input acts) (locate_label ∷ []) based_spot pointer_spot area_spot 3 locate_start 100
allocation_is input acts few b =
    record {
      act = record { line_fits = omega arith; acts = few };
      based = is_based input acts b;
      area = has_area input acts;
      ends = ends input acts 3 few;
      full = tt;
      words = omega arith;
      waits = λ i. refl;
      turns = acts;
      some = refl;
      statement = front_of (stmt_code locate_environment none_taken locate_allocation)
          (stmts_code locate_environment none_taken locate_rest) body_linked;
    }

abbrev first_index : ℕ
first_index = locate_start + size_of (stmt_code locate_environment none_taken locate_allocation)

abbrev again_index : ℕ
again_index = first_index + size_of (stmt_code locate_environment none_taken locate_first)

abbrev back_index : ℕ
back_index = again_index + size_of (stmt_code locate_environment none_taken locate_again)

rest_linked :
    Linked (links_of locate_code) (linked_code locate_code) first_index
    (stmts_code locate_environment none_taken locate_rest)
rest_linked =
    back_of (stmt_code locate_environment none_taken locate_allocation)
    (stmts_code locate_environment none_taken locate_rest) body_linked

last_linked :
    Linked (links_of locate_code) (linked_code locate_code) again_index
    (stmts_code locate_environment none_taken locate_last)
last_linked =
    back_of (stmt_code locate_environment none_taken locate_first)
    (stmts_code locate_environment none_taken locate_last) rest_linked

again_linked :
    Linked (links_of locate_code) (linked_code locate_code) again_index
    (stmt_code locate_environment none_taken locate_again ++ stmts_code locate_environment none_taken locate_end)
again_linked = rest_of _ _ last_linked

first_is :
    (input : List ℕ) (acts : ℕ) → acts + 1 < 2 ^ 64 → IsBegun (locate_block input acts) →
    IsAssignment (locate_block input acts) (locate_label ∷ []) pointer_spot based_spot (Y.NumberConstant 536870912) 4
    first_index 0 100
first_is input acts few b =
    let n = linked_length (links_of locate_code) 0 locate_code in
    record {
      act = record { line_fits = omega arith; acts = few };
      based = is_based input acts b;
      ends = ends input acts 4 few;
      registers = omega arith;
      some = omega arith;
      held = omega arith;
      statement = front_of (stmt_code locate_environment none_taken locate_first)
          (stmts_code locate_environment none_taken locate_last) rest_linked;
      paid = omega (arith, n);
    }

again_is :
    (input : List ℕ) (acts : ℕ) → acts + 1 < 2 ^ 64 → IsBegun (locate_block input acts) →
    IsAssignment (locate_block input acts) (locate_label ∷ []) pointer_spot based_spot locate_sum 5 again_index 1 100
again_is input acts few b =
    let n = linked_length (links_of locate_code) 0 locate_code in
    record {
      act = record { line_fits = omega arith; acts = few };
      based = is_based input acts b;
      ends = ends input acts 5 few;
      registers = omega arith;
      some = omega arith;
      held = omega arith;
      statement = front_of (stmt_code locate_environment none_taken locate_again)
          (stmts_code locate_environment none_taken locate_end) again_linked;
      paid = omega (arith, n);
    }

pub locate_each :
    (input : List ℕ) (acts : ℕ) → acts + 1 < 2 ^ 64 → IsBegun (locate_block input acts) →
    EachDoes (locate_block input acts) (locate_label ∷ []) locate_body
    (body_index (main_of (locate_whole input acts))) left_over
locate_each input acts few b =
    let k = locate_block input acts in
    let labels = locate_label ∷ [] in
    let five = setting_of k labels 5 100 in
    let over : OverflowComes five = overflow_ends five (unraised input acts 5 few) in
    let operand = based_does five pointer_spot based_spot (is_based input acts b) (ends input acts 5 few) refl in (
      allocate_does k labels based_spot pointer_spot area_spot 3 locate_start left_over 100
          (allocation_is input acts few b),
      (
        assign_does k labels pointer_spot based_spot (Y.NumberConstant 536870912) 4 first_index left_over 0 100
            (first_is input acts few b) (constant_does (setting_of k labels 4 100) 536870912 (omega arith)),
        (
          assign_does k labels pointer_spot based_spot locate_sum 5 again_index left_over 1 100
              (again_is input acts few b)
              (sum_does five (Y.NumberIn (through pointer_spot based_spot))
              (Y.NumberIn (through pointer_spot based_spot)) 0 0 over operand operand),
          (
            goto_does k labels locate_label 6 back_index left_over (record { line_fits = omega arith; acts = few })
                (record {
                  begun = b;
                  carried = refl;
                  level = refl;
                  block = refl;
                  at = again_index;
                  place = refl;
                  near = omega arith;
                })
                (front_of (stmt_code locate_environment none_taken locate_back) []
                (back_of (stmt_code locate_environment none_taken locate_again)
                (stmts_code locate_environment none_taken locate_end) again_linked)),
            tt,
          ),
        ),
      ),
    )

-- ---- its label

labels_stand : StandAt (links_of locate_code) 0 (locate_label ∷ []) again_index
labels_stand = one_label_stands (links_of locate_code) again_index refl

-- ---- the whole

pub locate_is : (input first : List ℕ) (acts : ℕ) → acts + 1 < 2 ^ 64 → length first ≡ memory_size →
    IsWhole (locate_whole input acts) first
locate_is input first acts few bytes =
    let l = back_of (first_frame image_parts) (main_called 0) start_linked in
    record {
      start = record { linked = start_linked; differ = all_differ; bytes = bytes; told = λ n v e. absurd (cc e) };
      made = all_procedure (surroundings_of (locate_image input acts)) (linked_code locate_code)
          (main_of (locate_whole input acts)) (start_point (locate_image input acts)) no_numbers locate_variables
          (locate_all input acts);
      callee = record {
        coded = record { level = omega arith; line = omega arith; saved = omega arith; back = omega arith };
        calls = first_of (CallTo (ProcedureEntry 0)) _ (rest_of _ _ (rest_of _ _ (rest_of _ _ l)));
        place = refl;
        stands = main_linked;
        end = refl;
        kind = refl;
        labels = (
          λ label e. absurd (cc e),
          (
            λ label e. absurd (cc e),
            (labels_stand, (λ label e. absurd (cc e), λ label e. absurd (cc e))),
          ),
        );
        acts = few;
      };
      room = record { room = omega arith; shallow = refl; parent = tt; idle = refl };
      level = refl;
      procedures = refl;
      statics = refl;
    }

pub locate_runs :
    Keeps run_keeper → (input first : List ℕ) (acts : ℕ) → acts + 1 < 2 ^ 64 → length first ≡ memory_size →
    Comes (linked_code locate_code) 0 (first_family first (services_of (start_point (locate_image input acts))))
    (services_of (start_point (locate_image input acts))) (never_in (locate_image input acts))
    (run locate_program (suc acts) acts (first_state input))
locate_runs keeps input first acts few bytes =
    program_runs keeps (locate_whole input acts) first (locate_is input first acts few bytes)
    (λ b. locate_each input acts few b)

-- ---- what the program comes to

unfoldable flows : Unit {0}
unfolding F.give F.◌>>=◌ F.◌>>◌ F.looked F.stored F.act F.finish F.returns F.jumps F.choose F.given F.list_from
    F.leaving
flows = tt

unfoldable values : Unit {0}
unfolding V.number V.designated V.located V.numbers V.variable_designated V.part_designated V.stored_value R.or_error
    R.demanded R.value_of R.raised R.unit_run R.error R.error_unit_run P.element_stored M.assigned V.pointer
    V.area_meant
values = tt

unfoldable placings : Unit {0}
unfolding P.allocations P.allocation P.based_allocated P.area_or_heap P.placing P.locator_set
placings = tt

unfoldable makings : Unit {0}
unfolding K.variables_made K.automatic_made K.extents K.variable_made K.parameters_bound
makings = tt

unfoldable statements : Unit {0}
unfolding M.statement M.statements M.list M.list_with M.block_variables_made M.entry_act M.block_list M.block_body
statements = tt

pub locate_ends :
    (input : List ℕ) →
    M.meaning locate_program input 9
    ≡ Some (record {
      acts = 9;
      output = [];
      raised = (C.FixedOverflow, 20) ∷ (C.Error, 20) ∷ [];
      end = E.Error 20 5;
    })
unfolding M.meaning M.run M.entered M.block_run flows values placings makings statements
locate_ends input = refl
