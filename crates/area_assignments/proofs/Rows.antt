-- The worked row with two areas: all that is premised of the program is computed.
use Rattle.std.proofs.Common.{◌≡◌, ℕ, zero, suc, ◌+◌, ◌^◌, ◌<◌, List, [], ◌∷◌, ◌++◌, inl, inr, length, map, Some, Bool}
use Rattle.std.proofs.Common.{true, false, refl, sym, ap, ◌∙◌, subst, arith}
use Rattle.std.specs.Prelude.{ℤ}
use Rattle.rv_meaning.specs.Machine.{memory_size}
use Rattle.pli_language.specs.declared.condition.Condition.TheVariants as C
use Rattle.pli_typing.specs.TypedTree as Y
use Rattle.pli_meaning.specs.declared.outcome.End.TheVariants as E
use Rattle.pli_meaning.specs.Control as F
use Rattle.pli_meaning.specs.Evaluating as V
use Rattle.pli_meaning.specs.Executing as M
use Rattle.pli_meaning.specs.Executing.{run}
use Rattle.pli_meaning.specs.Making as K
use Rattle.pli_meaning.specs.Placing as P
use Rattle.pli_meaning.specs.Raising as R
use Rattle.pli_meaning.specs.StorageState.{first_state}
use Rattle.area_keeper.specs.KeeperLaws.{Keeps}
use Rattle.run_keeper.specs.RunKeeper.{run_keeper}
use Rattle.pli_serving.specs.Templates.{template_of}
use Rattle.pli_coding.specs.Allocating.{act_code}
use Rattle.pli_coding.specs.Assembly.{CallTo, Mark, ProcedureEntry, ReturnPlace, size_of}
use Rattle.pli_coding.specs.Environments.{none_taken}
use Rattle.pli_coding.specs.Images.{first_frame, linked_code, raise_code}
use Rattle.pli_coding.specs.Linking.{links_of}
use Rattle.pli_coding.specs.SignatureTable.{table_of}
use Rattle.pli_coding.specs.Statements.{stmt_code, stmts_code}
use Rattle.storage_relation.specs.Served.{AllDiffer}
use Rattle.activation_relation.specs.Layers.{services_of}
use Rattle.run_steps.specs.Items.{Linked}
use Rattle.run_steps.proofs.Jumps.{back_of, first_of, front_of, rest_of}
use Rattle.run_steps.proofs.Linking.{has_items, linked_length}
use Rattle.run_steps.specs.Reach.{Comes}
use Rattle.program_runs.specs.Calls.{block_at, body_index, left_over}
use Rattle.program_runs.specs.Procedures.{begin_of, end_of, procedure_code}
use Rattle.program_runs.specs.Programs.{IsWhole, Whole, main_of}
use Rattle.program_runs.specs.Starts.{first_family, image_parts, main_called, no_numbers, start_of, never_in}
use Rattle.program_runs.specs.Starts.{start_point, surroundings_of}
use Rattle.program_runs.specs.Statements.{Block, EachDoes, IsBegun, StandAt}
use Rattle.program_runs.proofs.Gotos.{goto_does}
use Rattle.program_runs.proofs.Programs.{program_runs}
use Rattle.program_runs.proofs.Rows.{is_datum, names_none, none_named}
use Rattle.program_runs.specs.Variables.{Declared}
use Rattle.expression_runs.specs.Raises.{IsUnraised}
use Rattle.expression_runs.specs.Values.{OverflowComes}
use Rattle.expression_runs.proofs.Operands.{constant_does}
use Rattle.expression_runs.proofs.Rows.{one_label_stands}
use Rattle.expression_runs.proofs.Raises.{overflow_ends}
use Rattle.expression_runs.proofs.Sums.{sum_does}
use Rattle.expression_runs.specs.Assignments.{setting_of}
use Rattle.program_runs.specs.Variables.{generation_for}
use Rattle.variable_runs.specs.Known.{IsKnown}
use Rattle.variable_runs.specs.Lists.{AreAll, newest_all}
use Rattle.variable_runs.proofs.Known.{known_own}
use Rattle.variable_runs.proofs.Lists.{all_procedure}
use Rattle.storage_relation.specs.Standing.{IsValued, leaf_in}
use Rattle.storage_relation.specs.Telling.{IsOf}
use Rattle.pli_types.specs.Templates.{Template}
use Rattle.pli_serving.specs.SignatureService.{same_template}
use Rattle.area_runs.specs.Allocations.{HasArea, IsAllocation}
use Rattle.area_runs.specs.Based.{Ends, IsBased, pointer_declared, through}
use Rattle.area_runs.specs.BasedAssignments.{IsAssignment}
use Rattle.area_runs.specs.Rows.{area_declared, area_made, area_spot, based_spot, locate_label, locate_sum}
use Rattle.area_runs.specs.Rows.{pointer_made, pointer_spot}
use Rattle.area_runs.proofs.AllocationStatements.{allocate_does}
use Rattle.area_runs.proofs.BasedAssignments.{assign_does}
use Rattle.area_runs.proofs.BasedReads.{based_does}
use Rattle.area_runs.proofs.Rows.{pointer_valued}
use Rattle.area_assignments.specs.Copying.{IsCopying}
use Rattle.area_assignments.specs.Emptying.{IsEmptying}
use Rattle.area_assignments.specs.Rows.{clear_again, clear_allocation, clear_back, clear_body, clear_code, clear_coded}
use Rattle.area_assignments.specs.Rows.{clear_copied, clear_copy, clear_empty, clear_end, clear_entry}
use Rattle.area_assignments.specs.Rows.{clear_environment, clear_first, clear_image, clear_last, clear_main}
use Rattle.area_assignments.specs.Rows.{clear_program, clear_rest, clear_then, other_made, other_spot}
use Rattle.area_assignments.proofs.Copying.{copy_does}
use Rattle.area_assignments.proofs.Emptying.{empty_does}

-- ---- its code

clear_linked : Linked (links_of clear_code) (linked_code clear_code) 0 clear_code
unfolding names_none is_datum
clear_linked =
    let n = linked_length (links_of clear_code) 0 clear_code in
    record {
      small' = omega (arith, n);
      inside = omega (arith, n);
      has = has_items (links_of clear_code) clear_code refl;
      named = λ d h. absurd (none_named d clear_code refl h);
    }

start_linked : Linked (links_of clear_code) (linked_code clear_code) 0 (start_of 0)
start_linked = front_of (start_of 0) (raise_code ++ clear_coded) clear_linked

raise_linked : Linked (links_of clear_code) (linked_code clear_code) (size_of (start_of 0)) raise_code
raise_linked = front_of raise_code clear_coded (back_of (start_of 0) (raise_code ++ clear_coded) clear_linked)

main_linked :
    Linked (links_of clear_code) (linked_code clear_code) clear_entry
    (procedure_code clear_environment clear_main)
main_linked =
    rest_of (Mark (ProcedureEntry 0)) (procedure_code clear_environment clear_main)
    (back_of raise_code clear_coded (back_of (start_of 0) (raise_code ++ clear_coded) clear_linked))

abbrev pub clear_start : ℕ
clear_start =
    clear_entry + size_of (begin_of clear_main) + size_of clear_main.variables + size_of (act_code 1)

abbrev pub clear_finish : ℕ
clear_finish = clear_start + size_of (stmts_code clear_environment none_taken clear_main.body)

body_linked :
    Linked (links_of clear_code) (linked_code clear_code) clear_start
    (stmts_code clear_environment none_taken clear_main.body)
body_linked =
    let one = act_code 1 in
    let body = stmts_code clear_environment none_taken clear_main.body in
    let tail = Mark (ReturnPlace 0) ∷ end_of clear_main in
    let rest = one ++ (body ++ tail) in
    front_of body tail
    (back_of one (body ++ tail)
    (back_of clear_main.variables rest (back_of (begin_of clear_main) (clear_main.variables ++ rest) main_linked)))

-- ---- its variables

-- three templates differ pairwise
record Differ (x y z : Template) : Type 0 where
  first : (same_template x x ≡ true) × (same_template x y ≡ false) × (same_template x z ≡ false)
  second : (same_template y x ≡ false) × (same_template y y ≡ true) × (same_template y z ≡ false)
  third : (same_template z x ≡ false) × (same_template z y ≡ false) × (same_template z z ≡ true)

differ_by : (ts : List Template) (x y z : Template) → ts ≡ x ∷ y ∷ z ∷ [] → Differ x y z → AllDiffer ts
differ_by ts x y z is d = subst AllDiffer (sym is) all
  where
    joined :
        (u v a b : Template) (q : Bool) → same_template u v ≡ q → u ≡ a → v ≡ b → same_template a b ≡ q
    joined u v a b q e f g = ap (λ t. same_template t b) (sym f) ∙ ap (λ t. same_template u t) (sym g) ∙ e

    all : AllDiffer (x ∷ y ∷ z ∷ [])
    all zero zero a b e f = joined x x a b true d.first.0 (cc e) (cc f)
    all zero (suc zero) a b e f = joined x y a b false d.first.1 (cc e) (cc f)
    all zero (suc (suc zero)) a b e f = joined x z a b false d.first.2 (cc e) (cc f)
    all zero (suc (suc (suc j))) a b e f = absurd (cc f)
    all (suc zero) zero a b e f = joined y x a b false d.second.0 (cc e) (cc f)
    all (suc zero) (suc zero) a b e f = joined y y a b true d.second.1 (cc e) (cc f)
    all (suc zero) (suc (suc zero)) a b e f = joined y z a b false d.second.2 (cc e) (cc f)
    all (suc zero) (suc (suc (suc j))) a b e f = absurd (cc f)
    all (suc (suc zero)) zero a b e f = joined z x a b false d.third.0 (cc e) (cc f)
    all (suc (suc zero)) (suc zero) a b e f = joined z y a b false d.third.1 (cc e) (cc f)
    all (suc (suc zero)) (suc (suc zero)) a b e f = joined z z a b true d.third.2 (cc e) (cc f)
    all (suc (suc zero)) (suc (suc (suc j))) a b e f = absurd (cc f)
    all (suc (suc (suc i))) j a b e f = absurd (cc e)

all_differ : AllDiffer (map template_of (table_of clear_program))
all_differ =
    differ_by (map template_of (table_of clear_program)) _ _ _ refl
    (record { first = (refl, refl, refl); second = (refl, refl, refl); third = (refl, refl, refl) })

abbrev pub clear_variables : List Declared
clear_variables = area_made ∷ pointer_made ∷ other_made ∷ []

abbrev pub clear_whole : (input : List ℕ) → (acts : ℕ) → Whole
clear_whole input acts =
    record {
      image = clear_image input acts;
      program = clear_program;
      main = clear_main;
      others = [];
      environment = clear_environment;
      entry = clear_entry;
      end = clear_finish;
      made = newest_all image_parts clear_variables;
    }

clear_all :
    (input : List ℕ) (acts : ℕ) →
    AreAll (surroundings_of (clear_image input acts)) (main_of (clear_whole input acts))
    (start_point (clear_image input acts)) no_numbers clear_variables
clear_all input acts =
    let n = linked_length (links_of clear_code) 0 clear_code in
    record {
      kind = refl;
      those = inl (refl, refl, inl (refl, refl, inr (refl, inl (refl, refl, tt))));
      listed = (
        record { class = refl; evaluations = refl; late = omega arith; table = refl },
        (
          record { class = refl; evaluations = refl; late = omega arith; table = refl },
          (record { class = refl; evaluations = refl; late = omega arith; table = refl }, tt),
        ),
      );
      code = refl;
      made = refl;
      parts = refl;
      few = omega arith;
      declared = (
        inr (record {
          newest = refl;
          here = refl;
          capacity = 64;
          holds = omega arith;
          size = omega arith;
          fits = omega arith;
          even = refl;
          low = omega (arith, n);
          shape = refl;
          number = omega arith;
          initial = refl;
          none = refl;
          area = refl;
          fixed = refl;
          rounded = refl;
          bounded = omega arith;
          serial = omega arith;
          limit = refl;
        }),
        (
          inl (record {
            newest = refl;
            here = refl;
            holds = omega arith;
            size = omega arith;
            fits = omega arith;
            even = refl;
            low = omega (arith, n);
            shape = refl;
            number = omega arith;
            initial = refl;
            none = refl;
            plain = refl;
            fixed = refl;
            values = (tt, tt);
            valued = pointer_valued;
            limit = refl;
          }),
          (
            inr (record {
              newest = refl;
              here = refl;
              capacity = 64;
              holds = omega arith;
              size = omega arith;
              fits = omega arith;
              even = refl;
              low = omega (arith, n);
              shape = refl;
              number = omega arith;
              initial = refl;
              none = refl;
              area = refl;
              fixed = refl;
              rounded = refl;
              bounded = omega arith;
              serial = omega arith;
              limit = refl;
            }),
            tt,
          ),
        ),
      );
    }

abbrev pub clear_block : (input : List ℕ) → (acts : ℕ) → Block
clear_block input acts =
    block_at (surroundings_of (clear_image input acts)) (linked_code clear_code) (main_of (clear_whole input acts))
    (start_point (clear_image input acts)) no_numbers

pointer_known :
    (input : List ℕ) (acts : ℕ) → IsBegun (clear_block input acts) →
    IsKnown (clear_block input acts) pointer_spot pointer_declared
pointer_known input acts b =
    known_own (surroundings_of (clear_image input acts)) (linked_code clear_code) (main_of (clear_whole input acts))
    (start_point (clear_image input acts)) no_numbers clear_variables pointer_made pointer_spot
    (record { high = omega arith; inside = omega arith }) (clear_all input acts) (inr (inl refl))
    (record { declared = refl; index = refl; level = refl; own = refl; place = refl }) b

abbrev area_known : (input : List ℕ) (acts : ℕ) → IsKnown (clear_block input acts) area_spot area_declared
area_known input acts =
    record {
      declared = refl;
      serial = 1;
      binding = refl;
      living = K.living_at 1 1 (generation_for area_made);
      lives = refl;
      shape = refl;
      base = _;
      frame = inl (refl, refl);
      at = refl;
      low = omega arith;
      inside = omega arith;
    }

abbrev other_known : (input : List ℕ) (acts : ℕ) → IsKnown (clear_block input acts) other_spot area_declared
other_known input acts =
    record {
      declared = refl;
      serial = 3;
      binding = refl;
      living = K.living_at 3 1 (generation_for other_made);
      lives = refl;
      shape = refl;
      base = _;
      frame = inl (refl, refl);
      at = refl;
      low = omega arith;
      inside = omega arith;
    }

-- its frame tells the areas' names
abbrev has_area : (input : List ℕ) (acts : ℕ) → HasArea (clear_block input acts) area_spot
has_area input acts =
    record {
      declared = area_declared;
      known = area_known input acts;
      own = refl;
      capacity = 64;
      area = refl;
      layer = _;
      others = [];
      layers = refl;
      told = record { kind = refl; second = refl; low = refl; high = refl };
      few = omega arith;
    }

abbrev has_other : (input : List ℕ) (acts : ℕ) → HasArea (clear_block input acts) other_spot
has_other input acts =
    record {
      declared = area_declared;
      known = other_known input acts;
      own = refl;
      capacity = 64;
      area = refl;
      layer = _;
      others = [];
      layers = refl;
      told = record { kind = refl; second = refl; low = refl; high = refl };
      few = omega arith;
    }

is_based :
    (input : List ℕ) (acts : ℕ) → IsBegun (clear_block input acts) →
    IsBased (clear_block input acts) pointer_spot based_spot
is_based input acts b =
    record {
      begun = b;
      pointer = pointer_known input acts b;
      own = refl;
      declared = refl;
      meant = refl;
      signature = 2;
      table = refl;
      number = omega arith;
      numbered = refl;
      low = omega arith;
    }

-- ---- its statements

unraised :
    (input : List ℕ) (acts line : ℕ) → acts + 1 < 2 ^ 64 →
    IsUnraised (setting_of (clear_block input acts) (locate_label ∷ []) line 100)
unraised input acts line few =
    record {
      routines = record {
        at = size_of (start_of 0);
        linked = raise_linked;
        condition = refl;
        end = omega arith;
      };
      overflow = tt;
      error = tt;
      acts = few;
      most = omega arith;
    }

ends :
    (input : List ℕ) (acts line : ℕ) → acts + 1 < 2 ^ 64 →
    Ends (setting_of (clear_block input acts) (locate_label ∷ []) line 100)
ends input acts line few =
    record {
      routines = record {
        at = size_of (start_of 0);
        linked = raise_linked;
        condition = refl;
        end = omega arith;
      };
      raises = refl;
      error = tt;
      acts = few;
      most = omega arith;
    }

allocation_is :
    (input : List ℕ) (acts : ℕ) → acts + 1 < 2 ^ 64 → IsBegun (clear_block input acts) →
    IsAllocation (clear_block input acts) (locate_label ∷ []) based_spot pointer_spot area_spot 3 clear_start 100
allocation_is input acts few b =
    record {
      act = record { line_fits = omega arith; acts = few };
      based = is_based input acts b;
      area = has_area input acts;
      ends = ends input acts 3 few;
      full = tt;
      words = omega arith;
      waits = λ i. refl;
      turns = acts;
      some = refl;
      statement = front_of (stmt_code clear_environment none_taken clear_allocation)
          (stmts_code clear_environment none_taken clear_rest) body_linked;
    }

abbrev first_index : ℕ
first_index = clear_start + size_of (stmt_code clear_environment none_taken clear_allocation)

abbrev copy_index : ℕ
copy_index = first_index + size_of (stmt_code clear_environment none_taken clear_first)

abbrev again_index : ℕ
again_index = copy_index + size_of (stmt_code clear_environment none_taken clear_copy)

abbrev empty_index : ℕ
empty_index = again_index + size_of (stmt_code clear_environment none_taken clear_again)

abbrev back_index : ℕ
back_index = empty_index + size_of (stmt_code clear_environment none_taken clear_empty)

abbrev Stands : (index : ℕ) → Y.Stmts → Type 0
Stands index body =
    Linked (links_of clear_code) (linked_code clear_code) index (stmts_code clear_environment none_taken body)

rest_linked : Stands first_index clear_rest
rest_linked =
    back_of (stmt_code clear_environment none_taken clear_allocation)
    (stmts_code clear_environment none_taken clear_rest) body_linked

copied_linked : Stands copy_index clear_copied
copied_linked =
    back_of (stmt_code clear_environment none_taken clear_first)
    (stmts_code clear_environment none_taken clear_copied) rest_linked

last_linked : Stands again_index clear_last
last_linked =
    back_of (stmt_code clear_environment none_taken clear_copy)
    (stmts_code clear_environment none_taken clear_last) copied_linked

again_linked :
    Linked (links_of clear_code) (linked_code clear_code) again_index
    (stmt_code clear_environment none_taken clear_again ++ stmts_code clear_environment none_taken clear_then)
again_linked = rest_of _ _ last_linked

then_linked : Stands empty_index clear_then
then_linked =
    back_of (stmt_code clear_environment none_taken clear_again)
    (stmts_code clear_environment none_taken clear_then) again_linked

first_is :
    (input : List ℕ) (acts : ℕ) → acts + 1 < 2 ^ 64 → IsBegun (clear_block input acts) →
    IsAssignment (clear_block input acts) (locate_label ∷ []) pointer_spot based_spot (Y.NumberConstant 7) 4
    first_index 0 100
first_is input acts few b =
    let n = linked_length (links_of clear_code) 0 clear_code in
    record {
      act = record { line_fits = omega arith; acts = few };
      based = is_based input acts b;
      ends = ends input acts 4 few;
      registers = omega arith;
      some = omega arith;
      held = omega arith;
      statement = front_of (stmt_code clear_environment none_taken clear_first)
          (stmts_code clear_environment none_taken clear_copied) rest_linked;
      paid = omega (arith, n);
    }

copy_is :
    (input : List ℕ) (acts : ℕ) → acts + 1 < 2 ^ 64 → IsBegun (clear_block input acts) →
    IsCopying (clear_block input acts) (locate_label ∷ []) other_spot area_spot 5 copy_index 100
copy_is input acts few b =
    record {
      act = record { line_fits = omega arith; acts = few };
      target = has_other input acts;
      source = has_area input acts;
      ends = ends input acts 5 few;
      full = tt;
      statement = front_of (stmt_code clear_environment none_taken clear_copy)
          (stmts_code clear_environment none_taken clear_last) copied_linked;
    }

again_is :
    (input : List ℕ) (acts : ℕ) → acts + 1 < 2 ^ 64 → IsBegun (clear_block input acts) →
    IsAssignment (clear_block input acts) (locate_label ∷ []) pointer_spot based_spot locate_sum 6 again_index 1 100
again_is input acts few b =
    let n = linked_length (links_of clear_code) 0 clear_code in
    record {
      act = record { line_fits = omega arith; acts = few };
      based = is_based input acts b;
      ends = ends input acts 6 few;
      registers = omega arith;
      some = omega arith;
      held = omega arith;
      statement = front_of (stmt_code clear_environment none_taken clear_again)
          (stmts_code clear_environment none_taken clear_then) again_linked;
      paid = omega (arith, n);
    }

empty_is : (input : List ℕ) (acts : ℕ) → acts + 1 < 2 ^ 64 → IsEmptying (clear_block input acts) area_spot 7 empty_index
empty_is input acts few =
    record {
      act = record { line_fits = omega arith; acts = few };
      area = has_area input acts;
      statement = front_of (stmt_code clear_environment none_taken clear_empty)
          (stmts_code clear_environment none_taken clear_end) then_linked;
    }

pub clear_each :
    (input : List ℕ) (acts : ℕ) → acts + 1 < 2 ^ 64 → IsBegun (clear_block input acts) →
    EachDoes (clear_block input acts) (locate_label ∷ []) clear_body
    (body_index (main_of (clear_whole input acts))) left_over
clear_each input acts few b =
    let k = clear_block input acts in
    let labels = locate_label ∷ [] in
    let six = setting_of k labels 6 100 in
    let over : OverflowComes six = overflow_ends six (unraised input acts 6 few) in
    let operand = based_does six pointer_spot based_spot (is_based input acts b) (ends input acts 6 few) refl in (
      allocate_does k labels based_spot pointer_spot area_spot 3 clear_start left_over 100
          (allocation_is input acts few b),
      (
        assign_does k labels pointer_spot based_spot (Y.NumberConstant 7) 4 first_index left_over 0 100
            (first_is input acts few b) (constant_does (setting_of k labels 4 100) 7 (omega arith)),
        (
          copy_does k labels other_spot area_spot 5 copy_index left_over 100 (copy_is input acts few b),
          (
            assign_does k labels pointer_spot based_spot locate_sum 6 again_index left_over 1 100
                (again_is input acts few b)
                (sum_does six (Y.NumberIn (through pointer_spot based_spot))
                (Y.NumberIn (through pointer_spot based_spot)) 0 0 over operand operand),
            (
              empty_does k labels area_spot 7 empty_index left_over (empty_is input acts few),
              (
                goto_does k labels locate_label 8 back_index left_over
                    (record { line_fits = omega arith; acts = few })
                    (record {
                      begun = b;
                      carried = refl;
                      level = refl;
                      block = refl;
                      at = again_index;
                      place = refl;
                      near = omega arith;
                    })
                    (front_of (stmt_code clear_environment none_taken clear_back) []
                    (back_of (stmt_code clear_environment none_taken clear_empty)
                    (stmts_code clear_environment none_taken clear_end) then_linked)),
                tt,
              ),
            ),
          ),
        ),
      ),
    )

-- ---- its label

labels_stand : StandAt (links_of clear_code) 0 (locate_label ∷ []) again_index
labels_stand = one_label_stands (links_of clear_code) again_index refl

-- ---- the whole

pub clear_is : (input first : List ℕ) (acts : ℕ) → acts + 1 < 2 ^ 64 → length first ≡ memory_size →
    IsWhole (clear_whole input acts) first
clear_is input first acts few bytes =
    let l = back_of (first_frame image_parts) (main_called 0) start_linked in
    record {
      start = record { linked = start_linked; differ = all_differ; bytes = bytes; told = λ n v e. absurd (cc e) };
      made = all_procedure (surroundings_of (clear_image input acts)) (linked_code clear_code)
          (main_of (clear_whole input acts)) (start_point (clear_image input acts)) no_numbers clear_variables
          (clear_all input acts);
      callee = record {
        coded = record { level = omega arith; line = omega arith; saved = omega arith; back = omega arith };
        calls = first_of (CallTo (ProcedureEntry 0)) _ (rest_of _ _ (rest_of _ _ (rest_of _ _ l)));
        place = refl;
        stands = main_linked;
        end = refl;
        kind = refl;
        labels = (
          λ label e. absurd (cc e),
          (
            λ label e. absurd (cc e),
            (
              λ label e. absurd (cc e),
              (labels_stand, (λ label e. absurd (cc e), (λ label e. absurd (cc e), λ label e. absurd (cc e)))),
            ),
          ),
        );
        acts = few;
      };
      room = record { room = omega arith; shallow = refl; parent = tt; idle = refl };
      level = refl;
      procedures = refl;
      statics = refl;
    }

pub clear_runs :
    Keeps run_keeper → (input first : List ℕ) (acts : ℕ) → acts + 1 < 2 ^ 64 → length first ≡ memory_size →
    Comes (linked_code clear_code) 0 (first_family first (services_of (start_point (clear_image input acts))))
    (services_of (start_point (clear_image input acts))) (never_in (clear_image input acts))
    (run clear_program (suc acts) acts (first_state input))
clear_runs keeps input first acts few bytes =
    program_runs keeps (clear_whole input acts) first (clear_is input first acts few bytes)
    (λ b. clear_each input acts few b)

-- ---- what the program comes to

unfoldable flows : Unit {0}
unfolding F.give F.◌>>=◌ F.◌>>◌ F.looked F.stored F.act F.finish F.returns F.jumps F.choose F.given F.list_from
    F.leaving
flows = tt

unfoldable values : Unit {0}
unfolding V.number V.designated V.located V.numbers V.variable_designated V.part_designated V.stored_value R.or_error
    R.demanded R.value_of R.raised R.unit_run R.error R.error_unit_run P.element_stored M.assigned V.pointer
    V.area_meant
values = tt

unfoldable placings : Unit {0}
unfolding P.allocations P.allocation P.based_allocated P.area_or_heap P.placing P.locator_set P.area_assigned
    P.area_copied P.area_emptied
placings = tt

unfoldable makings : Unit {0}
unfolding K.variables_made K.automatic_made K.extents K.variable_made K.parameters_bound
makings = tt

unfoldable statements : Unit {0}
unfolding M.statement M.statements M.list M.list_with M.block_variables_made M.entry_act M.block_list M.block_body
statements = tt

pub clear_ends :
    (input : List ℕ) →
    M.meaning clear_program input 10
    ≡ Some (record { acts = 10; output = []; raised = (C.Error, 101) ∷ []; end = E.Error 101 6 })
unfolding M.meaning M.run M.entered M.block_run flows values placings makings statements
clear_ends input = refl
