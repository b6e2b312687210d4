-- The worked row with two pointers: all that is premised of the program is computed.
use Rattle.std.proofs.Common.{◌≡◌, ℕ, zero, suc, ◌+◌, ◌^◌, ◌<◌, ◌≤◌, List, [], ◌∷◌, ◌++◌, inl, inr}
use Rattle.std.proofs.Common.{length, map, Some, Bool}
use Rattle.std.proofs.Common.{true, false, refl, sym, ap, ◌∙◌, subst, arith}
use Rattle.rv_meaning.specs.Machine.{memory_size}
use Rattle.pli_language.specs.declared.condition.Condition.TheVariants as C
use Rattle.pli_typing.specs.TypedTree as Y
use Rattle.pli_meaning.specs.declared.outcome.End.TheVariants as E
use Rattle.pli_meaning.specs.Control as F
use Rattle.pli_meaning.specs.Evaluating as V
use Rattle.pli_meaning.specs.Executing as M
use Rattle.pli_meaning.specs.Executing.{run}
use Rattle.pli_meaning.specs.Making as K
use Rattle.pli_meaning.specs.Placing as P
use Rattle.pli_meaning.specs.Raising as R
use Rattle.pli_meaning.specs.StorageState.{first_state}
use Rattle.area_keeper.specs.KeeperLaws.{Keeps}
use Rattle.run_keeper.specs.RunKeeper.{run_keeper}
use Rattle.pli_serving.specs.Templates.{template_of}
use Rattle.pli_coding.specs.Allocating.{act_code}
use Rattle.pli_coding.specs.Assembly.{CallTo, Mark, ProcedureEntry, ReturnPlace, size_of}
use Rattle.pli_coding.specs.Environments.{none_taken}
use Rattle.pli_coding.specs.Images.{first_frame, linked_code, raise_code}
use Rattle.pli_coding.specs.Linking.{links_of}
use Rattle.pli_coding.specs.SignatureTable.{table_of}
use Rattle.pli_coding.specs.Statements.{stmt_code, stmts_code}
use Rattle.storage_relation.specs.Served.{AllDiffer}
use Rattle.activation_relation.specs.Layers.{services_of}
use Rattle.run_steps.specs.Items.{Linked}
use Rattle.run_steps.proofs.Jumps.{back_of, first_of, front_of, rest_of}
use Rattle.run_steps.proofs.Linking.{has_items, linked_length}
use Rattle.run_steps.specs.Reach.{Comes}
use Rattle.program_runs.specs.Calls.{block_at, body_index, left_over}
use Rattle.program_runs.specs.Procedures.{begin_of, end_of, procedure_code}
use Rattle.program_runs.specs.Programs.{IsWhole, Whole, main_of}
use Rattle.program_runs.specs.Starts.{first_family, image_parts, main_called, no_numbers, start_of, never_in}
use Rattle.program_runs.specs.Starts.{start_point, surroundings_of}
use Rattle.program_runs.specs.Statements.{Block, EachDoes, IsBegun}
use Rattle.program_runs.proofs.Programs.{program_runs}
use Rattle.program_runs.proofs.Rows.{is_datum, names_none, none_named}
use Rattle.program_runs.specs.Variables.{Declared}
use Rattle.expression_runs.specs.Raises.{IsUnraised}
use Rattle.expression_runs.specs.Values.{OverflowComes}
use Rattle.expression_runs.proofs.Operands.{constant_does}
use Rattle.expression_runs.proofs.Raises.{overflow_ends}
use Rattle.expression_runs.proofs.Sums.{sum_does}
use Rattle.expression_runs.specs.Assignments.{setting_of}
use Rattle.program_runs.specs.Variables.{generation_for}
use Rattle.variable_runs.specs.Known.{IsKnown}
use Rattle.variable_runs.specs.Lists.{AreAll, newest_all}
use Rattle.variable_runs.proofs.Known.{known_own}
use Rattle.variable_runs.proofs.Lists.{all_procedure}
use Rattle.pli_types.specs.Templates.{Template}
use Rattle.pli_serving.specs.SignatureService.{same_template}
use Rattle.pli_coding.specs.Assembly.{Code}
use Rattle.pli_coding.specs.Expressions.{bit_code}
use Rattle.pli_coding.specs.Statements.{if_met}
use Rattle.program_runs.specs.Statements.{Does}
use Rattle.program_runs.proofs.VariableRows.{number_valued}
use Rattle.expression_runs.specs.Assignments as N
use Rattle.expression_runs.specs.Variables.{IsNumber, whole}
use Rattle.expression_runs.proofs.Assignments.{assign_does as number_does}
use Rattle.expression_runs.proofs.VariablePoints.{variable_does}
use Rattle.variable_runs.proofs.Known.{known_number}
use Rattle.test_runs.proofs.Chosen.{past}
use Rattle.test_runs.proofs.Ifs.{met_does}
use Rattle.area_runs.specs.Allocations.{HasArea, IsAllocation}
use Rattle.area_runs.specs.Based.{Ends, IsBased, pointer_declared, through}
use Rattle.area_runs.specs.BasedAssignments as B
use Rattle.area_runs.specs.Rows.{area_declared, area_made, area_spot, based_spot, locate_allocation, pointer_made}
use Rattle.area_runs.specs.Rows.{pointer_spot}
use Rattle.area_runs.proofs.AllocationStatements.{allocate_does}
use Rattle.area_runs.proofs.BasedAssignments.{assign_does as put_does}
use Rattle.area_runs.proofs.BasedReads.{based_does}
use Rattle.area_runs.proofs.Rows.{pointer_valued}
use Rattle.locator_runs.specs.Pointers.{IsPointer}
use Rattle.locator_runs.specs.Rows.{follow_body, follow_chosen, follow_code, follow_coded, follow_copy, follow_differ}
use Rattle.locator_runs.specs.Rows.{follow_end, follow_entry, follow_environment, follow_held, follow_if, follow_image}
use Rattle.locator_runs.specs.Rows.{follow_last, follow_main, follow_none, follow_null, follow_nulled, follow_program}
use Rattle.locator_runs.specs.Rows.{follow_put, follow_read, follow_rest, follow_sum, follow_twice, number_made}
use Rattle.locator_runs.specs.Rows.{number_spot, other_made, other_spot}
use Rattle.locator_runs.proofs.PointerAssignments.{copy_does, null_does}
use Rattle.locator_runs.proofs.PointerTests.{both_test, null_tests}

-- ---- its code

follow_linked : Linked (links_of follow_code) (linked_code follow_code) 0 follow_code
unfolding names_none is_datum
follow_linked =
    let n = linked_length (links_of follow_code) 0 follow_code in
    record {
      small' = omega (arith, n);
      inside = omega (arith, n);
      has = has_items (links_of follow_code) follow_code refl;
      named = λ d h. absurd (none_named d follow_code refl h);
    }

start_linked : Linked (links_of follow_code) (linked_code follow_code) 0 (start_of 0)
start_linked = front_of (start_of 0) (raise_code ++ follow_coded) follow_linked

raise_linked : Linked (links_of follow_code) (linked_code follow_code) (size_of (start_of 0)) raise_code
raise_linked = front_of raise_code follow_coded (back_of (start_of 0) (raise_code ++ follow_coded) follow_linked)

main_linked :
    Linked (links_of follow_code) (linked_code follow_code) follow_entry
    (procedure_code follow_environment follow_main)
main_linked =
    rest_of (Mark (ProcedureEntry 0)) (procedure_code follow_environment follow_main)
    (back_of raise_code follow_coded (back_of (start_of 0) (raise_code ++ follow_coded) follow_linked))

abbrev pub follow_start : ℕ
follow_start =
    follow_entry + size_of (begin_of follow_main) + size_of follow_main.variables + size_of (act_code 1)

abbrev pub follow_finish : ℕ
follow_finish = follow_start + size_of (stmts_code follow_environment none_taken follow_main.body)

body_linked :
    Linked (links_of follow_code) (linked_code follow_code) follow_start
    (stmts_code follow_environment none_taken follow_main.body)
body_linked =
    let one = act_code 1 in
    let body = stmts_code follow_environment none_taken follow_main.body in
    let tail = Mark (ReturnPlace 0) ∷ end_of follow_main in
    let rest = one ++ (body ++ tail) in
    front_of body tail
    (back_of one (body ++ tail)
    (back_of follow_main.variables rest (back_of (begin_of follow_main) (follow_main.variables ++ rest) main_linked)))

-- ---- its variables

-- three templates differ pairwise
record Differ (x y z : Template) : Type 0 where
  first : (same_template x x ≡ true) × (same_template x y ≡ false) × (same_template x z ≡ false)
  second : (same_template y x ≡ false) × (same_template y y ≡ true) × (same_template y z ≡ false)
  third : (same_template z x ≡ false) × (same_template z y ≡ false) × (same_template z z ≡ true)

differ_by : (ts : List Template) (x y z : Template) → ts ≡ x ∷ y ∷ z ∷ [] → Differ x y z → AllDiffer ts
differ_by ts x y z is d = subst AllDiffer (sym is) all
  where
    joined :
        (u v a b : Template) (q : Bool) → same_template u v ≡ q → u ≡ a → v ≡ b → same_template a b ≡ q
    joined u v a b q e f g = ap (λ t. same_template t b) (sym f) ∙ ap (λ t. same_template u t) (sym g) ∙ e

    all : AllDiffer (x ∷ y ∷ z ∷ [])
    all zero zero a b e f = joined x x a b true d.first.0 (cc e) (cc f)
    all zero (suc zero) a b e f = joined x y a b false d.first.1 (cc e) (cc f)
    all zero (suc (suc zero)) a b e f = joined x z a b false d.first.2 (cc e) (cc f)
    all zero (suc (suc (suc j))) a b e f = absurd (cc f)
    all (suc zero) zero a b e f = joined y x a b false d.second.0 (cc e) (cc f)
    all (suc zero) (suc zero) a b e f = joined y y a b true d.second.1 (cc e) (cc f)
    all (suc zero) (suc (suc zero)) a b e f = joined y z a b false d.second.2 (cc e) (cc f)
    all (suc zero) (suc (suc (suc j))) a b e f = absurd (cc f)
    all (suc (suc zero)) zero a b e f = joined z x a b false d.third.0 (cc e) (cc f)
    all (suc (suc zero)) (suc zero) a b e f = joined z y a b false d.third.1 (cc e) (cc f)
    all (suc (suc zero)) (suc (suc zero)) a b e f = joined z z a b true d.third.2 (cc e) (cc f)
    all (suc (suc zero)) (suc (suc (suc j))) a b e f = absurd (cc f)
    all (suc (suc (suc i))) j a b e f = absurd (cc e)

all_differ : AllDiffer (map template_of (table_of follow_program))
all_differ =
    differ_by (map template_of (table_of follow_program)) _ _ _ refl
    (record { first = (refl, refl, refl); second = (refl, refl, refl); third = (refl, refl, refl) })

abbrev pub follow_variables : List Declared
follow_variables = area_made ∷ pointer_made ∷ other_made ∷ number_made ∷ []

abbrev pub follow_whole : (input : List ℕ) → (acts : ℕ) → Whole
follow_whole input acts =
    record {
      image = follow_image input acts;
      program = follow_program;
      main = follow_main;
      others = [];
      environment = follow_environment;
      entry = follow_entry;
      end = follow_finish;
      made = newest_all image_parts follow_variables;
    }

follow_all :
    (input : List ℕ) (acts : ℕ) →
    AreAll (surroundings_of (follow_image input acts)) (main_of (follow_whole input acts))
    (start_point (follow_image input acts)) no_numbers follow_variables
follow_all input acts =
    let n = linked_length (links_of follow_code) 0 follow_code in
    record {
      kind = refl;
      those = inl (refl, refl, inl (refl, refl, inr (refl, inl (refl, refl, inl (refl, refl, tt)))));
      listed = (
        record { class = refl; evaluations = refl; late = omega arith; table = refl },
        (
          record { class = refl; evaluations = refl; late = omega arith; table = refl },
          (
            record { class = refl; evaluations = refl; late = omega arith; table = refl },
            (record { class = refl; evaluations = refl; late = omega arith; table = refl }, tt),
          ),
        ),
      );
      code = refl;
      made = refl;
      parts = refl;
      few = omega arith;
      declared = (
        inr (record {
          newest = refl;
          here = refl;
          capacity = 64;
          holds = omega arith;
          size = omega arith;
          fits = omega arith;
          even = refl;
          low = omega (arith, n);
          shape = refl;
          number = omega arith;
          initial = refl;
          none = refl;
          area = refl;
          fixed = refl;
          rounded = refl;
          bounded = omega arith;
          serial = omega arith;
          limit = refl;
        }),
        (
          inl (record {
            newest = refl;
            here = refl;
            holds = omega arith;
            size = omega arith;
            fits = omega arith;
            even = refl;
            low = omega (arith, n);
            shape = refl;
            number = omega arith;
            initial = refl;
            none = refl;
            plain = refl;
            fixed = refl;
            values = (tt, tt);
            valued = pointer_valued;
            limit = refl;
          }),
          (
            inl (record {
              newest = refl;
              here = refl;
              holds = omega arith;
              size = omega arith;
              fits = omega arith;
              even = refl;
              low = omega (arith, n);
              shape = refl;
              number = omega arith;
              initial = refl;
              none = refl;
              plain = refl;
              fixed = refl;
              values = (tt, tt);
              valued = pointer_valued;
              limit = refl;
            }),
            (
              inl (record {
                newest = refl;
                here = refl;
                holds = omega arith;
                size = omega arith;
                fits = omega arith;
                even = refl;
                low = omega (arith, n);
                shape = refl;
                number = omega arith;
                initial = refl;
                none = refl;
                plain = refl;
                fixed = refl;
                values = (tt, tt);
                valued = number_valued;
                limit = refl;
              }),
              tt,
            ),
          ),
        ),
      );
    }

abbrev pub follow_block : (input : List ℕ) → (acts : ℕ) → Block
follow_block input acts =
    block_at (surroundings_of (follow_image input acts)) (linked_code follow_code) (main_of (follow_whole input acts))
    (start_point (follow_image input acts)) no_numbers

pointer_known :
    (input : List ℕ) (acts : ℕ) → IsBegun (follow_block input acts) →
    IsKnown (follow_block input acts) pointer_spot pointer_declared
pointer_known input acts b =
    known_own (surroundings_of (follow_image input acts)) (linked_code follow_code) (main_of (follow_whole input acts))
    (start_point (follow_image input acts)) no_numbers follow_variables pointer_made pointer_spot
    (record { high = omega arith; inside = omega arith }) (follow_all input acts) (inr (inl refl))
    (record { declared = refl; index = refl; level = refl; own = refl; place = refl }) b

other_known :
    (input : List ℕ) (acts : ℕ) → IsBegun (follow_block input acts) →
    IsKnown (follow_block input acts) other_spot pointer_declared
other_known input acts b =
    known_own (surroundings_of (follow_image input acts)) (linked_code follow_code) (main_of (follow_whole input acts))
    (start_point (follow_image input acts)) no_numbers follow_variables other_made other_spot
    (record { high = omega arith; inside = omega arith }) (follow_all input acts) (inr (inr (inl refl)))
    (record { declared = refl; index = refl; level = refl; own = refl; place = refl }) b

number_is :
    (input : List ℕ) (acts : ℕ) → IsBegun (follow_block input acts) → IsNumber (follow_block input acts) number_spot
number_is input acts b =
    known_number (follow_block input acts) number_spot []
    (known_own (surroundings_of (follow_image input acts)) (linked_code follow_code) (main_of (follow_whole input acts))
    (start_point (follow_image input acts)) no_numbers follow_variables number_made number_spot
    (record { high = omega arith; inside = omega arith }) (follow_all input acts) (inr (inr (inr (inl refl))))
    (record { declared = refl; index = refl; level = refl; own = refl; place = refl }) b)

pointer_is : (input : List ℕ) (acts : ℕ) → IsBegun (follow_block input acts) →
    IsPointer (follow_block input acts) pointer_spot
pointer_is input acts b = record { begun = b; known = pointer_known input acts b; own = refl }

other_is : (input : List ℕ) (acts : ℕ) → IsBegun (follow_block input acts) →
    IsPointer (follow_block input acts) other_spot
other_is input acts b = record { begun = b; known = other_known input acts b; own = refl }

abbrev area_known : (input : List ℕ) (acts : ℕ) → IsKnown (follow_block input acts) area_spot area_declared
area_known input acts =
    record {
      declared = refl;
      serial = 1;
      binding = refl;
      living = K.living_at 1 1 (generation_for area_made);
      lives = refl;
      shape = refl;
      base = _;
      frame = inl (refl, refl);
      at = refl;
      low = omega arith;
      inside = omega arith;
    }

-- its frame tells the area's name
abbrev has_area : (input : List ℕ) (acts : ℕ) → HasArea (follow_block input acts) area_spot
has_area input acts =
    record {
      declared = area_declared;
      known = area_known input acts;
      own = refl;
      capacity = 64;
      area = refl;
      layer = _;
      others = [];
      layers = refl;
      told = record { kind = refl; second = refl; low = refl; high = refl };
      few = omega arith;
    }

is_based :
    (input : List ℕ) (acts : ℕ) → IsBegun (follow_block input acts) →
    IsBased (follow_block input acts) pointer_spot based_spot
is_based input acts b =
    record {
      begun = b;
      pointer = pointer_known input acts b;
      own = refl;
      declared = refl;
      meant = refl;
      signature = 2;
      table = refl;
      number = omega arith;
      numbered = refl;
      low = omega arith;
    }

other_based :
    (input : List ℕ) (acts : ℕ) → IsBegun (follow_block input acts) →
    IsBased (follow_block input acts) other_spot based_spot
other_based input acts b =
    record {
      begun = b;
      pointer = other_known input acts b;
      own = refl;
      declared = refl;
      meant = refl;
      signature = 2;
      table = refl;
      number = omega arith;
      numbered = refl;
      low = omega arith;
    }

-- ---- its statements

unraised :
    (input : List ℕ) (acts line : ℕ) → acts + 1 < 2 ^ 64 →
    IsUnraised (setting_of (follow_block input acts) [] line 100)
unraised input acts line few =
    record {
      routines = record {
        at = size_of (start_of 0);
        linked = raise_linked;
        condition = refl;
        end = omega arith;
      };
      overflow = tt;
      error = tt;
      acts = few;
      most = omega arith;
    }

ends :
    (input : List ℕ) (acts line : ℕ) → acts + 1 < 2 ^ 64 →
    Ends (setting_of (follow_block input acts) [] line 100)
ends input acts line few =
    record {
      routines = record {
        at = size_of (start_of 0);
        linked = raise_linked;
        condition = refl;
        end = omega arith;
      };
      raises = refl;
      error = tt;
      acts = few;
      most = omega arith;
    }

abbrev coded : Y.Stmt → Code
coded stmt = stmt_code follow_environment none_taken stmt

abbrev listed : Y.Stmts → Code
listed body = stmts_code follow_environment none_taken body

abbrev StandsAt : ℕ → Code → Type 0
StandsAt index part = Linked (links_of follow_code) (linked_code follow_code) index part

abbrev copy_index : ℕ
copy_index = follow_start + size_of (coded locate_allocation)

abbrev put_index : ℕ
put_index = copy_index + size_of (coded follow_copy)

abbrev null_index : ℕ
null_index = put_index + size_of (coded follow_put)

abbrev if_index : ℕ
if_index = null_index + size_of (coded follow_null)

abbrev last_index : ℕ
last_index = if_index + size_of (coded follow_if)

rest_linked : StandsAt copy_index (listed follow_rest)
rest_linked = back_of (coded locate_allocation) (listed follow_rest) body_linked

held_linked : StandsAt put_index (listed follow_held)
held_linked = back_of (coded follow_copy) (listed follow_held) rest_linked

nulled_linked : StandsAt null_index (listed follow_nulled)
nulled_linked = back_of (coded follow_put) (listed follow_nulled) held_linked

chosen_linked : StandsAt if_index (listed follow_chosen)
chosen_linked = back_of (coded follow_null) (listed follow_chosen) nulled_linked

if_linked : StandsAt if_index (coded follow_if)
if_linked = front_of (coded follow_if) (listed follow_end) chosen_linked

last_linked : StandsAt last_index (coded follow_last)
last_linked = front_of (coded follow_last) [] (back_of (coded follow_if) (listed follow_end) chosen_linked)

-- what is chosen stands behind the test
unit_linked :
    (index line : ℕ) (test : Y.Bit) (unit : Y.Stmt) → StandsAt index (coded (Y.If test unit line)) →
    StandsAt (index + size_of (act_code line) + size_of (bit_code follow_environment none_taken test) + 3) (coded unit)
unit_linked index line test unit l =
    back_of (past (coded unit)) (coded unit)
    (back_of (bit_code follow_environment none_taken test) (if_met (coded unit))
    (back_of (act_code line) (bit_code follow_environment none_taken test ++ if_met (coded unit)) l))

allocation_is :
    (input : List ℕ) (acts : ℕ) → acts + 1 < 2 ^ 64 → IsBegun (follow_block input acts) →
    IsAllocation (follow_block input acts) [] based_spot pointer_spot area_spot 3 follow_start 100
allocation_is input acts few b =
    record {
      act = record { line_fits = omega arith; acts = few };
      based = is_based input acts b;
      area = has_area input acts;
      ends = ends input acts 3 few;
      full = tt;
      words = omega arith;
      waits = λ i. refl;
      turns = acts;
      some = refl;
      statement = front_of (coded locate_allocation) (listed follow_rest) body_linked;
    }

put_is :
    (input : List ℕ) (acts : ℕ) → acts + 1 < 2 ^ 64 → IsBegun (follow_block input acts) →
    B.IsAssignment (follow_block input acts) [] other_spot based_spot (Y.NumberConstant 1073741824) 5 put_index 0 100
put_is input acts few b =
    let n = linked_length (links_of follow_code) 0 follow_code in
    record {
      act = record { line_fits = omega arith; acts = few };
      based = other_based input acts b;
      ends = ends input acts 5 few;
      registers = omega arith;
      some = omega arith;
      held = omega arith;
      statement = front_of (coded follow_put) (listed follow_nulled) held_linked;
      paid = omega (arith, n);
    }

number_assigned :
    (input : List ℕ) (acts line index need : ℕ) (source : Y.Number) → acts + 1 < 2 ^ 64 →
    IsBegun (follow_block input acts) → line < 2 ^ 31 → need ≤ 1 →
    StandsAt index (coded (N.assignment number_spot source line)) →
    size_of (coded (N.assignment number_spot source line)) + 100 ≤ length (linked_code follow_code) →
    N.IsAssignment (follow_block input acts) number_spot source line index need 100
number_assigned input acts line index need source few b low one l paid =
    record {
      act = record { line_fits = low; acts = few };
      begun = b;
      number = number_is input acts b;
      registers = omega (arith, one);
      held = omega arith;
      statement = l;
      paid = omega (arith, paid);
    }

if_does :
    (input : List ℕ) (acts : ℕ) → acts + 1 < 2 ^ 64 → IsBegun (follow_block input acts) →
    Does (follow_block input acts) [] follow_if if_index left_over
if_does input acts few b =
    let k = follow_block input acts in
    let n = linked_length (links_of follow_code) 0 follow_code in
    let seven = setting_of k [] 7 100 in
    let l = unit_linked if_index 7 follow_none follow_read if_linked in
    met_does k [] follow_none follow_read 7 if_index left_over 0 100
    (record {
      act = record { line_fits = omega arith; acts = few };
      registers = omega arith;
      held = omega arith;
      statement = if_linked;
      paid = omega (arith, n);
    })
    (null_tests seven true pointer_spot (pointer_is input acts b))
    (number_does k [] number_spot (Y.NumberIn (through other_spot based_spot)) 7 _ left_over 0 100
    (number_assigned input acts 7 _ 0 (Y.NumberIn (through other_spot based_spot)) few b (omega arith) (omega arith) l
    (omega (arith, n)))
    (based_does seven other_spot based_spot (other_based input acts b) (ends input acts 7 few) refl))

last_does :
    (input : List ℕ) (acts : ℕ) → acts + 1 < 2 ^ 64 → IsBegun (follow_block input acts) →
    Does (follow_block input acts) [] follow_last last_index left_over
last_does input acts few b =
    let k = follow_block input acts in
    let n = linked_length (links_of follow_code) 0 follow_code in
    let eight = setting_of k [] 8 100 in
    let l = unit_linked last_index 8 follow_differ follow_twice last_linked in
    let operand = variable_does eight number_spot b (number_is input acts b) in
    let over : OverflowComes eight = overflow_ends eight (unraised input acts 8 few) in
    met_does k [] follow_differ follow_twice 8 last_index left_over 0 100
    (record {
      act = record { line_fits = omega arith; acts = few };
      registers = omega arith;
      held = omega arith;
      statement = last_linked;
      paid = omega (arith, n);
    })
    (both_test eight false pointer_spot other_spot (pointer_is input acts b) (other_is input acts b))
    (number_does k [] number_spot follow_sum 8 _ left_over 1 100
    (number_assigned input acts 8 _ 1 follow_sum few b (omega arith) (omega arith) l (omega (arith, n)))
    (sum_does eight (Y.NumberIn (whole number_spot)) (Y.NumberIn (whole number_spot)) 0 0 over operand operand))

pub follow_each :
    (input : List ℕ) (acts : ℕ) → acts + 1 < 2 ^ 64 → IsBegun (follow_block input acts) →
    EachDoes (follow_block input acts) [] follow_body (body_index (main_of (follow_whole input acts))) left_over
follow_each input acts few b =
    let k = follow_block input acts in (
      allocate_does k [] based_spot pointer_spot area_spot 3 follow_start left_over 100
          (allocation_is input acts few b),
      (
        copy_does k [] other_spot pointer_spot 4 copy_index left_over
            (record {
              act = record { line_fits = omega arith; acts = few };
              pointer = other_is input acts b;
              statement = front_of (coded follow_copy) (listed follow_held) rest_linked;
            }) (pointer_is input acts b),
        (
          put_does k [] other_spot based_spot (Y.NumberConstant 1073741824) 5 put_index left_over 0 100
              (put_is input acts few b) (constant_does (setting_of k [] 5 100) 1073741824 (omega arith)),
          (
            null_does k [] pointer_spot 6 null_index left_over
                (record {
                  act = record { line_fits = omega arith; acts = few };
                  pointer = pointer_is input acts b;
                  statement = front_of (coded follow_null) (listed follow_chosen) nulled_linked;
                }),
            (if_does input acts few b, (last_does input acts few b, tt)),
          ),
        ),
      ),
    )

-- ---- the whole

pub follow_is : (input first : List ℕ) (acts : ℕ) → acts + 1 < 2 ^ 64 → length first ≡ memory_size →
    IsWhole (follow_whole input acts) first
follow_is input first acts few bytes =
    let l = back_of (first_frame image_parts) (main_called 0) start_linked in
    record {
      start = record { linked = start_linked; differ = all_differ; bytes = bytes; told = λ n v e. absurd (cc e) };
      made = all_procedure (surroundings_of (follow_image input acts)) (linked_code follow_code)
          (main_of (follow_whole input acts)) (start_point (follow_image input acts)) no_numbers follow_variables
          (follow_all input acts);
      callee = record {
        coded = record { level = omega arith; line = omega arith; saved = omega arith; back = omega arith };
        calls = first_of (CallTo (ProcedureEntry 0)) _ (rest_of _ _ (rest_of _ _ (rest_of _ _ l)));
        place = refl;
        stands = main_linked;
        end = refl;
        kind = refl;
        labels = (
          λ label e. absurd (cc e),
          (
            λ label e. absurd (cc e),
            (
              λ label e. absurd (cc e),
              (
                λ label e. absurd (cc e),
                (
                  λ label e. absurd (cc e),
                  (λ label e. absurd (cc e), λ label e. absurd (cc e)),
                ),
              ),
            ),
          ),
        );
        acts = few;
      };
      room = record { room = omega arith; shallow = refl; parent = tt; idle = refl };
      level = refl;
      procedures = refl;
      statics = refl;
    }

pub follow_runs :
    Keeps run_keeper → (input first : List ℕ) (acts : ℕ) → acts + 1 < 2 ^ 64 → length first ≡ memory_size →
    Comes (linked_code follow_code) 0 (first_family first (services_of (start_point (follow_image input acts))))
    (services_of (start_point (follow_image input acts))) (never_in (follow_image input acts))
    (run follow_program (suc acts) acts (first_state input))
follow_runs keeps input first acts few bytes =
    program_runs keeps (follow_whole input acts) first (follow_is input first acts few bytes)
    (λ b. follow_each input acts few b)

-- ---- what the program comes to

unfoldable flows : Unit {0}
unfolding F.give F.◌>>=◌ F.◌>>◌ F.looked F.stored F.act F.finish F.returns F.jumps F.choose F.given F.list_from
    F.leaving M.met_after_act
flows = tt

unfoldable values : Unit {0}
unfolding V.number V.bit V.designated V.located V.numbers V.variable_designated V.part_designated V.stored_value
    R.or_error R.demanded R.value_of R.raised R.unit_run R.error R.error_unit_run P.element_stored M.assigned V.pointer
    V.area_meant
values = tt

unfoldable placings : Unit {0}
unfolding P.allocations P.allocation P.based_allocated P.area_or_heap P.placing P.locator_set
placings = tt

unfoldable makings : Unit {0}
unfolding K.variables_made K.automatic_made K.extents K.variable_made K.parameters_bound
makings = tt

unfoldable statements : Unit {0}
unfolding M.statement M.statements M.list M.list_with M.block_variables_made M.entry_act M.block_list M.block_body
statements = tt

pub follow_ends :
    (input : List ℕ) →
    M.meaning follow_program input 12
    ≡ Some (record {
      acts = 12;
      output = [];
      raised = (C.FixedOverflow, 20) ∷ (C.Error, 20) ∷ [];
      end = E.Error 20 8;
    })
unfolding M.meaning M.run M.entered M.block_run flows values placings makings statements
follow_ends input = refl
