-- The worked row with a FIXED BINARY(15) and a BIT(1) variable: all that is premised of the program is computed.
use Rattle.std.proofs.Common.{◌≡◌, ℕ, zero, suc, ◌+◌, ◌^◌, ◌<◌, ◌≤◌, List, [], ◌∷◌, ◌++◌, inl, inr, length, map, Some}
use Rattle.std.proofs.Common.{Bool, true, false, refl, sym, ap, ◌∙◌, subst, arith}
use Rattle.std.specs.Prelude.{ℤ}
use Rattle.rv_meaning.specs.Machine.{memory_size}
use Rattle.pli_language.specs.declared.condition.Condition.TheVariants as C
use Rattle.pli_typing.specs.TypedTree as Y
use Rattle.pli_meaning.specs.declared.outcome.End.TheVariants as E
use Rattle.pli_meaning.specs.Control as F
use Rattle.pli_meaning.specs.Evaluating as V
use Rattle.pli_meaning.specs.Executing as M
use Rattle.pli_meaning.specs.Executing.{run}
use Rattle.pli_meaning.specs.Making as K
use Rattle.pli_meaning.specs.Placing as P
use Rattle.pli_meaning.specs.Raising as R
use Rattle.pli_meaning.specs.StorageState.{first_state}
use Rattle.pli_types.specs.Templates.{Template}
use Rattle.area_keeper.specs.KeeperLaws.{Keeps}
use Rattle.run_keeper.specs.RunKeeper.{run_keeper}
use Rattle.pli_serving.specs.SignatureService.{same_template}
use Rattle.pli_serving.specs.Templates.{template_of}
use Rattle.pli_coding.specs.Allocating.{act_code}
use Rattle.pli_coding.specs.Assembly.{CallTo, Code, Mark, ProcedureEntry, ReturnPlace, size_of}
use Rattle.pli_coding.specs.Environments.{none_taken}
use Rattle.pli_coding.specs.Expressions.{bit_code}
use Rattle.pli_coding.specs.Images.{first_frame, linked_code, raise_code}
use Rattle.pli_coding.specs.Linking.{links_of}
use Rattle.pli_coding.specs.SignatureTable.{table_of}
use Rattle.pli_coding.specs.Statements.{if_met, stmt_code, stmts_code}
use Rattle.storage_relation.specs.Served.{AllDiffer}
use Rattle.storage_relation.specs.Standing.{IsValued, leaf_in}
use Rattle.storage_relation.specs.Telling.{IsOf}
use Rattle.activation_relation.specs.Layers.{services_of}
use Rattle.run_steps.specs.Items.{Linked}
use Rattle.run_steps.proofs.Jumps.{back_of, first_of, front_of, rest_of}
use Rattle.run_steps.proofs.Linking.{has_items, linked_length}
use Rattle.run_steps.specs.Reach.{Comes}
use Rattle.program_runs.specs.Calls.{block_at, body_index, left_over}
use Rattle.program_runs.specs.Procedures.{begin_of, end_of, procedure_code}
use Rattle.program_runs.specs.Programs.{IsWhole, Whole, main_of}
use Rattle.program_runs.specs.Starts.{first_family, image_parts, main_called, no_numbers, start_of, never_in}
use Rattle.program_runs.specs.Starts.{start_point, surroundings_of}
use Rattle.program_runs.specs.Statements.{Block, EachDoes, IsBegun, StandAt}
use Rattle.program_runs.proofs.Gotos.{goto_does}
use Rattle.program_runs.proofs.Programs.{program_runs}
use Rattle.program_runs.proofs.Rows.{is_datum, names_none, none_named}
use Rattle.program_runs.specs.Variables.{Declared, generation_for}
use Rattle.expression_runs.specs.Assignments.{setting_of}
use Rattle.expression_runs.specs.Laws.{Does}
use Rattle.expression_runs.specs.Raises.{IsUnraised}
use Rattle.expression_runs.specs.Values.{OverflowComes}
use Rattle.expression_runs.proofs.Operands.{constant_does}
use Rattle.expression_runs.proofs.Rows.{one_label_stands}
use Rattle.expression_runs.proofs.Raises.{overflow_ends}
use Rattle.expression_runs.proofs.Sums.{sum_does}
use Rattle.test_runs.specs.Choices.{behind_act, behind_test}
use Rattle.test_runs.specs.Tests.{Tests}
use Rattle.test_runs.proofs.Bits.{numbers_tests}
use Rattle.test_runs.proofs.Chosen.{past}
use Rattle.test_runs.proofs.Ifs.{met_does}
use Rattle.variable_runs.specs.Lists.{AreAll, newest_all}
use Rattle.variable_runs.proofs.Known.{known_own}
use Rattle.variable_runs.proofs.Lists.{all_procedure}
use Rattle.scalar_runs.specs.Assignments.{IsPlacedWith}
use Rattle.scalar_runs.specs.Rows.{brim_again, brim_back, brim_below, brim_body, brim_code, brim_coded, brim_declared}
use Rattle.scalar_runs.specs.Rows.{brim_end, brim_entry, brim_environment, brim_first, brim_goto, brim_image, brim_label}
use Rattle.scalar_runs.specs.Rows.{brim_last, brim_main, brim_program, brim_rest, brim_spot, brim_sum, brim_test}
use Rattle.scalar_runs.specs.Rows.{brim_twice, brim_value, goes_declared, goes_spot, goes_value}
use Rattle.scalar_runs.specs.Scalars.{IsBit, IsFixed}
use Rattle.scalar_runs.proofs.Assignments.{bit_assigned, number_assigned}
use Rattle.scalar_runs.proofs.Conversions.{converted_does}
use Rattle.scalar_runs.proofs.Fitting.{fewer_fits}
use Rattle.scalar_runs.proofs.ScalarPoints.{bit_does, number_does}

-- ---- its code

brim_linked : Linked (links_of brim_code) (linked_code brim_code) 0 brim_code
unfolding names_none is_datum
brim_linked =
    let n = linked_length (links_of brim_code) 0 brim_code in
    record {
      small' = omega (arith, n);
      inside = omega (arith, n);
      has = has_items (links_of brim_code) brim_code refl;
      named = λ d h. absurd (none_named d brim_code refl h);
    }

start_linked : Linked (links_of brim_code) (linked_code brim_code) 0 (start_of 0)
start_linked = front_of (start_of 0) (raise_code ++ brim_coded) brim_linked

raise_linked : Linked (links_of brim_code) (linked_code brim_code) (size_of (start_of 0)) raise_code
raise_linked = front_of raise_code brim_coded (back_of (start_of 0) (raise_code ++ brim_coded) brim_linked)

main_linked :
    Linked (links_of brim_code) (linked_code brim_code) brim_entry
    (procedure_code brim_environment brim_main)
main_linked =
    rest_of (Mark (ProcedureEntry 0)) (procedure_code brim_environment brim_main)
    (back_of raise_code brim_coded (back_of (start_of 0) (raise_code ++ brim_coded) brim_linked))

abbrev pub brim_start : ℕ
brim_start =
    brim_entry + size_of (begin_of brim_main) + size_of brim_main.variables + size_of (act_code 1)

abbrev pub brim_finish : ℕ
brim_finish = brim_start + size_of (stmts_code brim_environment none_taken brim_main.body)

body_linked :
    Linked (links_of brim_code) (linked_code brim_code) brim_start
    (stmts_code brim_environment none_taken brim_main.body)
body_linked =
    let one = act_code 1 in
    let body = stmts_code brim_environment none_taken brim_main.body in
    let tail = Mark (ReturnPlace 0) ∷ end_of brim_main in
    let rest = one ++ (body ++ tail) in
    front_of body tail
    (back_of one (body ++ tail)
    (back_of brim_main.variables rest (back_of (begin_of brim_main) (brim_main.variables ++ rest) main_linked)))

-- ---- its variables

-- two templates differ
record Differ (x y : Template) : Type 0 where
  first : (same_template x x ≡ true) × (same_template x y ≡ false)
  second : (same_template y x ≡ false) × (same_template y y ≡ true)

differ_by : (ts : List Template) (x y : Template) → ts ≡ x ∷ y ∷ [] → Differ x y → AllDiffer ts
differ_by ts x y is d = subst AllDiffer (sym is) all
  where
    joined :
        (u v a b : Template) (q : Bool) → same_template u v ≡ q → u ≡ a → v ≡ b → same_template a b ≡ q
    joined u v a b q e f g = ap (λ t. same_template t b) (sym f) ∙ ap (λ t. same_template u t) (sym g) ∙ e

    all : AllDiffer (x ∷ y ∷ [])
    all zero zero a b e f = joined x x a b true d.first.0 (cc e) (cc f)
    all zero (suc zero) a b e f = joined x y a b false d.first.1 (cc e) (cc f)
    all zero (suc (suc j)) a b e f = absurd (cc f)
    all (suc zero) zero a b e f = joined y x a b false d.second.0 (cc e) (cc f)
    all (suc zero) (suc zero) a b e f = joined y y a b true d.second.1 (cc e) (cc f)
    all (suc zero) (suc (suc j)) a b e f = absurd (cc f)
    all (suc (suc i)) j a b e f = absurd (cc e)

both_differ : AllDiffer (map template_of (table_of brim_program))
both_differ =
    differ_by (map template_of (table_of brim_program)) _ _ refl
    (record { first = (refl, refl); second = (refl, refl) })

brim_valued : IsValued (generation_for brim_declared)
brim_valued leaf is less within = by_leaf leaf is less
  where
    by_leaf :
        (leaf : ℕ) (is : List ℤ) → leaf < 1 →
        IsOf (leaf_in (generation_for brim_declared) leaf).kind ((generation_for brim_declared).values leaf is)
    by_leaf zero is less = (omega arith, refl)
    by_leaf (suc leaf) is less = absurd (omega (arith, less))

goes_valued : IsValued (generation_for goes_declared)
goes_valued leaf is less within = by_leaf leaf is less
  where
    by_leaf :
        (leaf : ℕ) (is : List ℤ) → leaf < 1 →
        IsOf (leaf_in (generation_for goes_declared) leaf).kind ((generation_for goes_declared).values leaf is)
    by_leaf zero is less = tt
    by_leaf (suc leaf) is less = absurd (omega (arith, less))

abbrev pub brim_variables : List Declared
brim_variables = brim_declared ∷ goes_declared ∷ []

abbrev pub brim_whole : (input : List ℕ) → (acts : ℕ) → Whole
brim_whole input acts =
    record {
      image = brim_image input acts;
      program = brim_program;
      main = brim_main;
      others = [];
      environment = brim_environment;
      entry = brim_entry;
      end = brim_finish;
      made = newest_all image_parts brim_variables;
    }

brim_all :
    (input : List ℕ) (acts : ℕ) →
    AreAll (surroundings_of (brim_image input acts)) (main_of (brim_whole input acts))
    (start_point (brim_image input acts)) no_numbers brim_variables
brim_all input acts =
    let n = linked_length (links_of brim_code) 0 brim_code in
    record {
      kind = refl;
      those = inl (refl, refl, inl (refl, refl, tt));
      listed = (
        record { class = refl; evaluations = refl; late = omega arith; table = refl },
        (record { class = refl; evaluations = refl; late = omega arith; table = refl }, tt),
      );
      code = refl;
      made = refl;
      parts = refl;
      few = omega arith;
      declared = (
        inl (record {
          newest = refl;
          here = refl;
          holds = omega arith;
          size = omega arith;
          fits = omega arith;
          even = refl;
          low = omega (arith, n);
          shape = refl;
          number = omega arith;
          initial = refl;
          none = refl;
          plain = refl;
          fixed = refl;
          values = (tt, tt);
          valued = brim_valued;
          limit = refl;
        }),
        (
          inl (record {
            newest = refl;
            here = refl;
            holds = omega arith;
            size = omega arith;
            fits = omega arith;
            even = refl;
            low = omega (arith, n);
            shape = refl;
            number = omega arith;
            initial = refl;
            none = refl;
            plain = refl;
            fixed = refl;
            values = (tt, tt);
            valued = goes_valued;
            limit = refl;
          }),
          tt,
        ),
      );
    }

abbrev pub brim_block : (input : List ℕ) → (acts : ℕ) → Block
brim_block input acts =
    block_at (surroundings_of (brim_image input acts)) (linked_code brim_code) (main_of (brim_whole input acts))
    (start_point (brim_image input acts)) no_numbers

brim_fixed : (input : List ℕ) (acts : ℕ) → IsBegun (brim_block input acts) → IsFixed (brim_block input acts) brim_spot 15
brim_fixed input acts b =
    record {
      initial = [];
      known = known_own (surroundings_of (brim_image input acts)) (linked_code brim_code)
          (main_of (brim_whole input acts)) (start_point (brim_image input acts)) no_numbers brim_variables
          brim_declared brim_spot (record { high = omega arith; inside = omega arith }) (brim_all input acts) (inl refl)
          (record { declared = refl; index = refl; level = refl; own = refl; place = refl }) b;
    }

goes_bit : (input : List ℕ) (acts : ℕ) → IsBegun (brim_block input acts) → IsBit (brim_block input acts) goes_spot
goes_bit input acts b =
    record {
      initial = [];
      known = known_own (surroundings_of (brim_image input acts)) (linked_code brim_code)
          (main_of (brim_whole input acts)) (start_point (brim_image input acts)) no_numbers brim_variables
          goes_declared goes_spot (record { high = omega arith; inside = omega arith }) (brim_all input acts)
          (inr (inl refl)) (record { declared = refl; index = refl; level = refl; own = refl; place = refl }) b;
    }

-- ---- its statements

unraised :
    (input : List ℕ) (acts line : ℕ) → acts + 1 < 2 ^ 64 →
    IsUnraised (setting_of (brim_block input acts) (brim_label ∷ []) line 100)
unraised input acts line few =
    record {
      routines = record {
        at = size_of (start_of 0);
        linked = raise_linked;
        condition = refl;
        end = omega arith;
      };
      overflow = tt;
      error = tt;
      acts = few;
      most = omega arith;
    }

abbrev coded : Y.Stmt → Code
coded stmt = stmt_code brim_environment none_taken stmt

abbrev listed : Y.Stmts → Code
listed body = stmts_code brim_environment none_taken body

abbrev StandsAt : ℕ → Code → Type 0
StandsAt index part = Linked (links_of brim_code) (linked_code brim_code) index part

abbrev test_index : ℕ
test_index = brim_start + size_of (coded brim_first)

abbrev again_index : ℕ
again_index = test_index + size_of (coded brim_test)

abbrev back_index : ℕ
back_index = again_index + size_of (coded brim_again)

abbrev goes_code : Code
goes_code = bit_code brim_environment none_taken goes_value

abbrev goto_index : ℕ
goto_index = behind_test (brim_block [] 0) goes_value (behind_act 6 back_index)

first_linked : StandsAt brim_start (coded brim_first)
first_linked = front_of (coded brim_first) (listed brim_rest) body_linked

rest_linked : StandsAt test_index (listed brim_rest)
rest_linked = back_of (coded brim_first) (listed brim_rest) body_linked

tested_linked : StandsAt test_index (coded brim_test ++ listed brim_last)
tested_linked = rest_of _ _ rest_linked

last_linked : StandsAt again_index (listed brim_last)
last_linked = back_of (coded brim_test) (listed brim_last) tested_linked

back_linked : StandsAt back_index (coded brim_back)
back_linked = front_of (coded brim_back) [] (back_of (coded brim_again) (listed brim_end) last_linked)

goto_linked : StandsAt goto_index (coded brim_goto)
goto_linked =
    let part = coded brim_goto in
    back_of (past part) part
    (back_of goes_code (if_met part) (back_of (act_code 6) (goes_code ++ if_met part) back_linked))

placed :
    (input : List ℕ) (acts line index need : ℕ) (stmt : Y.Stmt) → acts + 1 < 2 ^ 64 →
    IsBegun (brim_block input acts) → line < 2 ^ 31 → need ≤ 1 → StandsAt index (coded stmt) →
    size_of (coded stmt) + 100 ≤ length (linked_code brim_code) →
    IsPlacedWith 0 (brim_block input acts) stmt line index need 100
placed input acts line index need stmt few b low one l paid =
    record {
      act = record { line_fits = low; acts = few };
      begun = b;
      registers = omega (arith, one);
      held = omega arith;
      statement = l;
      paid = omega (arith, paid);
    }

pub brim_each :
    (input : List ℕ) (acts : ℕ) → acts + 1 < 2 ^ 64 → IsBegun (brim_block input acts) →
    EachDoes (brim_block input acts) (brim_label ∷ []) brim_body (body_index (main_of (brim_whole input acts))) left_over
brim_each input acts few b =
    let k = brim_block input acts in
    let labels = brim_label ∷ [] in
    let n = linked_length (links_of brim_code) 0 brim_code in
    let h = brim_fixed input acts b in
    let g = goes_bit input acts b in
    let three = setting_of k labels 3 100 in
    let four = setting_of k labels 4 100 in
    let five = setting_of k labels 5 100 in
    let six = setting_of k labels 6 100 in
    let over : OverflowComes five = overflow_ends five (unraised input acts 5 few) in
    let operand = number_does five brim_spot 15 b h in
    let twice : Does five 1 brim_twice = sum_does five brim_value brim_value 0 0 over operand operand in
    let sum : Does five 1 brim_sum =
    sum_does five brim_twice (Y.NumberOfBit goes_value) 1 0 over twice
    (converted_does five goes_value 0 (bit_does five goes_spot b g)) in
    let below : Tests four 1 brim_below =
    numbers_tests four Y.IsLess brim_value (Y.NumberConstant 16384) 0 0 (number_does four brim_spot 15 b h)
    (constant_does four 16384 (omega arith)) in (
      number_assigned 0 k labels brim_spot 15 (Y.NumberConstant 8192) 3 brim_start left_over 1 100
          (placed input acts 3 brim_start 1 brim_first few b (omega arith) (omega arith) first_linked (omega (arith, n)))
          h
          (fewer_fits three (Y.NumberConstant 8192) 15 0 (omega arith)
          (overflow_ends three (unraised input acts 3 few)) (constant_does three 8192 (omega arith))),
      (
        bit_assigned 0 k labels goes_spot brim_below 4 test_index left_over 1 100
            (placed input acts 4 test_index 1 brim_test few b (omega arith) (omega arith)
            (front_of (coded brim_test) (listed brim_last) tested_linked) (omega (arith, n))) g below,
        (
          number_assigned 0 k labels brim_spot 15 brim_sum 5 again_index left_over 1 100
              (placed input acts 5 again_index 1 brim_again few b (omega arith) (omega arith)
              (front_of (coded brim_again) (listed brim_end) last_linked) (omega (arith, n))) h
              (fewer_fits five brim_sum 15 1 (omega arith) over sum),
          (
            met_does k labels goes_value brim_goto 6 back_index left_over 0 100
                (record {
                  act = record { line_fits = omega arith; acts = few };
                  registers = omega arith;
                  held = omega arith;
                  statement = back_linked;
                  paid = omega (arith, n);
                })
                (bit_does six goes_spot b g)
                (goto_does k labels brim_label 6 goto_index left_over (record { line_fits = omega arith; acts = few })
                (record {
                  begun = b;
                  carried = refl;
                  level = refl;
                  block = refl;
                  at = test_index;
                  place = refl;
                  near = omega arith;
                }) goto_linked),
            tt,
          ),
        ),
      ),
    )

-- ---- its label

labels_stand : StandAt (links_of brim_code) 0 (brim_label ∷ []) test_index
labels_stand = one_label_stands (links_of brim_code) test_index refl

-- ---- the whole

pub brim_is : (input first : List ℕ) (acts : ℕ) → acts + 1 < 2 ^ 64 → length first ≡ memory_size →
    IsWhole (brim_whole input acts) first
brim_is input first acts few bytes =
    let l = back_of (first_frame image_parts) (main_called 0) start_linked in
    record {
      start = record { linked = start_linked; differ = both_differ; bytes = bytes; told = λ n v e. absurd (cc e) };
      made = all_procedure (surroundings_of (brim_image input acts)) (linked_code brim_code)
          (main_of (brim_whole input acts)) (start_point (brim_image input acts)) no_numbers brim_variables
          (brim_all input acts);
      callee = record {
        coded = record { level = omega arith; line = omega arith; saved = omega arith; back = omega arith };
        calls = first_of (CallTo (ProcedureEntry 0)) _ (rest_of _ _ (rest_of _ _ (rest_of _ _ l)));
        place = refl;
        stands = main_linked;
        end = refl;
        kind = refl;
        labels = (
          λ label e. absurd (cc e),
          (labels_stand, (λ label e. absurd (cc e), (λ label e. absurd (cc e), λ label e. absurd (cc e)))),
        );
        acts = few;
      };
      room = record { room = omega arith; shallow = refl; parent = tt; idle = refl };
      level = refl;
      procedures = refl;
      statics = refl;
    }

pub brim_runs :
    Keeps run_keeper → (input first : List ℕ) (acts : ℕ) → acts + 1 < 2 ^ 64 → length first ≡ memory_size →
    Comes (linked_code brim_code) 0 (first_family first (services_of (start_point (brim_image input acts))))
    (services_of (start_point (brim_image input acts))) (never_in (brim_image input acts))
    (run brim_program (suc acts) acts (first_state input))
brim_runs keeps input first acts few bytes =
    program_runs keeps (brim_whole input acts) first (brim_is input first acts few bytes)
    (λ b. brim_each input acts few b)

-- ---- what the program comes to

unfoldable flows : Unit {0}
unfolding F.give F.◌>>=◌ F.◌>>◌ F.looked F.stored F.act F.finish F.returns F.jumps F.choose F.given F.list_from
    F.leaving M.met_after_act
flows = tt

unfoldable values : Unit {0}
unfolding V.number V.bit V.designated V.located V.numbers V.variable_designated V.part_designated V.stored_value R.or_error
    R.demanded R.value_of R.raised R.unit_run R.error R.error_unit_run P.element_stored M.assigned
values = tt

unfoldable makings : Unit {0}
unfolding K.variables_made K.automatic_made K.extents K.variable_made K.parameters_bound
makings = tt

unfoldable statements : Unit {0}
unfolding M.statement M.statements M.list M.list_with M.block_variables_made M.entry_act M.block_list M.block_body
statements = tt

pub brim_ends :
    (input : List ℕ) →
    M.meaning brim_program input 11
    ≡ Some (record {
      acts = 11;
      output = [];
      raised = (C.FixedOverflow, 20) ∷ (C.Error, 20) ∷ [];
      end = E.Error 20 5;
    })
unfolding M.meaning M.run M.entered M.block_run flows values makings statements
brim_ends input = refl
