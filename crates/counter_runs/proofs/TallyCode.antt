-- The worked row of a DO that counts in an element: its code, its variables, and its block in a turn.
use Rattle.std.proofs.Common.{List, Option}
use Rattle.std.proofs.Common.{[], ap, arith, false}
use Rattle.std.proofs.Common.{inl, map}
use Rattle.std.proofs.Common.{refl, suc, sym}
use Rattle.std.proofs.Common.{true, zero, ℕ}
use Rattle.std.proofs.Common.{◌++◌, ◌+◌, ◌<◌}
use Rattle.std.proofs.Common.{◌^◌, ◌∙◌, ◌∷◌, ◌≡◌}
use Rattle.std.specs.Prelude.{ℤ}
use Rattle.pli_types.specs.Templates.{Template}
use Rattle.pli_serving.specs.SignatureService.{same_template}
use Rattle.storage_relation.specs.Standing.{IsValued, leaf_in}
use Rattle.storage_relation.specs.Telling.{IsOf}
use Rattle.pli_serving.specs.Templates.{template_of}
use Rattle.pli_coding.specs.Allocating.{act_code}
use Rattle.pli_coding.specs.Assembly.{Code}
use Rattle.pli_coding.specs.Assembly.{Mark, ProcedureEntry}
use Rattle.pli_coding.specs.Assembly.{ReturnPlace, size_of}
use Rattle.pli_coding.specs.Environments.{none_taken}
use Rattle.pli_coding.specs.Images.{linked_code, raise_code}
use Rattle.pli_coding.specs.Linking.{links_of}
use Rattle.pli_coding.specs.SignatureTable.{table_of}
use Rattle.pli_coding.specs.Statements.{stmt_code, stmts_code}
use Rattle.storage_relation.specs.Served.{AllDiffer}
use Rattle.activation_relation.specs.Layers.{Layer}
use Rattle.run_steps.specs.Items.{Linked}
use Rattle.run_steps.proofs.Jumps.{back_of, front_of, rest_of}
use Rattle.run_steps.proofs.Linking.{has_items, linked_length}
use Rattle.program_runs.specs.Calls.{block_at}
use Rattle.program_runs.specs.Procedures.{begin_of, end_of}
use Rattle.program_runs.specs.Procedures.{layer_for, procedure_code}
use Rattle.program_runs.specs.Programs.{Whole, main_of}
use Rattle.program_runs.specs.Starts.{image_parts, no_numbers}
use Rattle.program_runs.specs.Starts.{start_of, start_point, surroundings_of}
use Rattle.program_runs.specs.Statements.{Block}
use Rattle.program_runs.specs.Statements.{IsBegun}
use Rattle.program_runs.proofs.Rows.{is_datum, names_none, none_named}
use Rattle.program_runs.proofs.VariableRows.{number_valued}
use Rattle.program_runs.specs.Variables.{Declared, generation_for}
use Rattle.expression_runs.specs.Variables.{IsNumber}
use Rattle.function_runs.specs.Functions.{function_code}
use Rattle.function_runs.specs.Functions.{function_tail}
use Rattle.variable_runs.specs.Lists.{AreAll, newest_all}
use Rattle.element_runs.specs.Arrays.{IsArray}
use Rattle.unit_runs.specs.Establishing.{IsOn, behind_on, on_of}
use Rattle.counter_runs.specs.Words.{telling}
use Rattle.counter_runs.proofs.Words.{begun_telling}
use Rattle.counter_runs.specs.TallyRows.{array_made, inner_body, inner_coded, inner_entry, inner_environment}
use Rattle.counter_runs.specs.TallyRows.{inner_procedure, main_coded, number_made, tally_array, tally_body}
use Rattle.counter_runs.specs.TallyRows.{tally_bounds, tally_code, tally_end, tally_entry}
use Rattle.counter_runs.specs.TallyRows.{tally_environment, tally_first, tally_image, tally_inner, tally_loop}
use Rattle.counter_runs.specs.TallyRows.{tally_main, tally_on, tally_program, tally_rest}
use Rattle.counter_runs.specs.TallyRows.{tally_spot, tally_start}
use Rattle.counter_runs.specs.TallyRows.{tally_unit}
use Rattle.pli_typing.specs.TypedTree as Y
use Rattle.pli_meaning.specs.Making as K

-- ---- its code

pub tally_linked : Linked (links_of tally_code) (linked_code tally_code) 0 tally_code
unfolding names_none is_datum
tally_linked =
    let n = linked_length (links_of tally_code) 0 tally_code in
    record {
      small' = omega (arith, n);
      inside = omega (arith, n);
      has = has_items (links_of tally_code) tally_code refl;
      named = λ d h. absurd (none_named d tally_code refl h);
    }

pub start_linked : Linked (links_of tally_code) (linked_code tally_code) 0 (start_of 0)
start_linked = front_of (start_of 0) (raise_code ++ (main_coded ++ inner_coded)) tally_linked

pub raise_linked : Linked (links_of tally_code) (linked_code tally_code) (size_of (start_of 0)) raise_code
raise_linked =
    front_of raise_code (main_coded ++ inner_coded)
    (back_of (start_of 0) (raise_code ++ (main_coded ++ inner_coded)) tally_linked)

pub both_linked : Linked (links_of tally_code) (linked_code tally_code) tally_entry (main_coded ++ inner_coded)
both_linked =
    back_of raise_code (main_coded ++ inner_coded)
    (back_of (start_of 0) (raise_code ++ (main_coded ++ inner_coded)) tally_linked)

pub main_linked :
    Linked (links_of tally_code) (linked_code tally_code) tally_entry (procedure_code tally_environment tally_main)
main_linked =
    rest_of (Mark (ProcedureEntry 0)) (procedure_code tally_environment tally_main)
    (front_of main_coded inner_coded both_linked)

pub inner_linked :
    Linked (links_of tally_code) (linked_code tally_code) inner_entry (function_code inner_environment tally_inner)
inner_linked =
    rest_of (Mark (ProcedureEntry 1)) (function_code inner_environment tally_inner)
    (back_of main_coded inner_coded both_linked)

abbrev pub tally_finish : ℕ
tally_finish = tally_start + size_of (stmts_code tally_environment none_taken tally_body)

abbrev pub inner_start : ℕ
inner_start = inner_entry + size_of (begin_of tally_inner) + 0 + size_of (act_code 2)

pub body_linked :
    Linked (links_of tally_code) (linked_code tally_code) tally_start
    (stmts_code tally_environment none_taken tally_body)
body_linked =
    let one = act_code 1 in
    let body = stmts_code tally_environment none_taken tally_body in
    let tail = Mark (ReturnPlace 0) ∷ end_of tally_main in
    let rest = one ++ (body ++ tail) in
    front_of body tail
    (back_of one (body ++ tail)
    (back_of tally_main.variables rest (back_of (begin_of tally_main) (tally_main.variables ++ rest) main_linked)))

pub inner_body_linked :
    Linked (links_of tally_code) (linked_code tally_code) inner_start
    (stmts_code inner_environment none_taken inner_body)
inner_body_linked =
    let one = act_code 2 in
    let body = stmts_code inner_environment none_taken inner_body in
    let tail = function_tail tally_inner in
    let rest = one ++ (body ++ tail) in
    front_of body tail
    (back_of one (body ++ tail) (back_of [] rest (back_of (begin_of tally_inner) rest inner_linked)))

abbrev pub coded : Y.Stmt → Code
coded stmt = stmt_code tally_environment none_taken stmt

abbrev pub listed : Y.Stmts → Code
listed body = stmts_code tally_environment none_taken body

abbrev pub StandsAt : ℕ → Code → Type 0
StandsAt index part = Linked (links_of tally_code) (linked_code tally_code) index part

pub rest_linked : StandsAt tally_on (listed tally_rest)
rest_linked = back_of (coded tally_first) (listed tally_rest) body_linked

pub on_linked : StandsAt tally_on (coded (on_of tally_unit))
on_linked = front_of (coded (on_of tally_unit)) (listed tally_end) rest_linked

abbrev pub loop_index : ℕ
loop_index = tally_on + size_of (coded (on_of tally_unit))

pub end_linked : StandsAt loop_index (listed tally_end)
end_linked = back_of (coded (on_of tally_unit)) (listed tally_end) rest_linked

pub loop_linked : StandsAt loop_index (coded tally_loop)
loop_linked = front_of (coded tally_loop) [] end_linked

-- ---- its variables

pub two_differ :
    (t u : Template) → same_template t t ≡ true → same_template u u ≡ true → same_template t u ≡ false →
    same_template u t ≡ false → AllDiffer (t ∷ u ∷ [])
two_differ t u tt' uu tu ut zero zero a b e f =
    let ea : t ≡ a = cc e in
    let eb : t ≡ b = cc f in
    ap (λ x. same_template x b) (sym ea) ∙ ap (λ x. same_template t x) (sym eb) ∙ tt'
two_differ t u tt' uu tu ut zero (suc zero) a b e f =
    let ea : t ≡ a = cc e in
    let eb : u ≡ b = cc f in
    ap (λ x. same_template x b) (sym ea) ∙ ap (λ x. same_template t x) (sym eb) ∙ tu
two_differ t u tt' uu tu ut (suc zero) zero a b e f =
    let ea : u ≡ a = cc e in
    let eb : t ≡ b = cc f in
    ap (λ x. same_template x b) (sym ea) ∙ ap (λ x. same_template u x) (sym eb) ∙ ut
two_differ t u tt' uu tu ut (suc zero) (suc zero) a b e f =
    let ea : u ≡ a = cc e in
    let eb : u ≡ b = cc f in
    ap (λ x. same_template x b) (sym ea) ∙ ap (λ x. same_template u x) (sym eb) ∙ uu
two_differ t u tt' uu tu ut zero (suc (suc j)) a b e f = absurd (cc f)
two_differ t u tt' uu tu ut (suc zero) (suc (suc j)) a b e f = absurd (cc f)
two_differ t u tt' uu tu ut (suc (suc i)) j a b e f = absurd (cc e)

pub both_differ : AllDiffer (map template_of (table_of tally_program))
both_differ = two_differ _ _ refl refl refl refl

pub array_valued : IsValued (generation_for array_made)
array_valued leaf is less within = by_leaf leaf is less
  where
    by_leaf :
        (leaf : ℕ) (is : List ℤ) → leaf < 1 →
        IsOf (leaf_in (generation_for array_made) leaf).kind ((generation_for array_made).values leaf is)
    by_leaf zero is less = (omega arith, refl)
    by_leaf (suc leaf) is less = absurd (omega (arith, less))

abbrev pub tally_variables : List Declared
tally_variables = array_made ∷ number_made ∷ []

abbrev pub tally_whole : (input : List ℕ) → (acts : ℕ) → Whole
tally_whole input acts =
    record {
      image = tally_image input acts;
      program = tally_program;
      main = tally_main;
      others = inner_procedure ∷ [];
      environment = tally_environment;
      entry = tally_entry;
      end = tally_finish;
      made = newest_all image_parts tally_variables;
    }

pub tally_all :
    (input : List ℕ) (acts : ℕ) →
    AreAll (surroundings_of (tally_image input acts)) (main_of (tally_whole input acts))
    (start_point (tally_image input acts)) no_numbers tally_variables
tally_all input acts =
    let n = linked_length (links_of tally_code) 0 tally_code in
    record {
      kind = refl;
      those = inl (refl, refl, inl (refl, refl, tt));
      listed = (
        record { class = refl; evaluations = refl; late = omega arith; table = refl },
        (record { class = refl; evaluations = refl; late = omega arith; table = refl }, tt),
      );
      code = refl;
      made = refl;
      parts = refl;
      few = omega arith;
      declared = (
        inl (record {
          newest = refl;
          here = refl;
          holds = omega arith;
          size = omega arith;
          fits = omega arith;
          even = refl;
          low = omega (arith, n);
          shape = refl;
          number = omega arith;
          initial = refl;
          none = refl;
          plain = refl;
          fixed = refl;
          values = (tt, tt);
          valued = array_valued;
          limit = refl;
        }),
        (
          inl (record {
            newest = refl;
            here = refl;
            holds = omega arith;
            size = omega arith;
            fits = omega arith;
            even = refl;
            low = omega (arith, n);
            shape = refl;
            number = omega arith;
            initial = refl;
            none = refl;
            plain = refl;
            fixed = refl;
            values = (tt, tt);
            valued = number_valued;
            limit = refl;
          }),
          tt,
        ),
      );
    }

abbrev pub tally_block : (input : List ℕ) → (acts : ℕ) → Block
tally_block input acts =
    block_at (surroundings_of (tally_image input acts)) (linked_code tally_code) (main_of (tally_whole input acts))
    (start_point (tally_image input acts)) no_numbers

-- the number and the array, in any block with this one's first activation
pub first_number : (input : List ℕ) (acts : ℕ) → IsNumber (tally_block input acts) tally_spot
first_number input acts =
    record {
      initial = [];
      declared = refl;
      serial = 2;
      binding = refl;
      living = K.living_at 2 1 (generation_for number_made);
      lives = refl;
      shape = refl;
      base = _;
      frame = inl (refl, refl);
      at = refl;
      low = omega arith;
      inside = omega arith;
    }

-- ---- the block behind the ON, and in a turn

abbrev pub behind_block : (input : List ℕ) → (acts : ℕ) → Block
behind_block input acts = behind_on (tally_block input acts) tally_unit tally_on

pub on_is :
    (input : List ℕ) (acts : ℕ) → acts + 1 < 2 ^ 64 → IsBegun (tally_block input acts) →
    IsOn (tally_block input acts) tally_unit tally_on
on_is input acts few b =
    record {
      act = record { line_fits = omega arith; acts = few };
      begun = b;
      statement = on_linked;
      place = (0, refl);
    }

abbrev pub newest_of : Layer → List Layer → Layer
newest_of other [] = other
newest_of other (φ ∷ φs) = φ

-- its layer, the oldest
abbrev pub main_layer : (input : List ℕ) → (acts : ℕ) → Layer
main_layer input acts =
    newest_of
    (layer_for (surroundings_of (tally_image input acts)) (start_point (tally_image input acts)) no_numbers tally_main
    (main_of (tally_whole input acts)).calling)
    (behind_block input acts).first.control.layers

abbrev pub told : (waits : ℕ → Option ℕ) → (input : List ℕ) → (acts : ℕ) → Block
told waits input acts = telling waits (main_layer input acts) [] (behind_block input acts)

pub told_begun :
    (waits : ℕ → Option ℕ) (input : List ℕ) (acts : ℕ) → IsBegun (behind_block input acts) →
    IsBegun (told waits input acts)
told_begun waits input acts b = begun_telling (behind_block input acts) (main_layer input acts) [] waits refl b

pub told_number : (waits : ℕ → Option ℕ) (input : List ℕ) (acts : ℕ) → IsNumber (told waits input acts) tally_spot
told_number waits input acts =
    record {
      initial = [];
      declared = refl;
      serial = 2;
      binding = refl;
      living = K.living_at 2 1 (generation_for number_made);
      lives = refl;
      shape = refl;
      base = _;
      frame = inl (refl, refl);
      at = refl;
      low = omega arith;
      inside = omega arith;
    }

pub told_array :
    (waits : ℕ → Option ℕ) (input : List ℕ) (acts : ℕ) → IsArray (told waits input acts) tally_array tally_bounds
told_array waits input acts =
    record {
      initial = [];
      known = record {
        declared = refl;
        serial = 1;
        binding = refl;
        living = K.living_at 1 1 (generation_for array_made);
        lives = refl;
        shape = refl;
        base = _;
        frame = inl (refl, refl);
        at = refl;
        low = omega arith;
        inside = omega arith;
      };
      bounds = record { lower = refl; upper = refl; order = refl };
    }
