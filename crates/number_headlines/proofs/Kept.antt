-- The main procedure of a program of the class: each of its statements does what it means, and so it keeps the
-- headline.
use Rattle.std.proofs.Common.{◌≡◌, ℕ, ◌+◌, ◌<◌, List, [], ◌∷◌, ◌++◌, length, None, true, false, refl, sym, ap, ◌∙◌, ◌^◌}
use Rattle.std.proofs.Common.{inl}
use Rattle.std.proofs.Common.{subst, arith}
use Rattle.std.specs.List.{list_any}
use Rattle.std.proofs.lemmas.Bool.{and_parts}
use Rattle.pli_typing.specs.TypedTree as Y
use Rattle.pli_meaning.specs.BasicValues.{VariableName}
use Rattle.pli_meaning.specs.DeclaredShapes.{declared_variable, variables_of_block}
use Rattle.pli_meaning.specs.Executing.{labels_in}
use Rattle.pli_meaning.specs.Making.{with_binding}
use Rattle.pli_meaning.specs.Pictures.{first_bytes}
use Rattle.pli_meaning.specs.StorageState.{Activation, Binding, ancestor, height_of, most_activations, newest_height}
use Rattle.pli_coding.specs.Environments.{block_around}
use Rattle.pli_coding.specs.Frames.{fixed_size}
use Rattle.pli_coding.specs.Images.{linked_code, picture_of}
use Rattle.code_marks.specs.CodeMarks.{MarkedOnce}
use Rattle.pli_coding.specs.SignatureTable.{table_of}
use Rattle.storage_relation.specs.ServiceLaws.{TableDiffers}
use Rattle.activation_relation.specs.FrameLaws.{with_waits}
use Rattle.activation_relation.specs.Layers.{Layer, Point}
use Rattle.program_places.specs.Constants.{constants_in}
use Rattle.program_places.specs.Programs.{IsLoadable, behind_body, body_for, code_for, entry_for, environment_for}
use Rattle.program_places.specs.Programs.{procedure_for}
use Rattle.program_places.proofs.Blocks.{own_block}
use Rattle.program_places.proofs.Callees.{end_is}
use Rattle.program_places.proofs.Memory.{first_length}
use Rattle.program_places.proofs.Procedures.{body_placed}
use Rattle.program_places.proofs.Starts.{main_found, whole_stands}
use Rattle.program_runs.specs.Calls.{left_over}
use Rattle.program_runs.specs.Starts.{image_parts, no_numbers}
use Rattle.program_runs.specs.Statements.{EachDoes, IsBegun}
use Rattle.program_runs.specs.Variables.{Declared, generation_for}
use Rattle.expression_runs.specs.Variables.{IsNumber, Spot, number_declared, variable_of}
use Rattle.array_runs.specs.Arrays.{IsArray}
use Rattle.scalar_runs.specs.Scalars.{IsScalar}
use Rattle.variable_runs.specs.Lists.{all_made, behind_made, layer_after, layer_behind}
use Rattle.variable_runs.proofs.Lists.{all_begun, all_serials}
use Rattle.list_calls.specs.Passed.{IsTelling}
use Rattle.list_calls.proofs.Telling.{own_telling}
use Rattle.pli_headline.specs.Headline.{FitsMemory, Headline, parts}
use Rattle.block_headlines.proofs.Constants.{constants_stand}
use Rattle.block_headlines.specs.Headlines.{HeadlinesKept, Layout, Runs}
use Rattle.nested_calls.specs.Nested.{IsNested}
use Rattle.number_runs.specs.Arrays.{grid_if, is_array_if}
use Rattle.number_runs.specs.Narrow.{is_narrow_if, type_if}
use Rattle.number_runs.specs.Numbers.{is_array_known, is_known, is_narrow_known, is_place, is_plain_if}
use Rattle.area_runs.specs.Allocations.{HasArea}
use Rattle.number_runs.specs.Areas.{held_in}
use Rattle.number_runs.specs.Based.{is_area_if, is_pointer_if}
use Rattle.number_runs.specs.Numbers.{is_area_known, is_pointer_known}
use Rattle.number_runs.proofs.AreaWords.{held_behind, held_few}
use Rattle.number_headlines.specs.Headlines.{IsNumberProgram}
use Rattle.number_headlines.specs.Programs.{are_all_known, has_main, most_words, places_to, pointers_of, scope_of}
use Rattle.number_headlines.proofs.Bodies.{each_body}
use Rattle.number_headlines.proofs.Around.{none_received, received_parts}
use Rattle.number_headlines.proofs.CalledBlocks.{made_idle}
use Rattle.number_headlines.proofs.FullWords.{words_at, words_lower}
use Rattle.number_headlines.proofs.Mains.{Main, block_for, level_of, made_system, main_all, main_begun, main_area}
use Rattle.number_headlines.proofs.MainLandings.{main_landings, main_run}
use Rattle.number_headlines.proofs.Mains.{class_main, main_array, main_for, main_narrow, held_for, main_pointer}
use Rattle.number_headlines.proofs.Mains.{main_layer, main_number, main_room, main_spare, main_told, own_words, placed}
use Rattle.number_headlines.proofs.Mains.{main_areas, run_for}
use Rattle.number_headlines.proofs.Telling.{serial_given}
use Rattle.number_runs.proofs.AreaKnown.{held_place}
use Rattle.number_runs.proofs.Words.{found}
use Rattle.number_headlines.proofs.Mains.{spare, start_for, surroundings_for}
use Rattle.number_headlines.proofs.Loops.{after_waits, after_words}
use Rattle.number_headlines.proofs.Places.{around_is}
use Rattle.number_headlines.proofs.Pointers.{pointers_own}
use Rattle.number_headlines.proofs.Running.{IsEntered, IsPointing, called_held, table_later}
use Rattle.number_headlines.proofs.Tables.{has_start, has_table, held_block}

-- ---- the main procedure as the first block that runs

-- the one activation, with the variables that it has by then
abbrev lone : (level : ℕ) → List Binding → List Activation
lone level bindings =
    record { height = 1; level = level; parent = 0; oncode = 0; bindings = bindings; units = [] } ∷ []

record Lone (level : ℕ) (as' : List Activation) : Type 0 where
  bindings : List Binding
  is : as' ≡ lone level bindings

made_lone :
    (level : ℕ) (φ : Layer) (xs : List Declared) (p : Point) → Lone level p.state.activations →
    Lone level (all_made image_parts φ xs p).state.activations
made_lone level φ [] p h = h
made_lone level φ (x ∷ xs) p h =
    let b : Binding = record {
      variable = x.index;
      name = VariableName (p.state.serials + 1);
      shape = (generation_for x).shape;
    } in
    made_lone level (layer_behind image_parts (p.state.serials + 1) φ x) xs (behind_made image_parts φ x p)
    (record { bindings = b ∷ h.bindings; is = ap (λ as'. with_binding b as') h.is })

main_lone :
    {program : Y.Program} (m : Main program) (input : List ℕ) (acts : ℕ) →
    Lone m.head.level (block_for m input acts).first.state.activations
main_lone {program} m input acts =
    made_lone m.head.level (main_layer m input acts) (held_in (environment_for program m.head))
    (main_begun m input acts)
    (record { bindings = []; is = refl })

lone_ancestor :
    (level : ℕ) (bs : List Binding) → level ≡ 0 → height_of (ancestor (lone level bs) 1 0) ≡ 1
lone_ancestor level bs e = subst (λ l. height_of (ancestor (lone l bs) 1 0) ≡ 1) (sym e) refl

main_nested :
    {program : Y.Program} (m : Main program) (input : List ℕ) (acts : ℕ) → IsNested (block_for m input acts)
main_nested {program} m input acts =
    let one = main_lone m input acts in
    let level = level_of m in
    let as' = (block_for m input acts).first.state.activations in
    let here : height_of (ancestor as' (newest_height as') 0) ≡ 1 =
    ap (λ xs. height_of (ancestor xs (newest_height xs) 0)) one.is ∙ lone_ancestor m.head.level one.bindings level in
    let newest : newest_height as' ≡ 1 = ap (λ xs. newest_height xs) one.is in
    record {
      own = refl;
      few = omega (arith, level);
      some = λ n less.
          let is : n ≡ 0 = omega (arith, less, level) in
          subst (λ j. 0 < height_of (ancestor as' (newest_height as') j)) (sym is) (omega (arith, here));
      same = λ outer n less high.
          let is : outer ≡ 0 = omega (arith, high, level) in
          ap (λ j. ancestor as' (height_of (ancestor as' (newest_height as') j)) n) is
          ∙ ap (λ j. ancestor as' j n) (here ∙ sym newest);
    }

-- it may name its own variables
main_owns :
    {program : Y.Program} (m : Main program) (x : Spot) →
    list_any (is_place x) (places_to (environment_for program m.head) m.head.level) ≡ true →
    (x.block ≡ m.head.number) × (x.level ≡ m.head.level)
main_owns {program} m x h =
    let e = environment_for program m.head in
    let there = around_is e m.head.level x h in
    let less = there.0 in
    let level = level_of m in
    let same : x.level ≡ m.head.level = omega (arith, less, level) in (
      there.1 ∙ ap (λ n. block_around e n) same
          ∙ own_block program m.head m.body None (main_found program (placed m) m.main),
      same,
    )

main_variable :
    {program : Y.Program} (m : Main program) (input : List ℕ) (acts : ℕ) → IsBegun (block_for m input acts) →
    (x : Spot) → is_known (scope_of program m.called m.head m.body) x ≡ true →
    IsNumber (block_for m input acts) x
main_variable {program} m input acts b x h =
    let plain = is_plain_if (declared_variable program (variable_of x)) in
    let a = and_parts (list_any (is_place x) (places_to (environment_for program m.head) m.head.level)) plain h in
    let own = main_owns m x a.0 in
    main_number m input acts x (record { block = own.0; level = own.1; plain = a.1 }) b

-- and its frame tells their names
main_names :
    {program : Y.Program} (m : Main program) (input : List ℕ) (acts : ℕ) → IsBegun (block_for m input acts) →
    (x : Spot) → is_known (scope_of program m.called m.head m.body) x ≡ true →
    (block_for m input acts).first.state.serials < 2 ^ 64 → IsTelling (block_for m input acts) x
main_names {program} m input acts b x h small =
    let e = environment_for program m.head in
    let plain = is_plain_if (declared_variable program (variable_of x)) in
    let a = and_parts (list_any (is_place x) (places_to e m.head.level)) plain h in
    let own = main_owns m x a.0 in
    let is = main_variable m input acts b x h in
    let there = found (declared_variable program (variable_of x)) a.1 in
    let w = surroundings_for program input acts in
    let code = linked_code (code_for program) in
    let at = held_place w code (main_for m input acts) (start_for program input acts) no_numbers x
    (number_declared there.initial) (main_areas m input acts) own refl there.is in
    let given = serial_given (block_for m input acts) x b is in
    own_telling w code (main_for m input acts) (start_for program input acts) no_numbers (held_in e) _ x
    (main_all m input acts) at.1 at.0 is (omega (arith, given, small))

main_element :
    {program : Y.Program} (m : Main program) (input : List ℕ) (acts : ℕ) → IsBegun (block_for m input acts) →
    (x : Spot) → is_array_known (scope_of program m.called m.head m.body) x ≡ true →
    IsArray (block_for m input acts) x (grid_if (declared_variable program (variable_of x)))
main_element {program} m input acts b x h =
    let array = is_array_if (declared_variable program (variable_of x)) in
    let a = and_parts (list_any (is_place x) (places_to (environment_for program m.head) m.head.level)) array h in
    let own = main_owns m x a.0 in
    main_array m input acts x (record { block = own.0; level = own.1; array = a.1 }) b

main_scalar :
    {program : Y.Program} (m : Main program) (input : List ℕ) (acts : ℕ) → IsBegun (block_for m input acts) →
    (x : Spot) → is_narrow_known (scope_of program m.called m.head m.body) x ≡ true →
    IsScalar (block_for m input acts) x (type_if (declared_variable program (variable_of x)))
main_scalar {program} m input acts b x h =
    let narrow = is_narrow_if (declared_variable program (variable_of x)) in
    let a = and_parts (list_any (is_place x) (places_to (environment_for program m.head) m.head.level)) narrow h in
    let own = main_owns m x a.0 in
    main_narrow m input acts x (record { block = own.0; level = own.1; narrow = a.1 }) b

-- and its own pointers and areas
main_points :
    {program : Y.Program} (m : Main program) (input : List ℕ) (acts : ℕ) → IsBegun (block_for m input acts) →
    (x : Spot) → is_pointer_known (scope_of program m.called m.head m.body) x ≡ true →
    IsPointing program (block_for m input acts) m.head x
main_points {program} m input acts b x h =
    let pointer = is_pointer_if (declared_variable program (variable_of x)) in
    let a = and_parts (list_any (is_place x) (pointers_of m.head)) pointer h in
    let own = pointers_own m.head x a.0 in
    record {
      known = main_pointer m input acts x (record { block = own.0; level = own.1; pointer = a.1 }) b;
      own = own.1;
      low = omega arith;
    }

main_holds :
    {program : Y.Program} (m : Main program) (input : List ℕ) (acts : ℕ) → IsBegun (block_for m input acts) →
    (x : Spot) → is_area_known (scope_of program m.called m.head m.body) x ≡ true →
    HasArea (block_for m input acts) x
main_holds {program} m input acts b x h =
    let area = is_area_if (declared_variable program (variable_of x)) in
    let a = and_parts (list_any (is_place x) (pointers_of m.head)) area h in
    let own = pointers_own m.head x a.0 in
    main_area m input acts x (record { block = own.0; level = own.1; area = a.1 }) b

main_running :
    MarkedOnce → {program : Y.Program} (m : Main program) (input : List ℕ) (acts : ℕ) →
    IsBegun (block_for m input acts) →
    IsEntered m input acts false acts (main_run m input acts) most_activations
main_running once {program} m input acts b =
    let w = surroundings_for program input acts in
    let start = main_begun m input acts in
    let φ = main_layer m input acts in
    let xs = held_in (environment_for program m.head) in
    let serial = start.state.serials + 1 in
    let first = b.acts in
    let one = main_lone m input acts in
    let long = ap (λ (as' : List Activation). length as') one.is in
    let ds = variables_of_block program m.head.number in
    let e = environment_for program m.head in
    let spot = fixed_size m.head.level 0 in
    let spared = main_spare m input acts in
    let held = held_block program.variables m.head.number m.known m.own in
    let room = held_behind w start φ [] e spot 0 spare ds refl refl held.any spared in
    let place = room.here in
    let limit = room.limit in
    let lower = words_lower image_parts (start.state.serials + 1) φ xs in
    let at = words_at image_parts (start.state.serials + 1) φ xs in
    let few = held.room in
    let level = level_of m in
    let words = own_words m in
    let waiting = m.waiting in
    let found = main_found program (placed m) m.main in
    let serials = all_serials w start φ xs in
    let many = held_few e spot 0 ds in
    let count = held.few in
    let small : (block_for m input acts).first.state.serials < 2 ^ 64 = omega (arith, serials, many, count) in
    record {
      running = record {
        own = own_block program m.head m.body None found;
        shallow = omega (arith, level);
        level = refl;
        held = called_held m false m.head m.body m.statements m.fits m.begins (main_run m input acts) refl refl;
        home = inl (record {
          function = refl;
          kind = refl;
          saved = omega arith;
          ends = end_is once program m.head m.body m.loadable found;
          owner = refl;
        });
        placed = body_placed once program m.head m.body None m.loadable found;
        statements = m.statements;
        fits = m.fits;
        waiting = m.waiting;
        begun = b;
        enough = omega (arith, first);
        nested = main_nested m input acts;
        variables = λ x h. main_variable m input acts b x h;
        arrays = λ x h. main_element m input acts b x h;
        narrows = λ x h. main_scalar m input acts b x h;
        parameters = λ x h.
            absurd (none_received program m.called m.head m.body None x found
            (main_owns m x (received_parts program m.called m.head m.body x h).0).0 h);
        named = λ x h. main_names m input acts b x h small;
        serials = small;
        unraised = λ c. made_system image_parts _ xs _ c tt;
        idle = made_idle φ xs start;
        told = main_told m input acts b;
        free = record {
          layer = layer_after image_parts serial φ xs;
          below = _;
          newest = room.newest;
          even = room.even;
          under = omega (arith, lower);
          low = room.low;
          used = omega (arith, limit);
          fits = omega (arith, words, waiting, level, place, at, lower, few);
        };
        tabled = table_later program b.remains (λ head. has_table program head m.known);
        depth = record { some = omega arith; all = omega (arith, long) };
      };
      words = after_words serial φ xs ∙ own_words m;
      clear = ap (λ waits. with_waits waits (layer_after image_parts serial φ xs)) (sym (after_waits serial φ xs));
      pointers = λ x h. main_points m input acts b x h;
      areas = λ x h. main_holds m input acts b x h;
    }

main_each :
    MarkedOnce → {program : Y.Program} (m : Main program) (input : List ℕ) (acts : ℕ) → acts + 1 < 2 ^ 64 →
    IsBegun (block_for m input acts) →
    EachDoes (block_for m input acts) (labels_in m.body ++ []) m.body (body_for program m.head m.body) left_over
main_each once {program} m input acts few b =
    each_body once m input acts few acts false (main_run m input acts) most_activations
    (main_running once m input acts b) (main_landings m input acts)

-- ---- the whole

abbrev layout_for : {program : Y.Program} → Main program → Layout
layout_for {program} m =
    record {
      main = procedure_for program m.head m.body;
      others = m.others;
      environment = environment_for program m.head;
      entry = entry_for program m.head.number;
      end = behind_body program m.head m.body;
      units = [];
      constants = constants_in (code_for program);
      fills = [];
      serials = most_words;
      made = held_for program m.head;
    }

program_runs :
    MarkedOnce → TableDiffers → {program : Y.Program} (m : Main program) → FitsMemory (picture_of parts program) →
    Runs program (layout_for m)
program_runs once tables {program} m fits =
    record {
      whole = λ input acts few.
          whole_stands once tables program (placed m) (run_for program input acts) (held_for program m.head)
          (first_bytes (picture_of parts program)) m.loadable (has_start program m.known) m.main
          (first_length (picture_of parts program) m.loadable.fits fits.statics_fit)
          (constants_stand (code_for program) fits) few
          (all_begun (surroundings_for program input acts) (linked_code (code_for program))
          (main_for m input acts)
          (start_for program input acts) no_numbers (held_in (environment_for program m.head))
          (main_all m input acts))
          (main_room m input acts);
      each = λ input acts few b. main_each once m input acts few b;
    }

pub headline_kept :
    MarkedOnce → TableDiffers → HeadlinesKept → (program : Y.Program) → IsNumberProgram program →
    FitsMemory (picture_of parts program) →
    Headline program (picture_of parts program) (table_of program)
headline_kept once tables kept program h fits =
    let a = and_parts (are_all_known program.variables) (has_main program program.procedures) h.numbers in
    let load : IsLoadable program = record { well_formed = h.well_formed; fits = fits.code_fits } in
    let m = class_main program program.procedures refl a.0 load fits a.1 in
    kept program (layout_for m) (program_runs once tables m fits)
