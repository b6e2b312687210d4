-- The main procedure of a program of the class where it begins: its variables are made, and there is room for a unit.
use Rattle.std.proofs.Common.{◌≡◌, ℕ, ◌+◌, ◌≤◌, List, [], ◌∷◌, ◌++◌, None, Option, Some, true, false}
use Rattle.std.proofs.Common.{length, refl, sym, ap, ◌∙◌, subst, arith}
use Rattle.std.specs.Prelude.{◌&&◌, Bool, nat_le}
use Rattle.std.specs.List.{list_any}
use Rattle.std.proofs.lemmas.Bool.{and_parts, leb-true}
use Rattle.pli_language.specs.declared.condition.Condition.{Condition}
use Rattle.pli_typing.specs.TypedTree as Y
use Rattle.pli_meaning.specs.BasicValues.{VariableName}
use Rattle.pli_meaning.specs.DeclaredShapes.{declared_variable, head_of, procedure_numbered}
use Rattle.pli_meaning.specs.DeclaredShapes.{variables_of_block}
use Rattle.pli_meaning.specs.Executing.{labels_in}
use Rattle.pli_meaning.specs.Making.{with_binding}
use Rattle.pli_meaning.specs.StorageState.{Activation, Binding, OnUnit}
use Rattle.pli_coding.specs.Frames.{fixed_size, parameters_in}
use Rattle.pli_coding.specs.Images.{linked_code, picture_of}
use Rattle.pli_coding.specs.Registers.{held_registers}
use Rattle.pli_coding.specs.Environments.{block_around, none_taken}
use Rattle.pli_coding.specs.Statements.{block_held, block_takes, stmts_take}
use Rattle.activation_relation.specs.Chains.{HasParent, UnitPlaces}
use Rattle.activation_relation.specs.Layers.{Layer, Point}
use Rattle.activation_relation.specs.Points.{Surroundings}
use Rattle.program_places.specs.Programs.{IsLoadable, IsMain, Run, body_for, code_for, environment_for, image_for}
use Rattle.program_places.specs.Programs.{procedure_for, whole_for}
use Rattle.program_places.specs.Programs as Placed
use Rattle.program_places.proofs.Blocks.{own_block}
use Rattle.program_places.proofs.Found.{known}
use Rattle.program_places.proofs.Starts.{main_found}
use Rattle.program_runs.specs.Calls.{Callee, begun_at, block_at}
use Rattle.program_runs.specs.Procedures.{HasRoom, layer_for}
use Rattle.program_runs.specs.Programs.{main_of}
use Rattle.program_runs.specs.Starts.{image_parts, no_numbers, start_point, surroundings_of}
use Rattle.program_runs.specs.Statements.{Block, IsBegun}
use Rattle.program_runs.specs.Variables.{Declared, generation_for}
use Rattle.expression_runs.specs.Variables.{IsNumber, Spot, variable_of}
use Rattle.pli_headline.specs.Headline.{FitsMemory, parts}
use Rattle.variable_runs.specs.Lists.{AreAllBegun, all_made, behind_made, layer_after, layer_behind}
use Rattle.well_formed_trees.specs.WellFormed.{HasMain}
use Rattle.array_runs.specs.Arrays.{IsArray}
use Rattle.scalar_runs.specs.Scalars.{IsScalar}
use Rattle.number_runs.specs.Arrays.{is_array_if}
use Rattle.number_runs.specs.Narrow.{is_narrow_if}
use Rattle.number_runs.specs.Numbers.{Scope, grid_known, has_none, is_array_known, is_known, is_place, is_plain_if}
use Rattle.number_runs.specs.Numbers.{is_narrow_known, type_known}
use Rattle.number_runs.specs.Statements.{statements_need, statements_set}
use Rattle.number_runs.specs.Variables.{HasWords, HaveRoom, IsOwnArray, IsOwnNarrow, IsOwnWord, bytes_of, words_in}
use Rattle.number_runs.proofs.Taking.{Sets}
use Rattle.number_runs.proofs.Words.{all_words, own_array, own_narrow, own_word, room_behind, room_fewer}
use Rattle.number_headlines.specs.Programs.{are_all_plain, body_of, has_result, most_waiting, most_words}
use Rattle.number_headlines.specs.Programs.{places_to}
use Rattle.number_headlines.proofs.Places.{around_is}
use Rattle.number_headlines.proofs.Mains.{made_for, procedure_is, result_is, spare}
use Rattle.number_headlines.proofs.Begins.{block_begins}
use Rattle.number_headlines.proofs.Tables.{all_known, block_plain, has_table}
use Rattle.unit_runs.specs.Establishing as T
use Rattle.unit_numbers.specs.Called.{are_called, called_ones, called_units}
use Rattle.unit_numbers.specs.Calls.{all_units_in, scope_in}
use Rattle.unit_numbers.specs.Programs.{are_apart, has_unit_main, is_unit_body}
use Rattle.unit_numbers.specs.Steps.{are_steps}
use Rattle.unit_numbers.proofs.Forces.{AreOwn}
use Rattle.unit_numbers.proofs.Places.{all_placed_in, places_of}
use Rattle.unit_numbers.proofs.Takes.{behind_variables, steps_taken}

-- its program, with what the class says of it
pub record Main (program : Y.Program) : Type 0 where
  pub head : Y.BlockHead
  pub body : Y.Stmts
  pub others : List Y.Procedure
  pub main : IsMain program (record { head = head; body = body; others = others })
  pub plain : are_all_plain program.variables ≡ true
  pub loadable : IsLoadable program
  pub memory : FitsMemory (picture_of parts program)
  -- the numbers of the procedures that it calls, and that they call
  pub called : List ℕ
  pub steps : are_steps program called head body false (labels_in body ++ []) body ≡ true
  pub apart : are_apart (all_units_in body ++ called_units program called) ≡ true
  pub fits : statements_need body ≤ held_registers
  pub waiting : statements_set body ≤ most_waiting
  pub calls : are_called program called called ≡ true

-- its list
abbrev pub list_of : {program : Y.Program} → Main program → Y.Stmts
list_of m = m.body

-- its ONs, where they stand
abbrev pub ons_of : {program : Y.Program} → Main program → List (T.OnUnit × ℕ)
ons_of {program} m = all_placed_in (environment_for program m.head) m.body (body_for program m.head m.body)

-- those of what is called
abbrev pub placed_if : Y.Program → Option Y.Procedure → List (T.OnUnit × ℕ)
placed_if program None = []
placed_if program (Some p) =
    all_placed_in (environment_for program (head_of p.block)) (body_of p.block)
    (body_for program (head_of p.block) (body_of p.block))

abbrev pub called_placed : Y.Program → List ℕ → List (T.OnUnit × ℕ)
called_placed program [] = []
called_placed program (n ∷ ns) =
    placed_if program (procedure_numbered n program.procedures) ++ called_placed program ns

-- all that the program has
abbrev pub all_ons : {program : Y.Program} → Main program → List (T.OnUnit × ℕ)
all_ons {program} m = ons_of m ++ called_placed program m.called

-- as it is placed
abbrev pub placed : {program : Y.Program} → Main program → Placed.Main
placed m = record { head = m.head; body = m.body; others = m.others }

pub main_is :
    (program : Y.Program) (ps : List Y.Procedure) → program.procedures ≡ ps →
    are_all_plain program.variables ≡ true → IsLoadable program → FitsMemory (picture_of parts program) →
    has_unit_main program ps ≡ true → Main program
main_is program [] e plain load memory h = absurd (cc h)
main_is program (p ∷ ps) e plain load memory h =
    let head = head_of p.block in
    let body = body_of p.block in
    let called = called_ones program in
    let inner = is_unit_body program called head body in
    let fits = nat_le (statements_need body) held_registers in
    let waiting = nat_le (statements_set body) most_waiting in
    let all = are_called program called called in
    let a = and_parts (has_none p.parameters) (has_result false p.result && inner) h in
    let b = and_parts (has_result false p.result) inner a.1 in
    let apart = are_apart (all_units_in body ++ called_units program called) in
    let c = and_parts (are_steps program called head body false (labels_in body ++ []) body)
    (apart && (fits && (waiting && all))) b.1 in
    let d = and_parts apart (fits && (waiting && all)) c.1 in
    let f = and_parts fits (waiting && all) d.1 in
    let g = and_parts waiting all f.1 in
    record {
      head = head;
      body = body;
      others = ps;
      main = e ∙ ap (λ x. x ∷ ps) (procedure_is p a.0
          ∙ ap (λ (t : Option Y.LeafType).
          let q : Y.Procedure = record { block = Y.BlockOf head body; parameters = []; result = t } in q)
          (result_is false p.result b.0).is);
      plain = plain;
      loadable = load;
      memory = memory;
      called = called;
      steps = c.0;
      apart = d.0;
      fits = leb-true (statements_need body) held_registers f.0;
      waiting = leb-true (statements_set body) most_waiting g.0;
      calls = g.1;
    }

-- ---- in a run

-- with its units
abbrev pub units_for : {program : Y.Program} → Main program → UnitPlaces
units_for m = places_of (all_ons m)

abbrev pub run_for : {program : Y.Program} → Main program → (input : List ℕ) → (acts : ℕ) → Run
run_for m input acts = record { units = units_for m; input = input; acts = acts; serials = most_words }

abbrev pub surroundings_for : {program : Y.Program} → Main program → (input : List ℕ) → (acts : ℕ) → Surroundings
surroundings_for {program} m input acts = surroundings_of (image_for program (run_for m input acts))

abbrev pub start_for : {program : Y.Program} → Main program → (input : List ℕ) → (acts : ℕ) → Point
start_for {program} m input acts = start_point (image_for program (run_for m input acts))

abbrev pub main_for : {program : Y.Program} → Main program → (input : List ℕ) → (acts : ℕ) → Callee
main_for {program} m input acts =
    main_of (whole_for program (placed m) (run_for m input acts) (made_for program m.head))

pub level_of : {program : Y.Program} (m : Main program) → m.head.level ≡ 0
level_of {program} m = (subst HasMain m.main m.loadable.well_formed.main).0

-- what its temporaries take
list_takes :
    {program : Y.Program} (m : Main program) →
    Sets (statements_need (list_of m)) (statements_set (list_of m)) none_taken (stmts_take none_taken m.body)
list_takes {program} m =
    steps_taken program m.called m.head (list_of m) false (labels_in m.body ++ []) (list_of m) m.steps m.fits

-- the statements that it may have, as a scope
abbrev pub main_scope : {program : Y.Program} → Main program → (writes : Bool) → Scope
main_scope {program} m writes = scope_in program m.called (list_of m) m.head false writes

block_taken :
    {program : Y.Program} (m : Main program) →
    Sets (statements_need (list_of m)) (statements_set (list_of m)) none_taken
    (block_takes program m.head.number m.body)
block_taken {program} m =
    let plain = block_plain program.variables m.head.number m.plain in
    behind_variables (main_scope m false) program m.head.number (statements_need (list_of m))
    (statements_set (list_of m)) m.body plain.plain (list_takes m)

pub own_words :
    {program : Y.Program} (m : Main program) →
    (procedure_for program m.head m.body).words ≡ statements_set (list_of m)
own_words {program} m = let n = (block_taken m).words in omega (arith, n)

-- it saves as many registers as they take
pub main_held :
    {program : Y.Program} (m : Main program) →
    statements_need (list_of m) ≤ block_held (environment_for program m.head) m.head.number m.body
main_held {program} m =
    let n = (block_taken m).registers in
    let fits = m.fits in
    omega (arith, n, fits)

parented : (level parent : ℕ) → level ≡ 0 → HasParent level parent []
parented level parent e = subst (λ n. HasParent n parent []) (sym e) tt

pub main_room :
    {program : Y.Program} (m : Main program) (input : List ℕ) (acts : ℕ) →
    HasRoom (surroundings_for m input acts)
    (start_for m input acts) (procedure_for program m.head m.body)
    (main_for m input acts).calling
main_room {program} m input acts =
    let words = own_words m in
    let waiting = m.waiting in
    let level = level_of m in
    record {
      room = omega (arith, words, waiting, level);
      shallow = refl;
      parent = parented m.head.level 0 level;
      idle = refl;
    }

abbrev pub main_layer : {program : Y.Program} → Main program → (input : List ℕ) → (acts : ℕ) → Layer
main_layer {program} m input acts =
    layer_for (surroundings_for m input acts)
    (start_for m input acts) no_numbers (procedure_for program m.head m.body)
    (main_for m input acts).calling

abbrev pub main_begun : {program : Y.Program} → Main program → (input : List ℕ) → (acts : ℕ) → Point
main_begun {program} m input acts =
    begun_at (surroundings_for m input acts)
    (main_for m input acts)
    (start_for m input acts) no_numbers

pub main_spare :
    {program : Y.Program} (m : Main program) (input : List ℕ) (acts : ℕ) →
    HaveRoom (surroundings_for m input acts) (main_begun m input acts)
    (main_layer m input acts) [] (fixed_size m.head.level 0)
    (bytes_of (variables_of_block program m.head.number) + spare)
main_spare {program} m input acts =
    let words = own_words m in
    let waiting = m.waiting in
    let level = level_of m in
    let few = (block_plain program.variables m.head.number m.plain).room in
    let code = m.loadable.fits in
    record {
      newest = refl;
      here = refl;
      even = omega (arith, words, level);
      counted = omega (arith, level, few);
      fits = omega (arith, words, waiting, level, few);
      low = omega (arith, code);
      limit = omega (arith, few);
    }

pub main_words :
    {program : Y.Program} (m : Main program) (input : List ℕ) (acts : ℕ) →
    HasWords (surroundings_for m input acts) (linked_code (code_for program))
    (main_for m input acts)
    (start_for m input acts) no_numbers
main_words {program} m input acts =
    let found = main_found program (placed m) m.main in
    let kind = (known program m.head m.body None m.loadable.well_formed found).kind in
    let plain = block_plain program.variables m.head.number m.plain in
    let n = bytes_of (variables_of_block program m.head.number) in
    record {
      kind = kind;
      coded = refl;
      block = refl;
      level = refl;
      program = refl;
      parts = refl;
      bare = ap parameters_in found;
      made = refl;
      plain = plain.plain;
      few = plain.few;
      tabled = has_table program m.head (all_known program.variables m.plain);
      begin = block_begins program m.head m.body [] None m.memory (all_known program.variables m.plain) found;
      room = room_fewer (surroundings_for m input acts) (main_begun m input acts)
          (main_layer m input acts) [] (fixed_size m.head.level 0) n (n + spare) (omega arith)
          (main_spare m input acts);
    }

pub main_all :
    {program : Y.Program} (m : Main program) (input : List ℕ) (acts : ℕ) →
    AreAllBegun (surroundings_for m input acts) (linked_code (code_for program))
    (main_for m input acts)
    (start_for m input acts) no_numbers (words_in (environment_for program m.head))
main_all {program} m input acts =
    all_words (surroundings_for m input acts) (linked_code (code_for program))
    (main_for m input acts)
    (start_for m input acts) no_numbers (main_words m input acts)

abbrev pub block_for : {program : Y.Program} → Main program → (input : List ℕ) → (acts : ℕ) → Block
block_for {program} m input acts =
    block_at (surroundings_for m input acts) (linked_code (code_for program))
    (main_for m input acts)
    (start_for m input acts) no_numbers

-- it may name its own variables
main_owns :
    {program : Y.Program} (m : Main program) (x : Spot) →
    list_any (is_place x) (places_to (environment_for program m.head) m.head.level) ≡ true →
    (x.block ≡ m.head.number) × (x.level ≡ m.head.level)
main_owns {program} m x h =
    let e = environment_for program m.head in
    let there = around_is e m.head.level x h in
    let less = there.0 in
    let level = level_of m in
    let same : x.level ≡ m.head.level = omega (arith, less, level) in (
      there.1 ∙ ap (λ n. block_around e n) same
          ∙ own_block program m.head m.body None (main_found program (placed m) m.main),
      same,
    )

pub own_known :
    {program : Y.Program} (m : Main program) (input : List ℕ) (acts : ℕ) (x : Spot) →
    is_known (main_scope m false) x ≡ true → IsOwnWord (main_for m input acts) x
own_known {program} m input acts x h =
    let plain = is_plain_if (declared_variable program (variable_of x)) in
    let a = and_parts (list_any (is_place x) (places_to (environment_for program m.head) m.head.level)) plain h in
    let b = main_owns m x a.0 in
    record { block = b.0; level = b.1; plain = a.1 }

pub own_array_known :
    {program : Y.Program} (m : Main program) (input : List ℕ) (acts : ℕ) (x : Spot) →
    is_array_known (main_scope m false) x ≡ true → IsOwnArray (main_for m input acts) x
own_array_known {program} m input acts x h =
    let array = is_array_if (declared_variable program (variable_of x)) in
    let a = and_parts (list_any (is_place x) (places_to (environment_for program m.head) m.head.level)) array h in
    let b = main_owns m x a.0 in
    record { block = b.0; level = b.1; array = a.1 }

pub own_narrow_known :
    {program : Y.Program} (m : Main program) (input : List ℕ) (acts : ℕ) (x : Spot) →
    is_narrow_known (main_scope m false) x ≡ true → IsOwnNarrow (main_for m input acts) x
own_narrow_known {program} m input acts x h =
    let narrow = is_narrow_if (declared_variable program (variable_of x)) in
    let a = and_parts (list_any (is_place x) (places_to (environment_for program m.head) m.head.level)) narrow h in
    let b = main_owns m x a.0 in
    record { block = b.0; level = b.1; narrow = a.1 }

abbrev pub most_for : Y.Program → ℕ
most_for program = length (linked_code (code_for program)) + 2

-- each variable that the main procedure may name is a number of its block
pub main_number :
    {program : Y.Program} (m : Main program) (input : List ℕ) (acts : ℕ) (x : Spot) →
    IsOwnWord (main_for m input acts) x → IsBegun (block_for m input acts) → IsNumber (block_for m input acts) x
main_number {program} m input acts x own b =
    own_word (surroundings_for m input acts) (linked_code (code_for program)) (main_for m input acts)
    (start_for m input acts) (start_for m input acts) no_numbers x
    (record { high = omega arith; inside = omega arith }) (main_words m input acts, main_all m input acts) own b

-- and each array an array of it
pub own_main_array :
    {program : Y.Program} (m : Main program) (input : List ℕ) (acts : ℕ) (x : Spot) →
    IsOwnArray (main_for m input acts) x → IsBegun (block_for m input acts) →
    IsArray (block_for m input acts) x (grid_known (main_scope m false) x)
own_main_array {program} m input acts x own b =
    own_array (surroundings_for m input acts) (linked_code (code_for program)) (main_for m input acts)
    (start_for m input acts) (start_for m input acts) no_numbers x
    (record { high = omega arith; inside = omega arith }) (main_words m input acts, main_all m input acts) own b

pub main_array :
    {program : Y.Program} (m : Main program) (input : List ℕ) (acts : ℕ) (x : Spot) →
    is_array_known (main_scope m false) x ≡ true → IsBegun (block_for m input acts) →
    IsArray (block_for m input acts) x (grid_known (main_scope m false) x)
main_array m input acts x h b = own_main_array m input acts x (own_array_known m input acts x h) b

-- and each scalar of fewer bits one of it
pub main_narrow :
    {program : Y.Program} (m : Main program) (input : List ℕ) (acts : ℕ) (x : Spot) →
    is_narrow_known (main_scope m false) x ≡ true → IsBegun (block_for m input acts) →
    IsScalar (block_for m input acts) x (type_known (main_scope m false) x)
main_narrow {program} m input acts x h b =
    own_narrow (surroundings_for m input acts) (linked_code (code_for program)) (main_for m input acts)
    (start_for m input acts) (start_for m input acts) no_numbers x
    (record { high = omega arith; inside = omega arith }) (main_words m input acts, main_all m input acts)
    (own_narrow_known m input acts x h) b

-- ---- where units are raised in it

-- the one activation, with the variables and the units that it has by then
abbrev pub alone : (level : ℕ) → List Binding → List (Condition × OnUnit) → List Activation
alone level bindings units =
    record { height = 1; level = level; parent = 0; oncode = 0; bindings = bindings; units = units } ∷ []

pub record Alone (level : ℕ) (ons : List (T.OnUnit × ℕ)) (as' : List Activation) : Type 0 where
  pub bindings : List Binding
  pub units : List (Condition × OnUnit)
  pub own : AreOwn ons units
  pub is : as' ≡ alone level bindings units

made_alone :
    (level : ℕ) (ons : List (T.OnUnit × ℕ)) (φ : Layer) (xs : List Declared) (p : Point) →
    Alone level ons p.state.activations → Alone level ons (all_made image_parts φ xs p).state.activations
made_alone level ons φ [] p h = h
made_alone level ons φ (x ∷ xs) p h =
    let b : Binding = record {
      variable = x.index;
      name = VariableName (p.state.serials + 1);
      shape = (generation_for x).shape;
    } in
    made_alone level ons (layer_behind image_parts (p.state.serials + 1) φ x) xs (behind_made image_parts φ x p)
    (record { bindings = b ∷ h.bindings; units = h.units; own = h.own; is = ap (λ as'. with_binding b as') h.is })

pub first_alone :
    {program : Y.Program} (m : Main program) (input : List ℕ) (acts : ℕ) →
    Alone m.head.level (ons_of m) (block_for m input acts).first.state.activations
first_alone {program} m input acts =
    made_alone m.head.level (ons_of m) (main_layer m input acts) (words_in (environment_for program m.head))
    (main_begun m input acts)
    (record { bindings = []; units = []; own = tt; is = refl })

-- the layer behind its variables, with what stays free
abbrev pub layer_behind_all : {program : Y.Program} → Main program → (input : List ℕ) → (acts : ℕ) → Layer
layer_behind_all {program} m input acts =
    layer_after image_parts ((main_begun m input acts).state.serials + 1) (main_layer m input acts)
    (words_in (environment_for program m.head))

pub free :
    {program : Y.Program} (m : Main program) (input : List ℕ) (acts : ℕ) →
    HaveRoom (surroundings_for m input acts)
    (all_made image_parts (main_layer m input acts) (words_in (environment_for program m.head))
    (main_begun m input acts))
    (layer_behind_all m input acts) []
    (fixed_size m.head.level 0 + bytes_of (variables_of_block program m.head.number)) spare
free {program} m input acts =
    room_behind (surroundings_for m input acts) (main_begun m input acts) (main_layer m input acts) []
    (environment_for program m.head) (fixed_size m.head.level 0) 0 spare
    (variables_of_block program m.head.number) (block_plain program.variables m.head.number m.plain).plain
    (main_spare m input acts)
